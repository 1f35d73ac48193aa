-- Two expressions compared from left to right: the pairs of dummies that are made on the way, where they are the same.
use Rattle.std.specs.Prelude.{◌-◌, ℕ, Bool, true, false, ◌==◌, nat_lt, [], ◌∷◌, if◌then◌else◌, List, Option, Some, None, slice_get, slice_set}
use Rattle.std.specs.List.{list_any}
use Rattle.mz_logic_theory.specs.Tree.{Tree, Trees, var, app, none, more}
use Rattle.mz_logic_theory.specs.declared.binder.Binder.{Binder}

-- the number is there, and is this one
abbrev pub is_number : ℕ → Option ℕ → Bool
is_number n None = false
is_number n (Some m) = m == n

-- ---- dummies

abbrev pub has_sort : Option Binder → ℕ → Bool
has_sort None s = false
has_sort (Some b) s = b.sort == s

-- none of the pairs has the place p
abbrev pub is_taken : List (Option ℕ) → ℕ → Bool
is_taken pairs p = list_any (is_number p) pairs

-- no dummy stands for any yet
abbrev pub all_none : List (Option ℕ) → Bool
all_none [] = true
all_none (None ∷ ps) = all_none ps
all_none (Some p ∷ ps) = false

abbrev pub paired_by : List Binder → List (Option ℕ) → ℕ → ℕ → ℕ → Option (Option ℕ) → Option (List (Option ℕ))
paired_by ds pairs k s p None = None
paired_by ds pairs k s p (Some (Some q)) = if q == p then Some pairs else None
paired_by ds pairs k s p (Some None) = if is_taken pairs p then None else (if has_sort (slice_get ds p) s then Some (slice_set pairs k (Some p)) else None)

-- the k-th dummy, of the sort s, stands for the p-th of ds
abbrev pub paired : List Binder → List (Option ℕ) → ℕ → ℕ → ℕ → Option (List (Option ℕ))
paired ds pairs k s p = paired_by ds pairs k s p (slice_get pairs k)

-- the specification's variable x, after n parameters
abbrev pub dummy_compared : ℕ → List Binder → List (Option ℕ) → ℕ → ℕ → ℕ → Option (List (Option ℕ))
dummy_compared n ds pairs k s x = if nat_lt x n then None else paired ds pairs k s (x - n)

-- ---- expressions

-- what is compared: the rows of the specification's terms, the number of parameters, and the dummies of both
pub record Beside : Type 0 where
  pub rows : List ℕ
  pub params : ℕ
  pub ds : List Binder
  pub es : List Binder

-- a variable beside the binary's k-th dummy, if it has so many
abbrev pub beside_dummy : Beside → List (Option ℕ) → ℕ → ℕ → Option Binder → Option (List (Option ℕ))
beside_dummy b pairs x k None = None
beside_dummy b pairs x k (Some d) = dummy_compared b.params b.ds pairs k d.sort x

abbrev pub variable_compared : Beside → List (Option ℕ) → ℕ → ℕ → Option (List (Option ℕ))
variable_compared b pairs x y =
    if nat_lt y b.params then (if x == y then Some pairs else None) else
    beside_dummy b pairs x (y - b.params) (slice_get b.es (y - b.params))

abbrev pub and_then : Option (List (Option ℕ)) → (List (Option ℕ) → Option (List (Option ℕ))) → Option (List (Option ℕ))
and_then None rest = None
and_then (Some pairs) rest = rest pairs

abbrev mutual
  pub compared : Beside → List (Option ℕ) → Tree → Tree → Option (List (Option ℕ))
  compared b pairs (var x) (var y) = variable_compared b pairs x y
  compared b pairs (var x) (app t fs) = None
  compared b pairs (app k es) (var y) = None
  compared b pairs (app k es) (app t fs) = if is_number t (slice_get b.rows k) then all_compared b pairs es fs else None

  pub all_compared : Beside → List (Option ℕ) → Trees → Trees → Option (List (Option ℕ))
  all_compared b pairs none none = Some pairs
  all_compared b pairs none (more f fs) = None
  all_compared b pairs (more e es) none = None
  all_compared b pairs (more e es) (more f fs) = and_then (compared b pairs e f) (λ qs. all_compared b qs es fs)
