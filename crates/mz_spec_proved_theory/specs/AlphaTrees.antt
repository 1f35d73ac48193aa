-- When an expression of a specification and one of a list of statements are the same: the specification numbers the public
-- terms alone, the list all of them (mm0.md, section on definitions; that terms go by numbers is the .mmb format's).
use Rattle.std.specs.Prelude.{◌≡◌, ◌<◌, ◌+◌, ◌⊎◌, ⊤, ℕ, List, Option, Some, slice_get}
use Rattle.mz_logic_theory.specs.Tree.{Tree, Trees, var, app, none, more}
use Rattle.mz_logic_theory.specs.declared.binder.Binder.{Binder}

-- The same applications, where the specification's k-th term is the k-th of the rows, over variables of which each pair
-- has V. A row that isn't among them, as a local definition's, is the partner of none.
abbrev mutual
  pub SameOver : (ℕ → ℕ → Type 0) → List ℕ → Tree → Tree → Type 0
  SameOver V rows (var x) (var y) = V x y
  SameOver V rows (var x) (app t fs) = ⊥
  SameOver V rows (app k es) (var y) = ⊥
  SameOver V rows (app k es) (app t fs) = (slice_get rows k ≡ Some t) × AllSameOver V rows es fs

  pub AllSameOver : (ℕ → ℕ → Type 0) → List ℕ → Trees → Trees → Type 0
  AllSameOver V rows none none = ⊤
  AllSameOver V rows none (more f fs) = ⊥
  AllSameOver V rows (more e es) none = ⊥
  AllSameOver V rows (more e es) (more f fs) = SameOver V rows e f × AllSameOver V rows es fs

-- over the same variables
abbrev pub SameTree : List ℕ → Tree → Tree → Type 0
SameTree rows e f = SameOver (λ x y. x ≡ y) rows e f

abbrev pub SameTrees : List ℕ → Trees → Trees → Type 0
SameTrees rows es fs = AllSameOver (λ x y. x ≡ y) rows es fs

-- ---- bodies of definitions

-- Which of the dummies ds each of the dummies es stands for, if it occurs: one of its sort, and no two for the same.
pub record Pairs (ds es : List Binder) (pairs : List (Option ℕ)) : Type 0 where
  pub keeps_sorts : (k p : ℕ) → slice_get pairs k ≡ Some (Some p) → (d : Binder) × (e : Binder) × (slice_get ds p ≡ Some d) × (slice_get es k ≡ Some e) × (d.sort ≡ e.sort)
  pub one_to_one : (k l p : ℕ) → slice_get pairs k ≡ Some (Some p) → slice_get pairs l ≡ Some (Some p) → k ≡ l

-- after n parameters, which stand for themselves
abbrev pub IsPaired : ℕ → List (Option ℕ) → ℕ → ℕ → Type 0
IsPaired n pairs x y =
    ((x ≡ y) × (y < n))
    ⊎ ((p : ℕ) × (k : ℕ) × (x ≡ n + p) × (y ≡ n + k) × (slice_get pairs k ≡ Some (Some p)))

-- the same up to the names of dummies
abbrev pub SameBody : List ℕ → ℕ → List Binder → List Binder → Tree → Tree → Type 0
SameBody rows n ds es e f = (pairs : List (Option ℕ)) × Pairs ds es pairs × SameOver (IsPaired n pairs) rows e f
