-- What the rows of the machine take from the stack, and what they ask of operands (the .mmb format, the proof machine;
-- the order of premises is this project's own).
use Rattle.std.specs.Prelude.{ℕ, zero, suc, ◌+◌, Bool, true, false, not, ◌==◌, ◌||◌, ◌&&◌, nat_le, if◌then◌else◌, List, [], ◌∷◌, length, Option, Some, None, Result, Ok, Err}
use Rattle.mz_cmd.specs.declared.rule.K.{K}
use Rattle.mz_cmd.specs.declared.rule.K.TheVariants as k
use Rattle.mz_logic_theory.specs.Tree.{Tree}
use Rattle.mz_logic_theory.specs.Signature.{Signature}
use Rattle.mz_logic_theory.specs.Legality.{sort_of}
use Rattle.mz_logic_theory.specs.declared.binder.Binder.{Binder}
use Rattle.mz_logic_theory.specs.declared.binder.SortMods.{SortMods}
use Rattle.mz_logic_theory.specs.Variables.{is_member}
use Rattle.mz_machine_theory.specs.Steps.{◌>>=◌, ◌>>◌, need}
use Rattle.mz_machine_theory.specs.Profile.{Profile, Item, expr, proof, obligation, conversion}
use Rattle.mz_machine_theory.specs.Tests.{has_bit, is_bound_var, var_within}

-- ---- the stack

abbrev pub pop : {T : Type 0} → List (Item T) → Result (Item T × List (Item T)) K
pop [] = Err k.Underflow
pop (x ∷ xs) = Ok (x, xs)

abbrev pub pop_expr : {T : Type 0} → List (Item T) → Result (T × List (Item T)) K
pop_expr [] = Err k.Underflow
pop_expr (expr e ∷ xs) = Ok (e, xs)
pop_expr (_ ∷ xs) = Err k.Kind

abbrev pub pop_proof : {T : Type 0} → List (Item T) → Result (T × List (Item T)) K
pop_proof [] = Err k.Underflow
pop_proof (proof e ∷ xs) = Ok (e, xs)
pop_proof (_ ∷ xs) = Err k.Kind

-- the left side, the right side, and the items below
abbrev pub pop_obligation : {T : Type 0} → List (Item T) → Result (T × T × List (Item T)) K
pop_obligation [] = Err k.Underflow
pop_obligation (obligation l r ∷ xs) = Ok (l, r, xs)
pop_obligation (_ ∷ xs) = Err k.Kind

abbrev pub pop_conversion : {T : Type 0} → List (Item T) → Result (T × T × List (Item T)) K
pop_conversion [] = Err k.Underflow
pop_conversion (conversion l r ∷ xs) = Ok (l, r, xs)
pop_conversion (_ ∷ xs) = Err k.Kind

-- n expressions, the last one on top, before those taken already
abbrev pub pop_exprs : {T : Type 0} → ℕ → List (Item T) → List T → Result (List T × List (Item T)) K
pop_exprs zero xs es = Ok (es, xs)
pop_exprs (suc n) [] es = Err k.Underflow
pop_exprs (suc n) (expr e ∷ xs) es = pop_exprs n xs (e ∷ es)
pop_exprs (suc n) (_ ∷ xs) es = Err k.Kind

abbrev pub pop_operands : {T : Type 0} → ℕ → List (Item T) → Result (List T × List (Item T)) K
pop_operands n xs = need (nat_le n (length xs)) k.Underflow >> pop_exprs n xs []

-- what Unfold finds below its expression: the two sides, perhaps with the left side once more before
-- them, and the items below
abbrev pub pop_sides : (P : Profile) → List (Item P.T) → Result (P.T × P.T × List (Item P.T)) K
pop_sides P [] = Err k.Underflow
pop_sides P (expr m ∷ xs) = do
  o ← pop_obligation xs
  need (P.same m o.0) k.Unfold
  Ok o
pop_sides P (obligation l r ∷ xs) = if P.portable then Err k.Kind else Ok (l, r, xs)
pop_sides P (_ ∷ xs) = Err k.Kind

abbrev pub is_conversion : {T : Type 0} → Item T → Bool
is_conversion (expr e) = false
is_conversion (proof e) = false
is_conversion (obligation l r) = false
is_conversion (conversion l r) = true

abbrev pub is_obligation : {T : Type 0} → Item T → Bool
is_obligation (expr e) = false
is_obligation (proof e) = false
is_obligation (obligation l r) = true
is_obligation (conversion l r) = false

-- ---- sorts

-- the sort is declared, neither strict nor free
abbrev pub may_be_dummy_sort : Option SortMods → Bool
may_be_dummy_sort None = false
may_be_dummy_sort (Some m) = not (has_bit m.0 1) && not (has_bit m.0 3)

abbrev pub is_provable_sort : Option SortMods → Bool
is_provable_sort None = false
is_provable_sort (Some m) = has_bit m.0 2

abbrev pub bound_count : List Binder → ℕ
bound_count [] = 0
bound_count (b ∷ bs) = if b.bound then suc (bound_count bs) else bound_count bs

-- ---- operands

-- per operand its sort, then that a bound parameter's is a bound variable
abbrev pub operands_fit : List Signature → List Binder → List Tree → List Binder → Result (Unit {0}) K
operands_fit sigs ctx [] ps = Ok tt
operands_fit sigs ctx (e ∷ es) [] = Ok tt
operands_fit sigs ctx (e ∷ es) (p ∷ ps) =
    need (sort_of sigs ctx e == p.sort) k.OperandSort
    >> need (not p.bound || is_bound_var ctx e) k.OperandBound
    >> operands_fit sigs ctx es ps

-- e, the operand at place i whose parameter has these dependencies, holds the variable of no bound
-- parameter from place j on, but of those on which it depends and its own
abbrev pub disjoint_from : List Binder → ℕ → List ℕ → Tree → ℕ → List Tree → List Binder → Bool
disjoint_from ctx i deps e j [] ps = true
disjoint_from ctx i deps e j (f ∷ fs) [] = true
disjoint_from ctx i deps e j (f ∷ fs) (q ∷ qs) =
    (not q.bound || i == j || is_member j deps || not (var_within ctx f e)) && disjoint_from ctx i deps e (j + 1) fs qs

abbrev pub apart_at : List Binder → List Tree → List Binder → ℕ → List Tree → List Binder → Bool
apart_at ctx all params i [] ps = true
apart_at ctx all params i (e ∷ es) [] = true
apart_at ctx all params i (e ∷ es) (p ∷ ps) =
    disjoint_from ctx i p.deps e 0 all params && apart_at ctx all params (i + 1) es ps

-- `AreDisjoint`: whichever of the two operands comes first
abbrev pub are_disjoint : List Binder → List Tree → List Binder → Bool
are_disjoint ctx es params = apart_at ctx es params 0 es params
