use Rattle.std.proofs.Common.{ℕ, ◌<◌, length, List, All, IsTrue, ◌↔◌, Bool}
use Rattle.std.proofs.lemmas.Option.{slice_get_within}
use Rattle.mz_logic_theory.specs.Variables.{IsBoundAt}
use Rattle.mz_logic_theory.specs.declared.binder.Binder.{Binder}
use Rattle.mz_type_rules.proofs.binders.are_bound.Goals as goal

without_end : (r : Bool) (ps : List Binder) (places : List ℕ) → IsTrue r ↔ All (λ j. (j < length ps) × IsBoundAt ps j) places → IsTrue r ↔ All (IsBoundAt ps) places
without_end r ps places h = (λ t k d below. (h.0 t k d below).1, λ all. h.1 (λ k d below. in_list _ (all k d below)))
  where
    in_list : (j : ℕ) → IsBoundAt ps j → (j < length ps) × IsBoundAt ps j
    in_list j (b, at, bd) = (slice_get_within ps j b at, (b, at, bd))

pub returns : goal.returns
returns c = without_end c.are_bound_before.result c.args.params.now c.args.places.now c.are_bound_before.ensures
