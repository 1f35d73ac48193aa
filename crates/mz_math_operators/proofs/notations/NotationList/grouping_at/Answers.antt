use Rattle.std.proofs.Common.{◌≡◌, ◌∙◌, List, Contains, MatchOption, sym, subst}
use Rattle.mz_math_theory.specs.declared.notation.Notation.{Notation}
use Rattle.mz_math_operators.specs.Headed.{AreLevelled}
use Rattle.mz_math_operators.proofs.notations.NotationList.grouping_at.Goals as goal

pub returns : goal.returns
returns c =
    subst (λ (ks : List Notation). MatchOption c.grouping_in.result ((k : Notation) → Contains ks k → k.level ≡ c.args.level → ⊥)
    (λ right. (k : Notation) × Contains ks k × (k.level ≡ c.args.level) × (k.is_right ≡ right)))
    (c.deref.ensures.value ∙ c.self.view_is) c.grouping_in.ensures

pub grouping_in-requires : goal.grouping_in-requires
grouping_in-requires c = subst (AreLevelled c.self.inside.levels) (sym c.deref.ensures.value) c.self.invariant.2
