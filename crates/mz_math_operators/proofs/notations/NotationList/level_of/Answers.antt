use Rattle.std.proofs.Common.{◌∙◌, List, MatchOption, subst, ℕ}
use Rattle.mz_math_theory.specs.declared.notation.Notation.{Notation}
use Rattle.mz_math_theory.specs.Clear.{HasConstant}
use Rattle.mz_math_operators.proofs.notations.NotationList.level_of.Goals as goal

pub returns : goal.returns
returns c =
    subst (λ (ks : List Notation). MatchOption c.level_in.result ((q : ℕ) → HasConstant ks c.args.token.now q → ⊥) (λ q. HasConstant ks c.args.token.now q)) (c.deref.ensures.value ∙ c.self.view_is) c.level_in.ensures
