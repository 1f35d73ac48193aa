use Rattle.std.proofs.Common.{◌≡◌, ap, subst, ◌∙◌, option_map, slice_get, MatchOption}
use Rattle.mz_logic_theory.specs.Tree.{app, none, operand, listed}
use Rattle.mz_logic_theory.specs.View.{tree, trees}
use Rattle.mz_logic_theory.proofs.Trees.{listed_of_get, operand_of_get}
use Rattle.mz_logic_theory.proofs.expr.Exprs.get.Goals as goal

pub returns-clause-at : goal.returns-clause-at
returns-clause-at c =
    subst (λ es. option_map (λ e. tree e.now) c.get.result ≡ slice_get (listed es) c.args.i) (ap trees c.deref.ensures.value ∙ c.self.view_is)
    (listed_of_get c.get.result c.deref.result.now c.args.i c.get.ensures.lookup.3)

pub returns-clause-operand : goal.returns-clause-operand
returns-clause-operand c =
    subst (λ es. MatchOption c.get.result (operand es c.args.i ≡ app 0 none) (λ e. operand es c.args.i ≡ tree e.now)) (ap trees c.deref.ensures.value ∙ c.self.view_is)
    (operand_of_get c.get.result c.deref.result.now c.args.i c.get.ensures.lookup.3)
