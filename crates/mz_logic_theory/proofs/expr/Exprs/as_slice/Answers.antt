use Rattle.std.proofs.Common.{◌∙◌, ap, length}
use Rattle.mz_logic_theory.specs.Tree.{listed}
use Rattle.mz_logic_theory.specs.View.{trees}
use Rattle.mz_logic_theory.proofs.Trees.{length-trees}
use Rattle.mz_logic_theory.proofs.expr.Exprs.as_slice.Goals as goal

pub returns-clause-many : goal.returns-clause-many
returns-clause-many c = length-trees c.deref.result.now ∙ ap (λ es. length (listed es)) (ap trees c.deref.ensures.value ∙ c.self.view_is)
