use Rattle.std.proofs.Common.{length, ap, ◌∙◌}
use Rattle.mz_logic_theory.specs.Tree.{listed}
use Rattle.mz_logic_theory.proofs.Trees.{length-trees}
use Rattle.mz_logic_theory.proofs.expr.Exprs.len.Goals as goal

pub returns : goal.returns
returns c = c.len.ensures ∙ c.self.inside.items.ok.0 ∙ length-trees c.self.inside.items.items ∙ ap (λ es. length (listed es)) c.self.view_is
