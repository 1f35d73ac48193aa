use Rattle.std.proofs.Common.{◌∙◌, ap, sym}
use Rattle.mz_pmachine_unify.specs.Entering.{all_made, no_expressions}
use Rattle.mz_pmachine_unify.proofs.Growing.{mode-of}
use Rattle.mz_pmachine_unify.proofs.nodes.Nodes.mode.Goals as goal

pub returns : goal.returns
returns c = sym (mode-of (no_expressions c.self.inside.mode) (all_made c.self.inside.operands.items c.self.inside.nodes.items)) ∙ ap (λ s. s.mode) c.self.view_is
