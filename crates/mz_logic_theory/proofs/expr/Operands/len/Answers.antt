use Rattle.std.proofs.Common.{length, ap, sym, ◌∙◌}
use Rattle.mz_logic_theory.specs.Tree.{listed}
use Rattle.mz_logic_theory.proofs.Past.{length-mapped}
use Rattle.mz_logic_theory.proofs.expr.Operands.len.Goals as goal

pub returns : goal.returns
returns c = sym (length-mapped _ c.self.inside.exprs.now) ∙ ap (λ es. length (listed es)) c.self.view_is
