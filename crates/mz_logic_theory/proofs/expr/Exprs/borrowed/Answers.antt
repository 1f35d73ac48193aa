use Rattle.std.proofs.Common.{◌∙◌, ap}
use Rattle.mz_logic_theory.specs.View.{trees}
use Rattle.mz_logic_theory.proofs.Past.{map-itself}
use Rattle.mz_logic_theory.proofs.expr.Exprs.borrowed.Goals as goal

pub returns : goal.returns
returns c = ap trees (map-itself c.deref.result.now ∙ c.deref.ensures.value) ∙ c.self.view_is
