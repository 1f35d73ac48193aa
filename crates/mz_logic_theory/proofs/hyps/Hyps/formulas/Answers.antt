use Rattle.std.proofs.Common.{subst}
use Rattle.mz_logic_theory.specs.Groups.{Repeats}
use Rattle.mz_logic_theory.proofs.Grouped.{repeats}
use Rattle.mz_logic_theory.proofs.hyps.Hyps.formulas.Goals as goal

pub returns : goal.returns
returns c = subst (Repeats c.self.inside.formulas) c.self.view_is (repeats 0 c.self.inside.formulas c.self.inside.ends.items c.self.invariant.0 c.self.invariant.1)
