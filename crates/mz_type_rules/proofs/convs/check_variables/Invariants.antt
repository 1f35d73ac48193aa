use Rattle.std.proofs.Common.{◌≤◌, drop, length}
use Rattle.mz_base.proofs.Offered.{Decides}
use Rattle.mz_mmu_theory.specs.Rules.{variable_rules}
use Rattle.mz_type_rules.proofs.convs.check_variables.Given as goal

abbrev pub invariant-loop-i : goal.invariant-loop-i
invariant-loop-i l = record {
  decides : Decides (variable_rules l.ctx (drop l.i l.places) l.left (drop l.i l.dummies)) (variable_rules l.ctx l.vars l.nodes l.dummies);
  within : l.i ≤ length l.dummies;
}
