use Rattle.std.proofs.Common.{drop}
use Rattle.mz_base.proofs.Offered.{Decides}
use Rattle.mz_mmu_theory.specs.Rules.{param_rules}
use Rattle.mz_type_rules.proofs.binders.check_params.Given as goal

abbrev pub invariant-loop-i : goal.invariant-loop-i
invariant-loop-i l = Decides (param_rules l.env l.params l.i (drop l.i l.params) l.left) (param_rules l.env l.params 0 l.params l.nodes)
