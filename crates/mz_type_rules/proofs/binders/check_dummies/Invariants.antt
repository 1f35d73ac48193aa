use Rattle.std.proofs.Common.{drop}
use Rattle.mz_base.proofs.Offered.{Decides}
use Rattle.mz_mmu_theory.specs.Rules.{dummy_rules}
use Rattle.mz_type_rules.proofs.binders.check_dummies.Given as goal

abbrev pub invariant-loop-i : goal.invariant-loop-i
invariant-loop-i l = Decides (dummy_rules l.env (drop l.i l.dummies) l.left) (dummy_rules l.env l.dummies l.nodes)
