use Rattle.std.proofs.Common.{drop}
use Rattle.mz_base.proofs.Offered.{Decides}
use Rattle.mz_logic_theory.specs.View.{trees}
use Rattle.mz_logic_theory.proofs.Offered.{exprs_of}
use Rattle.mz_mmu_theory.specs.Rules.{claims_rules}
use Rattle.mz_type_rules.proofs.statements.check_hyps.Given as goal

abbrev pub invariant-loop-i : goal.invariant-loop-i
invariant-loop-i l = Decides (claims_rules l.env l.ctx l.is_axiom (trees (drop l.i (exprs_of l.hyps))) l.left) (claims_rules l.env l.ctx l.is_axiom l.hyps l.nodes)
