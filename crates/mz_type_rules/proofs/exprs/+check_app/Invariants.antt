use Rattle.std.proofs.Common.{◌+◌, ◌*◌}
use Rattle.mz_base.proofs.Offered.{Decides}
use Rattle.mz_logic_theory.specs.Declaration.{signatures}
use Rattle.mz_logic_theory.specs.Tree.{past, trees_size}
use Rattle.mz_mmu_theory.specs.Rules.{exprs_rules}
use Rattle.mz_type_rules.proofs.exprs.+check_app.Given as goal

abbrev pub decreases-check_app : goal.decreases-check_app
decreases-check_app l = 2 * trees_size l.es.now + 1

abbrev pub decreases-check_borrowed_exprs : goal.decreases-check_borrowed_exprs
decreases-check_borrowed_exprs l = 2 * trees_size l.es.now

abbrev pub invariant-check_borrowed_exprs-loop-i : goal.invariant-check_borrowed_exprs-loop-i
invariant-check_borrowed_exprs-loop-i l = Decides (exprs_rules (signatures l.env) l.ctx (past l.i l.es) l.left) (exprs_rules (signatures l.env) l.ctx l.es l.nodes)
