use Rattle.std.proofs.Common.{◌≡◌, ◌+◌, ◌*◌}
use Rattle.mz_logic_theory.specs.Tree.{past, size, trees_size}
use Rattle.mz_prefix.specs.PublicPart.{any_mentions_local}
use Rattle.mz_prefix.proofs.names.Names.+mentions_local.Given as goal

abbrev pub decreases-mentions_local : goal.decreases-mentions_local
decreases-mentions_local l = 2 * size l.expr.now

abbrev pub decreases-any_mentions_local : goal.decreases-any_mentions_local
decreases-any_mentions_local l = 2 * trees_size l.es.now + 1

abbrev pub invariant-any_mentions_local-loop-i : goal.invariant-any_mentions_local-loop-i
invariant-any_mentions_local-loop-i l = any_mentions_local l.self.locals.items (past l.i l.es) ≡ any_mentions_local l.self.locals.items l.es
