use Rattle.std.proofs.Common.{◌≤◌, ◌+◌, ◌*◌, length}
use Rattle.mz_logic_theory.specs.Tree.{Trees, listed, past, size, trees_size}
use Rattle.mz_spec_proved_theory.specs.AlphaTrees.{SameTrees}
use Rattle.mz_match_rows.specs.Numbers.{AreNumbered}
use Rattle.mz_match_rows.proofs.Numbering.{Grows}
use Rattle.mz_match_rows.proofs.pieces.Pieces.+enter.Given as goal

abbrev pub decreases-enter : goal.decreases-enter
decreases-enter l = 2 * size l.expr.now

abbrev pub decreases-enter_all : goal.decreases-enter_all
decreases-enter_all l = 2 * trees_size l.exprs.now + 1

abbrev pub invariant-enter_all-exprs : goal.invariant-enter_all-exprs
invariant-enter_all-exprs l = record {
  few : l.left ≤ length (listed l.exprs);
  grows : Grows l.fn.self l.self;
  list : (fs : Trees) × SameTrees l.publics (past l.left l.exprs) fs × AreNumbered l.self fs l.list;
}

abbrev pub decreases-enter_all-exprs : goal.decreases-enter_all-exprs
decreases-enter_all-exprs l = l.left
