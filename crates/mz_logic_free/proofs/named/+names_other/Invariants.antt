use Rattle.std.proofs.Common.{◌↔◌, ◌≤◌, ◌+◌, ◌*◌, drop}
use Rattle.mz_logic_theory.specs.Tree.{size, trees_size}
use Rattle.mz_logic_theory.specs.View.{tree, trees}
use Rattle.mz_logic_free.specs.Narrowed.{AreNarrowed}
use Rattle.mz_logic_free.proofs.Sharing.{IsOther, SomeName}
use Rattle.mz_logic_free.proofs.named.+names_other.Given as goal

abbrev pub decreases-some_name_other : goal.decreases-some_name_other
decreases-some_name_other l = 2 * trees_size l.es.now + 1

abbrev pub decreases-names_other : goal.decreases-names_other
decreases-names_other l = 2 * size (tree l.expr.now)

abbrev pub invariant-some_name_other-loop-e : goal.invariant-some_name_other-loop-e
invariant-some_name_other-loop-e l =
    (SomeName l.ctx (IsOther l.variables l.own) (trees (drop l.e-index l.e-items)) ↔ SomeName l.ctx (IsOther l.variables l.own) l.es)
    × (trees_size (trees (drop l.e-index l.e-items)) ≤ trees_size l.es)
    × AreNarrowed l.ctx l.variables l.narrowed
