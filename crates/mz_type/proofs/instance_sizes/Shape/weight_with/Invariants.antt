use Rattle.std.proofs.Common.{◌≡◌, ◌+◌, drop}
use Rattle.mz_logic_theory.specs.Tree.{trees_size}
use Rattle.mz_logic_theory.specs.View.{trees}
use Rattle.mz_type.specs.Shapes.{put_on}
use Rattle.mz_type.proofs.instance_sizes.Shape.weight_with.Given as goal

abbrev pub invariant-loop-i : goal.invariant-loop-i
invariant-loop-i l =
    l.total + (trees_size (trees (drop l.i l.items)) + put_on (trees (drop l.i l.items)) (drop l.i l.self.uses.items)) ≡ trees_size l.es + (l.self.own + put_on l.es l.self.uses.items)
