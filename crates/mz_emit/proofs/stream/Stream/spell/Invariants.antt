use Rattle.std.proofs.Common.{[]}
use Rattle.mz_logic_theory.specs.Tree.{trees_size}
use Rattle.mz_emit.specs.Going.{Going, Job, to_do}
use Rattle.mz_emit.proofs.stream.Stream.spell.Given as goal

abbrev pub invariant-loop-id : goal.invariant-loop-id
invariant-loop-id l = (o : Job) → Going o l.store l.initial.self [] → Going o l.store l.self []

abbrev pub decreases-loop-id : goal.decreases-loop-id
decreases-loop-id l = trees_size (to_do l.store l.self.todo.items)
