use Rattle.std.proofs.Common.{◌≡◌, ◌++◌, map}
use Rattle.mz_emit.proofs.stream.push_turned.Given as goal

abbrev pub invariant-loop-id : goal.invariant-loop-id
invariant-loop-id l = l.todo.items ≡ l.initial.todo.items ++ map (λ e. e.now) l.yielded
