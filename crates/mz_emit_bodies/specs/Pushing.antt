-- Expressions to be pushed.
use Rattle.std.specs.Prelude.{List, map}
use Rattle.mz_store.specs.declared.item.Id.{Id}
use Rattle.mz_emit_bodies.specs.TaskInvariant.{Task, push}

abbrev pub pushes : List Id → List Task
pushes is = map (λ (i : Id). push i.0) is
