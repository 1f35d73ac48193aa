use Rattle.mz_emit.specs.Going.{to_do}
use Rattle.mz_emit.proofs.Going.{met_tells}
use Rattle.mz_emit.proofs.stream.Stream.has_met.Goals as goal

pub returns : goal.returns
returns c = λ o g. met_tells o c.args.store.now c.args.self.now.heap.places.items c.args.self.now.heap.len c.args.self.now.met c.args.self.now.out.items c.args.id.0 c.deps.result (to_do c.args.store.now c.args.self.now.todo.items) c.are_within.result g.2
    c.deps.ensures.variables c.are_within.ensures
