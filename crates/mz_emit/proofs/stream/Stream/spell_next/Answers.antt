use Rattle.std.proofs.Common.{◌∙◌, sym, arith}
use Rattle.mz_store.specs.Sharing.{tree_of}
use Rattle.mz_emit.specs.Going.{to_do}
use Rattle.mz_emit.proofs.Going.{refer_done, size_some}
use Rattle.mz_emit.proofs.Marking.{same_place}
use Rattle.mz_emit.proofs.stream.Stream.spell_next.Goals as goal

pub returns-in-Some-clause-does : goal.returns-in-Some-clause-does
returns-in-Some-clause-does c = λ o g.
    let self = c.args.self.now in
    let s = c.args.store.now in
    let place = sym (same_place o.params o.dummies s g.2.statement self.heap.places.items self.heap.len self.met g.2.work g.2.marked c.args.id.0 g.0.0) ∙ sym c.in-Some.ensures in
    (tt, g.1, refer_done o s self.heap.places.items self.heap.len self.met self.out.items (tree_of s c.args.id.0) (to_do s self.todo.items) c.in-Some.place _ g.2 place c.in_ok-put.ensures)

pub returns-in-Some-clause-less : goal.returns-in-Some-clause-less
returns-in-Some-clause-less c = (let some = size_some (tree_of c.args.store.now c.args.id.0) in omega (arith, some))
