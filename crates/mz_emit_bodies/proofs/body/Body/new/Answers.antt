use Rattle.mz_emit_bodies.proofs.Beginning.{begun_as}
use Rattle.mz_emit_bodies.proofs.body.Body.new.Goals as goal

pub returns-clause-begins : goal.returns-clause-begins
returns-clause-begins c = λ o begins. begun_as c.args.before.env.now o c.args.shared.store c.args.shared.variables.items c.in_ok-heap.heap.places.items c.args.params
    c.once.ensures c.requires.behind begins c.ranges.params.fits c.in_ok-heap.ensures.places c.in_ok-heap.ensures.all
    c.in_ok-heap.heap.len c.new-2.result.items c.new-3.result.cells.items c.new-4.result.items c.new-5.result.items
    c.in_ok-heap.ensures.len c.new-2.ensures.items c.new-3.ensures c.new-4.ensures.items c.new-5.ensures.items
