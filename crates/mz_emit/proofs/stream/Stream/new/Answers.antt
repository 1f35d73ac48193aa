use Rattle.mz_emit.proofs.Starting.{marked_first}
use Rattle.mz_emit.proofs.stream.Stream.new.Goals as goal

pub returns-clause-ready : goal.returns-clause-ready
returns-clause-ready c = λ ps ds st many. record {
  statement = st;
  marked = marked_first ps ds c.args.store.now st c.args.params c.in_ok-heap.heap.places.items c.in_ok-heap.heap.len c.param_bits.result many c.in_ok-heap.ensures.len c.in_ok-heap.ensures.places c.in_ok-heap.ensures.all
      (c.param_bits.ensures ps ds st many);
  idle = c.new-3.ensures.items;
}
