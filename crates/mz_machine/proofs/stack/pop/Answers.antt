use Rattle.mz_machine.proofs.Popping.{popped}
use Rattle.mz_machine.proofs.stack.pop.Goals as goal

pub returns-in-Some-clause-ids : goal.returns-in-Some-clause-ids
returns-in-Some-clause-ids c = popped c.args.store.now c.args.stack.now.items c.pop.new.self.items c.in-Some.item c.in-Some.ensures.items c.requires
