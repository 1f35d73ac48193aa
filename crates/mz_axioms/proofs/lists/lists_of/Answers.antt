use Rattle.mz_axioms.proofs.Noting.{listed, lists-told}
use Rattle.mz_axioms.proofs.lists.lists_of.Goals as goal

pub invariant_of-result : goal.invariant_of-result
invariant_of-result c = listed c.args.table c.in_ok-supports.supports.items c.requires.kept c.requires.within c.requires.few c.requires.many c.in_ok-supports.ensures

pub returns : goal.returns
returns c = lists-told c.args.table c.in_ok-supports.supports.items c.in_ok-supports.ensures
