use Rattle.std.proofs.Common.{arith}
use Rattle.mz_prefix.proofs.Writings.{written-on, all-written}
use Rattle.mz_prefix.proofs.names.Names.write.Goals as goal

pub loop-i-preserved : goal.loop-i-preserved
loop-i-preserved c =
    written-on c.args.text.now.statements c.args.self.now c.requires c.loop-i.i c.loop-i.spec.items _ (omega (arith, c.loop-i-test.true, c.len-i-end.ensures.many))
    c.in_ok-put_statement.ensures c.loop-i.invariant

pub returns : goal.returns
returns c = all-written c.args.text.now.statements c.loop-i.i c.loop-i.spec.items (omega (arith, c.loop-i-test.false, c.len-i-end.ensures.many)) c.loop-i.invariant
