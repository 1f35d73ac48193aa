use Rattle.std.proofs.Common.{subst, arith}
use Rattle.std.proofs.lemmas.List.{length-reverse}
use Rattle.mz_trace.specs.Commands.{stage_of, PaysOne}
use Rattle.mz_trace.proofs.Paying.{itself, then-paid, then-passed, may-pay}
use Rattle.mz_trace.proofs.state.Making.pay.Goals as goal

pub frames-init : goal.frames-init
frames-init c = itself (stage_of c.args.self.now) c.args.tree

pub pay_one-requires : goal.pay_one-requires
pay_one-requires c = may-pay (stage_of c.args.self.now) c.args.tree (stage_of c.frames.self) c.frames.paid c.requires c.frames.invariant

pub frames-preserved : goal.frames-preserved
frames-preserved c = then-passed (stage_of c.args.self.now) c.args.tree (stage_of c.frames.self) c.frames.paid (stage_of c.pay_one.new.self) c.in-Some.whole c.frames.invariant
    (subst (PaysOne (stage_of c.frames.self) c.frames.paid (stage_of c.pay_one.new.self)) c.in-Some.is c.in_ok-whole.ensures).0

pub frames-smaller : goal.frames-smaller
frames-smaller c =
    let fewer = (subst (PaysOne (stage_of c.frames.self) c.frames.paid (stage_of c.pay_one.new.self)) c.in-Some.is c.in_ok-whole.ensures).1 in
    omega (arith, fewer, length-reverse c.pay_one.new.self.stack.items, length-reverse c.frames.self.stack.items)

pub returns-in-None : goal.returns-in-None
returns-in-None c = then-paid (stage_of c.args.self.now) c.args.tree (stage_of c.frames.self) c.frames.paid (stage_of c.pay_one.new.self) c.frames.invariant
    (subst (PaysOne (stage_of c.frames.self) c.frames.paid (stage_of c.pay_one.new.self)) c.in-None.is c.in_ok-whole.ensures)
