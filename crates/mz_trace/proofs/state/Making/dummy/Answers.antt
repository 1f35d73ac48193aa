use Rattle.std.proofs.Common.{sym, subst}
use Rattle.std.proofs.lemmas.Result.{on_ok_weaker}
use Rattle.mz_cmd.specs.declared.code.ProofCode.TheVariants as code
use Rattle.mz_trace.specs.Commands.{stage_of, IsAny, Leads}
use Rattle.mz_trace.proofs.Keeping.{dummied-is, dummy-leads}
use Rattle.mz_trace.proofs.state.Making.dummy.Goals as goal

pub returns : goal.returns
returns c =
    let s = stage_of c.args.self.now in
    on_ok_weaker c.hold.result (λ is. subst (Leads IsAny code.Dummy c.args.sort s)
    (sym (dummied-is c.args.sort s (stage_of c.variable.new.self) (stage_of c.hold.new.self) c.push.new.self.items c.in_ok-made.made c.in_ok-made.ensures.stage c.in_ok-push.ensures.items c.in_ok-made.ensures.made is))
    (dummy-leads c.args.sort s)) c.hold.ensures
