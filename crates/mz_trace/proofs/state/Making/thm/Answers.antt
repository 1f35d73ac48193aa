use Rattle.std.proofs.Common.{◌∙◌, sym, subst}
use Rattle.std.proofs.lemmas.Result.{on_ok_weaker}
use Rattle.mz_cmd.specs.declared.code.ProofCode.TheVariants as code
use Rattle.mz_trace.specs.Commands.{stage_of, IsRead, Leads}
use Rattle.mz_trace.proofs.Citing.{may-thm, cites-is, thm-leads}
use Rattle.mz_trace.proofs.state.Making.thm.Goals as goal

pub cite-requires : goal.cite-requires
cite-requires g c = may-thm c.args.mmb.now c.args.t (stage_of c.args.self.now) c.requires

pub returns-clause-leads : goal.returns-clause-leads
returns-clause-leads g c =
    let s = stage_of c.args.self.now in
    let s1 = stage_of c.cite.new.self in
    let r = c.in_ok-claim in
    on_ok_weaker c.hold.result (λ is. subst (Leads (IsRead c.args.mmb.now) code.Thm c.args.t s) (sym (is ∙ cites-is c.args.mmb.now c.args.t s s1 r.claim r.proof r.ensures.cited))
    (thm-leads c.args.mmb.now c.args.t s s1 r.claim r.proof r.ensures.cited)) c.hold.ensures
