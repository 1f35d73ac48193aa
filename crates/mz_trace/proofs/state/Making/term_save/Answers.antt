use Rattle.std.proofs.Common.{◌∙◌, sym, subst}
use Rattle.std.proofs.lemmas.Result.{on_ok_weaker}
use Rattle.mz_cmd.specs.declared.code.ProofCode.TheVariants as code
use Rattle.mz_trace.specs.Commands.{stage_of, IsRead, Leads}
use Rattle.mz_trace.proofs.Growth.{may-term_save, whole_saved-is, term_save-leads}
use Rattle.mz_trace.proofs.state.Making.term_save.Goals as goal

pub build-requires : goal.build-requires
build-requires c = may-term_save c.args.mmb.now c.args.t (stage_of c.args.self.now) c.requires

pub returns : goal.returns
returns c =
    let s = stage_of c.args.self.now in
    let s1 = stage_of c.build.new.self in
    let b = c.in_ok-made.ensures in
    on_ok_weaker c.hold.result (λ is. subst (Leads (IsRead c.args.mmb.now) code.TermSave c.args.t s) (sym (is ∙ whole_saved-is c.args.mmb.now c.args.t s s1 c.in_ok-made.made b c.keep.new.heap.items c.in_ok-keep.ensures))
    (term_save-leads c.args.mmb.now c.args.t s s1 c.in_ok-made.made b)) c.hold.ensures
