use Rattle.std.proofs.Common.{ap, ◌∙◌, sym, subst}
use Rattle.std.specs.Prelude.{reverse, slice_get, Some}
use Rattle.std.proofs.lemmas.Result.{on_ok_weaker}
use Rattle.mz_cmd.specs.declared.code.ProofCode.TheVariants as code
use Rattle.mz_trace.specs.Entries.{IsKept}
use Rattle.mz_trace.specs.Commands.{stage_of, IsAny, Leads}
use Rattle.mz_trace.proofs.Keeping.{ref-has, ref-owed, ref-may, ref_conversion-leads, ref_other-leads}
use Rattle.mz_trace.proofs.state.Making.refer.Goals as goal

pub kept-requires : goal.kept-requires
kept-requires c = subst (λ xs. IsKept xs c.args.place) (sym c.deref.ensures.value) (ref-has c.args.place (stage_of c.args.self.now) IsAny c.requires)

pub pop_owed-requires : goal.pop_owed-requires
pop_owed-requires c =
    let s = stage_of c.args.self.now in
    ref-owed c.args.place s c.in-Conversion.field-0 c.in-Conversion.field-1 c.in-Conversion.tree (ap (λ xs. slice_get xs c.args.place) (sym c.deref.ensures.value) ∙ c.kept.ensures ∙ ap (λ x. Some x) c.in-Conversion.is) IsAny c.requires

pub pay-requires : goal.pay-requires
pay-requires c =
    let s = stage_of c.args.self.now in
    ref-may c.args.place s c.in-Conversion.field-0 c.in-Conversion.field-1 c.in-Conversion.tree (ap (λ xs. slice_get xs c.args.place) (sym c.deref.ensures.value) ∙ c.kept.ensures ∙ ap (λ x. Some x) c.in-Conversion.is)
    c.pop_owed.result.0 c.pop_owed.result.1 (reverse c.pop_owed.new.stack.items) c.pop_owed.ensures IsAny c.requires

pub returns-in-Conversion : goal.returns-in-Conversion
returns-in-Conversion c =
    let s = stage_of c.args.self.now in
    on_ok_weaker c.pay.result (λ pays. ref_conversion-leads c.args.place s c.in-Conversion.field-0 c.in-Conversion.field-1 c.in-Conversion.tree (ap (λ xs. slice_get xs c.args.place) (sym c.deref.ensures.value) ∙ c.kept.ensures ∙ ap (λ x. Some x) c.in-Conversion.is)
    c.pop_owed.result.0 c.pop_owed.result.1 (reverse c.pop_owed.new.stack.items) c.pop_owed.ensures (stage_of c.pay.new.self) pays) c.pay.ensures

pub returns-in_default : goal.returns-in_default
returns-in_default c =
    let s = stage_of c.args.self.now in
    on_ok_weaker c.hold.result (λ is. subst (Leads IsAny code.Ref c.args.place s) (sym is)
    (ref_other-leads c.args.place s c.kept.result (ap (λ xs. slice_get xs c.args.place) (sym c.deref.ensures.value) ∙ c.kept.ensures) (λ a b d e. c.in_default.not-Conversion a b d e))) c.hold.ensures
