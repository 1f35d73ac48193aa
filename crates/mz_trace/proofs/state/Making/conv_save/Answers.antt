use Rattle.std.proofs.Common.{◌∷◌, refl, sym, subst}
use Rattle.std.proofs.lemmas.Result.{on_ok_weaker}
use Rattle.std.specs.Prelude.{reverse}
use Rattle.mz_cmd.specs.declared.code.ProofCode.TheVariants as code
use Rattle.mz_trace.specs.Commands.{stage_of, with_stack, IsAny, Goes, MayPay, Pays}
use Rattle.mz_trace.specs.declared.entry.Item.TheVariants.{Conversion}
use Rattle.mz_trace.specs.declared.entry.Entry.TheVariants.{Held}
use Rattle.mz_trace.proofs.Moves.{leads-to, conv_save-may, conv_save-leads}
use Rattle.mz_trace.proofs.Having.{conv_save-has}
use Rattle.mz_trace.proofs.state.Making.conv_save.Goals as goal

pub pop_conversion-left-requires : goal.pop_conversion-left-requires
pop_conversion-left-requires c = conv_save-has IsAny 0 (stage_of c.args.self.now) c.requires

pub pay-requires : goal.pay-requires
pay-requires c =
    let s = stage_of c.args.self.now in
    let l = c.pop_conversion-left.result.0 in
    let r = c.pop_conversion-left.result.1 in
    let d = c.pop_conversion-left.result.2 in
    let xs = reverse c.pop_conversion-left.new.stack.items in
    subst (λ h. MayPay (record s { heap = h; stack = xs }) d) (sym c.in_ok-keep.ensures)
    (conv_save-may 0 s xs l r d (subst (λ zs. Goes IsAny code.ConvSave 0 (with_stack s zs)) c.pop_conversion-left.ensures c.requires))

pub returns : goal.returns
returns c =
    let s = stage_of c.args.self.now in
    let l = c.pop_conversion-left.result.0 in
    let r = c.pop_conversion-left.result.1 in
    let d = c.pop_conversion-left.result.2 in
    let xs = reverse c.pop_conversion-left.new.stack.items in
    on_ok_weaker c.pay.result (λ pays. leads-to IsAny code.ConvSave 0 s (Held (Conversion l r d) ∷ xs) (stage_of c.pay.new.self) (stage_of c.pay.new.self) c.pop_conversion-left.ensures refl
    (conv_save-leads 0 s xs l r d (stage_of c.pay.new.self) (subst (λ h. Pays (record s { heap = h; stack = xs }) d (stage_of c.pay.new.self)) c.in_ok-keep.ensures pays))) c.pay.ensures
