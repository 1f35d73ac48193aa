use Rattle.std.proofs.Common.{◌∷◌, ap, ◌∙◌}
use Rattle.std.specs.Prelude.{reverse}
use Rattle.std.proofs.lemmas.Result.{on_ok_weaker}
use Rattle.mz_cmd.specs.declared.code.ProofCode.TheVariants as code
use Rattle.mz_trace.specs.Commands.{stage_of, with_stack, with_name, on_stack, IsAny}
use Rattle.mz_trace.specs.declared.entry.Item.TheVariants.{Proof}
use Rattle.mz_trace.specs.declared.entry.Entry.TheVariants.{Held}
use Rattle.mz_trace.proofs.Moves.{leads-to}
use Rattle.mz_trace.proofs.Keeping.{save-has, save_proof-leads, save_other-leads, saved_item}
use Rattle.mz_trace.proofs.state.Making.save.Goals as goal

pub pop_held-requires : goal.pop_held-requires
pop_held-requires c = save-has IsAny 0 (stage_of c.args.self.now) c.requires

pub returns-in-Proof : goal.returns-in-Proof
returns-in-Proof c =
    let s = stage_of c.args.self.now in
    let e = c.in-Proof.claim in
    let p = c.in-Proof.proof in
    let xs = reverse c.pop_held.new.stack.items in
    on_ok_weaker c.name.result (λ is. leads-to IsAny code.Save 0 s (Held (Proof e p) ∷ xs) (stage_of c.name.new.self) (with_name (with_stack s xs) e p)
    (c.pop_held.ensures ∙ ap (λ x. Held x ∷ xs) c.in-Proof.is) is (save_proof-leads 0 s xs e p)) c.name.ensures

pub returns-in_ok-keep-in_default : goal.returns-in_ok-keep-in_default
returns-in_ok-keep-in_default c =
    let s = stage_of c.args.self.now in
    let x = c.pop_held.result in
    let xs = reverse c.pop_held.new.stack.items in
    on_ok_weaker c.hold.result (λ is. leads-to IsAny code.Save 0 s (Held x ∷ xs) (stage_of c.hold.new.self) (saved_item 0 s xs x)
    c.pop_held.ensures (is ∙ ap (λ h. on_stack (record s { heap = h; stack = xs }) (Held x)) c.in_ok-keep-in_default.ensures)
    (save_other-leads 0 s xs x (λ e p same. c.in_default.not-Proof e p same))) c.hold.ensures
