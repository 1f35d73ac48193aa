use Rattle.std.proofs.Common.{◌≡◌, ◌∷◌, ap, ◌∙◌, sym}
use Rattle.std.proofs.lemmas.Result.{on_ok_weaker}
use Rattle.std.specs.Prelude.{reverse}
use Rattle.mz_cmd.specs.declared.code.ProofCode.TheVariants as code
use Rattle.mz_trace.specs.Commands.{stage_of, with_stack, IsAny}
use Rattle.mz_trace.specs.declared.entry.Item.TheVariants.{Expr, Proof}
use Rattle.mz_trace.specs.declared.entry.Entry.TheVariants.{Held, Owed, ForProof}
use Rattle.mz_trace.proofs.Moves.{leads-to, conv-leads}
use Rattle.mz_trace.proofs.Having.{conv-has, rest-is}
use Rattle.mz_trace.proofs.state.Making.conv.Goals as goal

pub pop_proof-from-requires : goal.pop_proof-from-requires
pop_proof-from-requires c = let (e, p, f, ys, is) = conv-has IsAny 0 (stage_of c.args.self.now) c.requires in (e, p, Held (Expr f) ∷ ys, is)

pub pop_expr-claim-requires : goal.pop_expr-claim-requires
pop_expr-claim-requires c =
    let (e, p, f, ys, is) = conv-has IsAny 0 (stage_of c.args.self.now) c.requires in
    (f, ys, rest-is (Held (Proof c.pop_proof-from.result.0 c.pop_proof-from.result.1)) (Held (Proof e p)) (reverse c.pop_proof-from.new.stack.items) (Held (Expr f) ∷ ys) (sym c.pop_proof-from.ensures ∙ is))

pub returns : goal.returns
returns c =
    let s = stage_of c.args.self.now in
    let e = c.pop_proof-from.result.0 in
    let p = c.pop_proof-from.result.1 in
    let f = c.pop_expr-claim.result in
    let xs = reverse c.pop_expr-claim.new.stack.items in
    let top : s.stack ≡ Held (Proof e p) ∷ Held (Expr f) ∷ xs = c.pop_proof-from.ensures ∙ ap (λ zs. Held (Proof e p) ∷ zs) c.pop_expr-claim.ensures in
    on_ok_weaker c.push-2.result (λ is. leads-to IsAny code.Conv 0 s (Held (Proof e p) ∷ Held (Expr f) ∷ xs) (with_stack s (reverse c.push-2.new.stack.items)) (with_stack s (Owed f e ∷ ForProof f p ∷ xs)) top
    (ap (with_stack s) (is ∙ ap (λ zs. Owed f e ∷ zs) c.in_ok-push.ensures)) (conv-leads 0 s xs e p f)) c.push-2.ensures
