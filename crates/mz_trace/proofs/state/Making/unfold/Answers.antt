use Rattle.std.proofs.Common.{◌≡◌, ◌∷◌, ℕ, List, length, sym, ap, ◌∙◌, subst, arith}
use Rattle.std.proofs.lemmas.Result.{on_ok_weaker}
use Rattle.std.specs.Prelude.{reverse, drop, slice_get}
use Rattle.mz_cmd.specs.declared.code.ProofCode.TheVariants as code
use Rattle.mz_layout_tables.specs.Tables.{term_row}
use Rattle.mz_machine_env.proofs.Offered.{drop-within}
use Rattle.mz_trace.specs.Nodes.{IsApplication, Applies}
use Rattle.mz_trace.specs.Entries.{HasSides}
use Rattle.mz_trace.specs.Commands.{stage_of, with_stack, IsRead, Goes, MayMeet, Meets}
use Rattle.mz_trace.specs.declared.node.RunNode.{RunNode}
use Rattle.mz_trace.specs.declared.entry.Item.TheVariants.{Expr}
use Rattle.mz_trace.specs.declared.entry.Entry.TheVariants.{Held, Owed, ForUnfolded}
use Rattle.mz_trace.proofs.Having.{rest-is}
use Rattle.mz_trace.proofs.Moves.{leads-to}
use Rattle.mz_trace.proofs.UnfoldingBodies.{unfold-has, unfold-applies, unfold-within, unfold-meets, unfold-leads}
use Rattle.mz_trace.proofs.state.Making.unfold.Goals as goal

pub pop_expr-target-requires : goal.pop_expr-target-requires
pop_expr-target-requires g c = let h = unfold-has (IsRead c.args.mmb.now) 0 (stage_of c.args.self.now) c.requires in (h.0, h.1, h.2)

pub pop_sides-left-requires : goal.pop_sides-left-requires
pop_sides-left-requires g c =
    let h = unfold-has (IsRead c.args.mmb.now) 0 (stage_of c.args.self.now) c.requires in
    let ys = reverse c.pop_expr-target.new.stack.items in
    subst HasSides (sym (rest-is (Held (Expr c.pop_expr-target.result)) (Held (Expr h.0)) ys h.1 (sym c.pop_expr-target.ensures ∙ h.2))) h.3

pub application-term-requires : goal.application-term-requires
application-term-requires g c =
    let s = stage_of c.args.self.now in
    let e = c.pop_expr-target.result in
    let l = c.pop_sides-left.result.0 in
    let r = c.pop_sides-left.result.1 in
    let ys = reverse c.pop_expr-target.new.stack.items in
    let zs = reverse c.pop_sides-left.new.stack.items in
    let goes = subst (λ xs. Goes (IsRead c.args.mmb.now) code.Unfold 0 (with_stack s xs)) c.pop_expr-target.ensures c.requires in
    subst (λ (ns : List RunNode). IsApplication (slice_get ns l)) (sym c.deref.ensures.value) (unfold-applies 0 s ys zs e l r c.pop_sides-left.ensures c.args.mmb.now goes)

pub unify_of_term-requires : goal.unify_of_term-requires
unify_of_term-requires g c =
    let s = stage_of c.args.self.now in
    let e = c.pop_expr-target.result in
    let l = c.pop_sides-left.result.0 in
    let r = c.pop_sides-left.result.1 in
    let ys = reverse c.pop_expr-target.new.stack.items in
    let zs = reverse c.pop_sides-left.new.stack.items in
    let t = c.application-term.result.0 in
    let os = c.application-term.result.1.now in
    let applies = subst (λ (ns : List RunNode). Applies (slice_get ns l) t os) c.deref.ensures.value c.application-term.ensures in
    let goes = subst (λ xs. Goes (IsRead c.args.mmb.now) code.Unfold 0 (with_stack s xs)) c.pop_expr-target.ensures c.requires in
    unfold-within 0 s ys zs e l r c.pop_sides-left.ensures c.args.mmb.now t os applies goes

pub met_variables-requires-clause-fits : goal.met_variables-requires-clause-fits
met_variables-requires-clause-fits g c =
    omega (arith, ap length c.unify_of_term.ensures.rest, drop-within c.args.mmb.now c.unify_of_term.result.0, c.file.ensures.binary.fits)

pub met_variables-requires-clause-runs : goal.met_variables-requires-clause-runs
met_variables-requires-clause-runs g c =
    let s = stage_of c.args.self.now in
    let file = c.args.mmb.now in
    let e = c.pop_expr-target.result in
    let l = c.pop_sides-left.result.0 in
    let r = c.pop_sides-left.result.1 in
    let ys = reverse c.pop_expr-target.new.stack.items in
    let zs = reverse c.pop_sides-left.new.stack.items in
    let t = c.application-term.result.0 in
    let os = c.application-term.result.1.now in
    let applies = subst (λ (ns : List RunNode). Applies (slice_get ns l) t os) c.deref.ensures.value c.application-term.ensures in
    let goes = subst (λ xs. Goes (IsRead file) code.Unfold 0 (with_stack s xs)) c.pop_expr-target.ensures c.requires in
    let stream : c.unify_of_term.result.1.now ≡ drop (term_row file t).stream_at file = c.unify_of_term.ensures.rest ∙ ap (λ at. drop at file) c.unify_of_term.ensures.place in
    subst (λ (ns : List RunNode). MayMeet ns c.unify_of_term.result.1.now e) (sym c.deref-2.ensures.value)
    (subst (λ (z : List ℕ). MayMeet s.nodes z e) (sym stream) (unfold-meets 0 s ys zs e l r c.pop_sides-left.ensures file t os applies goes))

pub returns-clause-leads : goal.returns-clause-leads
returns-clause-leads g c =
    let s = stage_of c.args.self.now in
    let file = c.args.mmb.now in
    let e = c.pop_expr-target.result in
    let l = c.pop_sides-left.result.0 in
    let r = c.pop_sides-left.result.1 in
    let ys = reverse c.pop_expr-target.new.stack.items in
    let zs = reverse c.pop_sides-left.new.stack.items in
    let t = c.application-term.result.0 in
    let os = c.in_ok-operands.operands in
    let met = c.in_ok-met.met in
    let applies = subst (λ (z : List ℕ). Applies (slice_get s.nodes l) t z) (sym c.in_ok-operands.ensures.items)
    (subst (λ (ns : List RunNode). Applies (slice_get ns l) t c.application-term.result.1.now) c.deref.ensures.value c.application-term.ensures) in
    let stream : c.unify_of_term.result.1.now ≡ drop (term_row file t).stream_at file = c.unify_of_term.ensures.rest ∙ ap (λ at. drop at file) c.unify_of_term.ensures.place in
    let meets = subst (λ (z : List ℕ). Meets s.nodes z e met.items) stream
    (subst (λ (ns : List RunNode). Meets ns c.unify_of_term.result.1.now e met.items) c.deref-2.ensures.value c.in_ok-met.ensures.met) in
    on_ok_weaker c.push-2.result (λ is. leads-to (IsRead file) code.Unfold 0 s (Held (Expr e) ∷ ys) (with_stack s (reverse c.push-2.new.stack.items))
    (with_stack s (Owed e r ∷ ForUnfolded t e os met ∷ zs)) c.pop_expr-target.ensures (ap (with_stack s) (is ∙ ap (λ xs. Owed e r ∷ xs) c.in_ok-push.ensures))
    (unfold-leads 0 s ys zs e l r c.pop_sides-left.ensures file t os met applies meets)) c.push-2.ensures
