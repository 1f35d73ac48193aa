use Rattle.std.proofs.Common.{◌≤◌, ◌∙◌, ℕ, List, take, sym, ap, subst, length, arith}
use Rattle.std.proofs.lemmas.List.{length-take-le}
use Rattle.mz_show.specs.Streams.{EndStands, LeadsTo}
use Rattle.mz_show.proofs.Parts.{empty-passes, empty-fails, unify-run, proof-run, unify-fails, body-fails, length-fails, streams-pass, streams-refused}
use Rattle.mz_show.proofs.statement.list_streams.Goals as goal

pub returns-in_err-check_empty : goal.returns-in_err-check_empty
returns-in_err-check_empty c =
    streams-refused c.args.mmb.now c.args.place c.args.head _ _ c.from_residual.result c.in_err-check_empty.field-0.0 c.from_residual.ensures.1
    (empty-fails c.args.mmb.now c.args.place c.args.head _ c.in_err-check_empty.field-0.0 (sym c.has_streams.ensures ∙ c.if-not-has_streams.true) c.requires.head_is c.in_err-check_empty.ensures)

pub returns-then-not-has_streams : goal.returns-then-not-has_streams
returns-then-not-has_streams c =
    empty-passes c.args.mmb.now c.args.place c.args.head _ c.args.text.now.items (sym c.has_streams.ensures ∙ c.if-not-has_streams.true) c.requires.head_is c.in_ok-check_empty.ensures

pub returns-then-not-end_stands : goal.returns-then-not-end_stands
returns-then-not-end_stands c =
    let u = unify-run c.args.mmb.now c.args.place c.args.head c.file-file.result.now c.unify_at-unify_from.result c.in_ok-unify_end.unify_end _ _ c.file-file.ensures.file c.unify_at-unify_from.ensures.place c.in_ok-unify_end.ensures.run in
    unify-fails c.args.mmb.now c.args.place c.args.head _ c.in_ok-unify_end.unify_end _ _ c.refusal.result (sym c.has_streams.ensures ∙ c.if-not-has_streams.false) c.requires.head_is u
    (λ ends. let is = c.end_stands.ensures.1 (subst (λ (bytes : List ℕ). EndStands bytes c.in_ok-unify_end.unify_end) (sym c.file-file.ensures.file) ends) in absurd cc)
    c.refusal.ensures

pub slice_bounds-statement-end : goal.slice_bounds-statement-end
slice_bounds-statement-end c =
    let within : c.args.head.next ≤ length c.file-file.result.now = omega (arith, c.requires.within, ap length c.file-file.ensures.file) in
    sym (length-take-le c.args.head.next c.file-file.result.now within)

pub list_commands-requires-2-clause-within : goal.list_commands-requires-2-clause-within
list_commands-requires-2-clause-within c =
    let within : c.args.head.next ≤ length c.file-file.result.now = omega (arith, c.requires.within, ap length c.file-file.ensures.file) in
    omega (arith, c.requires.next_after, length-take-le c.args.head.next c.file-file.result.now within)

pub returns-then-not-end_stands-2 : goal.returns-then-not-end_stands-2
returns-then-not-end_stands-2 c =
    let u = unify-run c.args.mmb.now c.args.place c.args.head c.file-file.result.now c.unify_at-unify_from.result c.in_ok-unify_end.unify_end _ _ c.file-file.ensures.file c.unify_at-unify_from.ensures.place c.in_ok-unify_end.ensures.run in
    let p = proof-run c.args.mmb.now c.args.place c.args.head c.file-file.result.now c.in_ok-body_end.body_end _ _ c.file-file.ensures.file c.in_ok-body_end.ensures.run in
    body-fails c.args.mmb.now c.args.place c.args.head _ c.in_ok-unify_end.unify_end c.in_ok-body_end.body_end _ _ _ _ c.refusal-then-not-end_stands-2.result
    (sym c.has_streams.ensures ∙ c.if-not-has_streams.false) c.requires.head_is u
    (subst (λ (bytes : List ℕ). EndStands bytes c.in_ok-unify_end.unify_end) c.file-file.ensures.file (c.end_stands.ensures.0 c.if-not-end_stands.false)) p
    (λ ends. let is = c.end_stands-2.ensures.1 (subst (λ (bytes : List ℕ). EndStands (take c.args.head.next bytes) c.in_ok-body_end.body_end) (sym c.file-file.ensures.file) ends) in absurd cc)
    c.refusal-then-not-end_stands-2.ensures

pub returns-then-not-leads_to : goal.returns-then-not-leads_to
returns-then-not-leads_to c =
    let u = unify-run c.args.mmb.now c.args.place c.args.head c.file-file.result.now c.unify_at-unify_from.result c.in_ok-unify_end.unify_end _ _ c.file-file.ensures.file c.unify_at-unify_from.ensures.place c.in_ok-unify_end.ensures.run in
    let p = proof-run c.args.mmb.now c.args.place c.args.head c.file-file.result.now c.in_ok-body_end.body_end _ _ c.file-file.ensures.file c.in_ok-body_end.ensures.run in
    length-fails c.args.mmb.now c.args.place c.args.head _ c.in_ok-unify_end.unify_end c.in_ok-body_end.body_end _ _ _ _ c.refusal-then-not-leads_to.result
    (sym c.has_streams.ensures ∙ c.if-not-has_streams.false) c.requires.head_is u
    (subst (λ (bytes : List ℕ). EndStands bytes c.in_ok-unify_end.unify_end) c.file-file.ensures.file (c.end_stands.ensures.0 c.if-not-end_stands.false)) p
    (subst (λ (bytes : List ℕ). EndStands (take c.args.head.next bytes) c.in_ok-body_end.body_end) c.file-file.ensures.file (c.end_stands-2.ensures.0 c.if-not-end_stands-2.false))
    (λ leads. let is = c.leads_to.ensures.1 (subst (λ (bytes : List ℕ). LeadsTo (take c.args.head.next bytes) c.in_ok-body_end.body_end c.args.head.next) (sym c.file-file.ensures.file) leads) in absurd cc)
    c.refusal-then-not-leads_to.ensures

pub returns : goal.returns
returns c =
    let u = unify-run c.args.mmb.now c.args.place c.args.head c.file-file.result.now c.unify_at-unify_from.result c.in_ok-unify_end.unify_end _ _ c.file-file.ensures.file c.unify_at-unify_from.ensures.place c.in_ok-unify_end.ensures.run in
    let p = proof-run c.args.mmb.now c.args.place c.args.head c.file-file.result.now c.in_ok-body_end.body_end _ _ c.file-file.ensures.file c.in_ok-body_end.ensures.run in
    streams-pass c.args.mmb.now c.args.place c.args.head _ c.in_ok-unify_end.unify_end c.in_ok-body_end.body_end _ _ _ _ _
    (sym c.has_streams.ensures ∙ c.if-not-has_streams.false) c.requires.head_is u
    (subst (λ (bytes : List ℕ). EndStands bytes c.in_ok-unify_end.unify_end) c.file-file.ensures.file (c.end_stands.ensures.0 c.if-not-end_stands.false))
    c.in_ok-extend_from_slice.ensures.items p
    (subst (λ (bytes : List ℕ). EndStands (take c.args.head.next bytes) c.in_ok-body_end.body_end) c.file-file.ensures.file (c.end_stands-2.ensures.0 c.if-not-end_stands-2.false))
    (subst (λ (bytes : List ℕ). LeadsTo (take c.args.head.next bytes) c.in_ok-body_end.body_end c.args.head.next) c.file-file.ensures.file (c.leads_to.ensures.0 c.if-not-leads_to.false))
    c.in_ok-extend_from_slice-2.ensures.items
