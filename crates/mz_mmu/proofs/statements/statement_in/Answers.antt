use Rattle.std.proofs.Common.{ℕ, ◌≡◌, ◌∙◌, true, false, ap, sym, subst, refl, inl}
use Rattle.std.specs.Prelude.{bytes_eq, codes}
use Rattle.mz_sexpr.specs.Node.{node, place}
use Rattle.mz_sexpr.specs.declared.rule.U.{U}
use Rattle.mz_sexpr.specs.Number.{node_at, nodes_after}
use Rattle.mz_mmu_theory.specs.Cursor.{nodes_from}
use Rattle.mz_mmu_forms.specs.ScopeView.{names}
use Rattle.mz_mmu_theory.specs.StatementView.{stated}
use Rattle.mz_mmu_theory.specs.Statements.{kind_of_word}
use Rattle.mz_mmu_theory.specs.StatementOrder.{statement_asked}
use Rattle.mz_mmu_theory.specs.FormOrder.{fault, never}
use Rattle.mz_mmu_theory.specs.Stops.{Stops}
use Rattle.mz_mmu_theory.specs.declared.fault.Stop.{Stop}
use Rattle.mz_mmu_theory.specs.declared.fault.Stop.TheVariants.{Refused}
use Rattle.mz_mmu_theory.proofs.Offered.{stands_from}
use Rattle.mz_mmu_forms.proofs.Offered.{failed}
use Rattle.mz_mmu.proofs.StatementDispatch.{statement_empty, statement_public, statement_public_stops, statement_local_empty, statement_local, statement_local_stops}
use Rattle.mz_mmu.proofs.statements.statement_in.Goals as goal

never_stops : (s : Stop) (at : ℕ) → s ≡ Refused (fault at U.Form) → Stops s (never at U.Form)
never_stops s at is = subst (λ t. Stops t (never at U.Form)) (sym is) (inl (λ x. x, refl))

pub returns-in_default-clause-stops : goal.returns-in_default-clause-stops
returns-in_default-clause-stops c =
    let m = node_at c.args.reader.now.nodes.now c.args.n in
    statement_empty (names c.args.names.now) m c.wrong.result c.in_default.ensures (never_stops c.wrong.result (place m) c.wrong.ensures)

pub returns-in_default-rest-clause-stops : goal.returns-in_default-rest-clause-stops
returns-in_default-rest-clause-stops c =
    let all = c.args.reader.now.nodes.now in
    let m = node_at all c.args.n in
    let h = node_at all c.in-Some.head in
    let s = c.wrong-in_default-rest.result in
    statement_local_empty (names c.args.names.now) m h s (c.in-Some.ensures.1 ∙ ap (node h) c.in_default-rest.ensures)
    (ap (λ w. bytes_eq w (codes "local")) (sym c.word-word.ensures) ∙ sym c.is.ensures ∙ c.if-not-is.false)
    (never_stops s (place m) c.wrong-in_default-rest.ensures)

pub returns-then-not-is-clause-read : goal.returns-then-not-is-clause-read
returns-then-not-is-clause-read c =
    let all = c.args.reader.now.nodes.now in
    let ns = names c.args.names.now in
    let m = node_at all c.args.n in
    let h = node_at all c.in-Some.head in
    let is = c.in-Some.ensures.1 ∙ ap (node h) (stands_from all c.next-rest.result (nodes_after all c.in-Some.head) c.next-rest.ensures) in
    statement_public ns m h (nodes_from all c.next-rest.result) c.of.result is
    (ap (λ w. bytes_eq w (codes "local")) (sym c.word-word.ensures) ∙ sym c.is.ensures ∙ c.if-not-is.true)
    (c.of.ensures ∙ ap kind_of_word c.word-word.ensures) (stated false c.in_ok-declared.declared) refl (c.in_ok-declared.ensures.read false)

pub returns-in_err-declared-clause-stops : goal.returns-in_err-declared-clause-stops
returns-in_err-declared-clause-stops c =
    let all = c.args.reader.now.nodes.now in
    let ns = names c.args.names.now in
    let m = node_at all c.args.n in
    let h = node_at all c.in-Some.head in
    let s = c.in_err-declared.field-0.0 in
    let is = c.in-Some.ensures.1 ∙ ap (node h) (stands_from all c.next-rest.result (nodes_after all c.in-Some.head) c.next-rest.ensures) in
    failed c.from_residual.result s (λ stop. Stops stop (statement_asked ns m)) c.from_residual.ensures.1
    (statement_public_stops ns m h (nodes_from all c.next-rest.result) c.of.result is
    (ap (λ w. bytes_eq w (codes "local")) (sym c.word-word.ensures) ∙ sym c.is.ensures ∙ c.if-not-is.true)
    (c.of.ensures ∙ ap kind_of_word c.word-word.ensures) s c.in_err-declared.ensures.stops)

pub returns-in_err-declared-2-clause-stops : goal.returns-in_err-declared-2-clause-stops
returns-in_err-declared-2-clause-stops c =
    let all = c.args.reader.now.nodes.now in
    let ns = names c.args.names.now in
    let m = node_at all c.args.n in
    let h = node_at all c.in-Some.head in
    let l = node_at all c.in-Some-rest.kind in
    let s = c.in_err-declared-2.field-0.0 in
    let next = ap (nodes_from all) c.in-Some-rest.is ∙ ap (node l) (stands_from all c.next.result (nodes_after all c.in-Some-rest.kind) c.next.ensures) in
    let is = c.in-Some.ensures.1 ∙ ap (node h) (stands_from all c.next-rest.result (nodes_after all c.in-Some.head) c.next-rest.ensures ∙ next) in
    failed c.from_residual-in_err-declared-2.result s (λ stop. Stops stop (statement_asked ns m)) c.from_residual-in_err-declared-2.ensures.1
    (statement_local_stops ns m h l (nodes_from all c.next.result) c.of-2.result is
    (ap (λ w. bytes_eq w (codes "local")) (sym c.word-word.ensures) ∙ sym c.is.ensures ∙ c.if-not-is.false)
    (c.of-2.ensures ∙ ap kind_of_word c.word.ensures) s c.in_err-declared-2.ensures.stops)

pub returns-clause-read : goal.returns-clause-read
returns-clause-read c =
    let all = c.args.reader.now.nodes.now in
    let ns = names c.args.names.now in
    let m = node_at all c.args.n in
    let h = node_at all c.in-Some.head in
    let l = node_at all c.in-Some-rest.kind in
    let next = ap (nodes_from all) c.in-Some-rest.is ∙ ap (node l) (stands_from all c.next.result (nodes_after all c.in-Some-rest.kind) c.next.ensures) in
    let is = c.in-Some.ensures.1 ∙ ap (node h) (stands_from all c.next-rest.result (nodes_after all c.in-Some.head) c.next-rest.ensures ∙ next) in
    statement_local ns m h l (nodes_from all c.next.result) c.of-2.result is
    (ap (λ w. bytes_eq w (codes "local")) (sym c.word-word.ensures) ∙ sym c.is.ensures ∙ c.if-not-is.false)
    (c.of-2.ensures ∙ ap kind_of_word c.word.ensures) (stated true c.in_ok-declared-2.declared) refl (c.in_ok-declared-2.ensures.read true)
