use Rattle.std.proofs.Common.{◌∙◌, sym, subst, arith}
use Rattle.std.proofs.lemmas.Bool.{false≢true}
use Rattle.mz_layout_tables.proofs.Offered.{length-term_words}
use Rattle.mz_logic_theory.specs.Declaration.{Declaration}
use Rattle.mz_logic_theory.specs.DeclView.{term_view, term_of}
use Rattle.mz_base.specs.Checks.{Judges}
use Rattle.mz_spec_proved_theory.specs.Match.{match_checks}
use Rattle.mz_match_rows.proofs.Offered.{exact-no, term-kind-differs, term-form-differs, term-row, term-whole}
use Rattle.mz_match.proofs.statement.match_term.Goals as goal

pub has_body-has_body-requires : goal.has_body-has_body-requires
has_body-has_body-requires c =
    let (e, p-is, row) = term-row c.args.mmb.now c.args.statement.now c.requires.0 c.requires.1 (c.has_kind.ensures.0 c.if-not-has_kind.false) in
    omega (arith, row.there, length-term_words c.args.mmb.now)

pub returns-then-not-has_kind : goal.returns-then-not-has_kind
returns-then-not-has_kind c = λ p row.
    term-kind-differs c.args.publics.now c.args.mmb.now c.args.statement.now (term_view c.args.term.now) p row (exact-no c.has_kind.result _ c.has_kind.ensures c.if-not-has_kind.true)

pub returns-then-is_same : goal.returns-then-is_same
returns-then-is_same c = λ p row.
    term-form-differs c.args.publics.now c.args.mmb.now c.args.statement.now (term_view c.args.term.now) p row (c.has_kind.ensures.0 c.if-not-has_kind.false)
    (sym c.is_plain-plain.ensures ∙ c.is_same.ensures.0 c.if-is_same.true ∙ c.has_body-has_body.ensures.row)

pub returns : goal.returns
returns c = λ p row.
    let (e, p-is, here) = term-row c.args.mmb.now c.args.statement.now p row (c.has_kind.ensures.0 c.if-not-has_kind.false) in
    let (params, rest) = c.in_default.ensures in
    subst (λ (q : Declaration). Judges c.match_body.result (match_checks (term_of c.args.term.now) (record { rows = c.args.publics.now; decl = q }))) (sym p-is)
    (term-whole c.args.publics.now c.args.mmb.now c.args.statement.now (term_view c.args.term.now) e c.match_body.result here (λ same. false≢true (sym c.if-is_same.false ∙ c.is_same.ensures.1 (c.is_plain-plain.ensures ∙ same ∙ sym c.has_body-has_body.ensures.row)))
    (sym c.as_slice.ensures ∙ params, rest) (λ is is'. c.match_body.ensures.body e here is is') c.match_body.ensures.open)
