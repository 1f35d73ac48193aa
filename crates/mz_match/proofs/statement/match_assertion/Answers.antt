use Rattle.std.proofs.Common.{◌∙◌, sym, ap, subst}
use Rattle.mz_base.specs.Checks.{Judges}
use Rattle.mz_cmd.specs.Codes.{statement_byte}
use Rattle.mz_logic_theory.specs.Declaration.{Declaration}
use Rattle.mz_logic_theory.specs.DeclView.{assertion_of, assertion_view, is_axiom}
use Rattle.mz_spec_proved_theory.specs.Match.{match_checks}
use Rattle.mz_match_rows.specs.ReportedRow.{IsRowOf}
use Rattle.mz_match_rows.proofs.Offered.{exact-no, assertion-kind-differs, assertion-judged, thm-row}
use Rattle.mz_match.proofs.statement.match_assertion.Goals as goal

pub match_claims-requires : goal.match_claims-requires
match_claims-requires c =
    let kind = c.has_kind.ensures.0 c.if-not-has_kind.false ∙ ap statement_byte c.code_of.ensures in
    let (b, p-is, row) = thm-row c.args.mmb.now c.args.statement.now (is_axiom c.args.thm.now.form) c.requires.0 c.requires.1 kind in
    (b, row)

pub returns-then-not-has_kind : goal.returns-then-not-has_kind
returns-then-not-has_kind c = λ p row.
    assertion-kind-differs c.args.publics.now c.args.mmb.now c.args.statement.now (assertion_view c.args.thm.now) p row
    (λ same. exact-no c.has_kind.result _ c.has_kind.ensures c.if-not-has_kind.true (same ∙ sym (ap statement_byte c.code_of.ensures)))

pub returns : goal.returns
returns c = λ p row.
    let kind = c.has_kind.ensures.0 c.if-not-has_kind.false ∙ ap statement_byte c.code_of.ensures in
    let (b, p-is, here) = thm-row c.args.mmb.now c.args.statement.now (is_axiom c.args.thm.now.form) p row kind in
    let its = (subst (IsRowOf c.args.mmb.now c.args.statement.now) p-is row).0 in
    subst (λ (q : Declaration). Judges c.match_claims.result (match_checks (assertion_of c.args.thm.now) (record { rows = c.args.publics.now; decl = q }))) (sym p-is)
    (assertion-judged c.args.publics.now c.args.mmb.now c.args.statement.now (assertion_view c.args.thm.now) b c.match_claims.result its kind (c.match_claims.ensures b here))
