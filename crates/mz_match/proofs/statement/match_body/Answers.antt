use Rattle.std.proofs.Common.{◌∙◌, List, length, Bool, refl, sym, ap, subst, arith}
use Rattle.std.specs.Prelude.{IsTrue, ◌↔◌, MatchBool}
use Rattle.std.proofs.lemmas.Bool.{true≢false}
use Rattle.mz_base.specs.Checks.{AllHold, FailsFirst}
use Rattle.mz_logic_theory.specs.declared.binder.Binder.{Binder}
use Rattle.mz_spec_proved_theory.specs.declared.rule.M.TheVariants as rules
use Rattle.mz_spec_proved_theory.specs.Match.{form_checks}
use Rattle.mz_spec_proved_theory.specs.AlphaTrees.{SameBody}
use Rattle.mz_logic_theory.specs.View.{tree}
use Rattle.mz_logic_theory.specs.DeclView.{form}
use Rattle.mz_logic_theory.specs.declared.decl.TermForm.{TermForm}
use Rattle.mz_logic_theory.specs.Declaration.{is_defined}
use Rattle.mz_layout_tables.specs.Tables.{term_row}
use Rattle.mz_layout_tables.proofs.Offered.{length-term_words}
use Rattle.mz_match_rows.proofs.Offered.{not-body, body-there, first-stream, body-judged, exact-for}
use Rattle.mz_match.proofs.statement.match_body.Goals as goal

pub arity-requires : goal.arity-requires
arity-requires c = let (e, row, both) = c.requires in omega (arith, row.there, length-term_words c.args.mmb.now)

pub kept_marks-requires : goal.kept_marks-requires
kept_marks-requires c =
    let (e, row, both) = c.requires in
    let (m, es, body, e-is, says, met) = body-there c.args.mmb.now c.args.row e row (both (ap (λ (f : TermForm). is_defined (form f)) c.in-Body.is)) _ c.unify_of_term-start.result.0 refl (sym c.unify_of_term-start.ensures.place) in
    says.within

pub returns-in_default-clause-body : goal.returns-in_default-clause-body
returns-in_default-clause-body c = λ e row is is'. absurd (true≢false (sym is ∙ not-body c.args.term.now.form c.in_default.not-Body))

pub same_body-requires : goal.same_body-requires
same_body-requires c =
    let (e, row, both) = c.requires in
    let (m, es, body, e-is, says, met) = body-there c.args.mmb.now c.args.row e row (both (ap (λ (f : TermForm). is_defined (form f)) c.in-Body.is)) c.arity.result c.unify_of_term-start.result.0 (sym c.arity.ensures.row) (sym c.unify_of_term-start.ensures.place) in
    (m, body, says.to, first-stream _ m body says c.kept_marks.ensures, says.said)

pub returns-then-not-same_body-clause-body : goal.returns-then-not-same_body-clause-body
returns-then-not-same_body-clause-body c = λ e row is is'.
    let (m, es, body, e-is, says, met) = body-there c.args.mmb.now c.args.row e row is' c.arity.result c.unify_of_term-start.result.0 (sym c.arity.ensures.row) (sym c.unify_of_term-start.ensures.place) in
    let exact = exact-for c.args.publics.now c.arity.result c.in-Body.dummies m.dummies es (tree c.in-Body.body) body c.same_body.result met
    (subst (λ (ds : List Binder). IsTrue c.same_body.result ↔ SameBody c.args.publics.now c.arity.result ds m.dummies (tree c.in-Body.body) body) c.as_slice.ensures (c.same_body.ensures m body says.to (first-stream _ m body says c.kept_marks.ensures) says.said)) in
    subst (λ (z : Bool). MatchBool z (AllHold (form_checks c.args.publics.now (length (term_row c.args.mmb.now c.args.row).words.params) (form c.args.term.now.form) e.form)) (FailsFirst (form_checks c.args.publics.now (length (term_row c.args.mmb.now c.args.row).words.params) (form c.args.term.now.form) e.form) rules.Body)) c.if-not-same_body.true
    (body-judged c.args.publics.now (length (term_row c.args.mmb.now c.args.row).words.params) (form c.args.term.now.form) e.form c.in-Body.dummies es (tree c.in-Body.body) body c.arity.result c.same_body.result (ap form c.in-Body.is) e-is c.arity.ensures.row exact)

pub returns-then-not-same_body-clause-open : goal.returns-then-not-same_body-clause-open
returns-then-not-same_body-clause-open c = λ is. true≢false (sym (ap (λ (f : TermForm). is_defined (form f)) c.in-Body.is) ∙ is)

pub returns-clause-body : goal.returns-clause-body
returns-clause-body c = λ e row is is'.
    let (m, es, body, e-is, says, met) = body-there c.args.mmb.now c.args.row e row is' c.arity.result c.unify_of_term-start.result.0 (sym c.arity.ensures.row) (sym c.unify_of_term-start.ensures.place) in
    let exact = exact-for c.args.publics.now c.arity.result c.in-Body.dummies m.dummies es (tree c.in-Body.body) body c.same_body.result met
    (subst (λ (ds : List Binder). IsTrue c.same_body.result ↔ SameBody c.args.publics.now c.arity.result ds m.dummies (tree c.in-Body.body) body) c.as_slice.ensures (c.same_body.ensures m body says.to (first-stream _ m body says c.kept_marks.ensures) says.said)) in
    subst (λ (z : Bool). MatchBool z (AllHold (form_checks c.args.publics.now (length (term_row c.args.mmb.now c.args.row).words.params) (form c.args.term.now.form) e.form)) (FailsFirst (form_checks c.args.publics.now (length (term_row c.args.mmb.now c.args.row).words.params) (form c.args.term.now.form) e.form) rules.Body)) c.if-not-same_body.false
    (body-judged c.args.publics.now (length (term_row c.args.mmb.now c.args.row).words.params) (form c.args.term.now.form) e.form c.in-Body.dummies es (tree c.in-Body.body) body c.arity.result c.same_body.result (ap form c.in-Body.is) e-is c.arity.ensures.row exact)
