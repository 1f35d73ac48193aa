use Rattle.std.proofs.Common.{◌≡◌, ◌∙◌, [], ap, arith, drop, length, subst, sym}
use Rattle.mz_logic_theory.proofs.Offered.{length-binders}
use Rattle.mz_layout_tables.specs.Tables.{term_row}
use Rattle.mz_layout_tables.proofs.Offered.{length-term_words}
use Rattle.mz_machine_theory.specs.Spells.{Marks, at_first}
use Rattle.mz_machine_theory.specs.Streams.{StreamIs, of_definition}
use Rattle.mz_decompile_text.specs.Naming.{vocabulary_by}
use Rattle.mz_decompile_text.specs.Phrasing.{expression}
use Rattle.mz_decompile_text.proofs.RowNumbers.{is_phrase}
use Rattle.mz_decompile_text.proofs.Rows.{body_text, over, some_body, target, term_params, term_stream}
use Rattle.mz_decompile_text.proofs.row.definition.Goals as goal

pub arity-params-requires : goal.arity-params-requires
arity-params-requires c = (let there = c.requires.row in omega (arith, there, length-term_words c.args.mmb.now))

pub expression-requires : goal.expression-requires
expression-requires c =
    let file = c.args.mmb.now in
    let v = vocabulary_by c.args.names.now in
    let params = term_params file c.args.row in
    let many : length params ≡ c.arity-params.result = length-binders 0 [] (term_row file c.args.row).words.params ∙ sym c.arity-params.ensures.row in
    let bytes : term_stream file c.args.row ≡ c.unify_of_term.result.1.now = sym (c.unify_of_term.ensures.rest ∙ ap (λ n. drop n file) c.unify_of_term.ensures.place) in
    let r = c.requires.spells in
    let b = some_body file c.args.row c.requires.body r.0 r.2.0 r.2.1 in
    let w = b.3.1 in
    let o = over file of_definition params r.0 r.1 in
    let st = c.in_ok-reading.ensures.ready file o params w.0 many many (subst (λ bs. StreamIs of_definition bs w.0) bytes w.1) in
    record { can = (o, target b.1 w.2 w.3, at_first params, w.0, st, w.4) }

pub returns-clause-defined : goal.returns-clause-defined
returns-clause-defined c = λ sigs d dummies body arities spells is.
    let file = c.args.mmb.now in
    let v = vocabulary_by c.args.names.now in
    let params = term_params file c.args.row in
    let many : length params ≡ c.arity-params.result = length-binders 0 [] (term_row file c.args.row).words.params ∙ sym c.arity-params.ensures.row in
    let bytes : term_stream file c.args.row ≡ c.unify_of_term.result.1.now = sym (c.unify_of_term.ensures.rest ∙ ap (λ n. drop n file) c.unify_of_term.ensures.place) in
    let text = body_text file c.args.row c.requires.body sigs d spells dummies body is in
    let w = text.1 in
    let o = over file of_definition params sigs arities in
    let st = c.in_ok-reading.ensures.ready file o params w.0 many many (subst (λ bs. StreamIs of_definition bs w.0) bytes w.1) in
    let e = c.in_ok-body.ensures.does o (target body w.2 w.3) (at_first params) w.0 st w.4 in
    record {
      dummies = sym text.2 ∙ ap (λ (m : Marks). m.dummies) w.5.1 ∙ e.0.dummies;
      body = is_phrase c.expression.new.phrases c.in_ok-body.body (expression v body) e.1;
    }
