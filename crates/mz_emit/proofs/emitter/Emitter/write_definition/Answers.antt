use Rattle.std.proofs.Common.{List, Some, refl, ap, sym, subst, ◌∙◌, append-nil}
use Rattle.mz_logic_theory.specs.DeclView.{signature, form, term_of}
use Rattle.mz_logic_theory.specs.Declaration.{Declaration, term_decl, signatures, dummies_of}
use Rattle.mz_logic_theory.specs.Legality.{IsLegalEnv}
use Rattle.mz_logic_theory.specs.View.{tree}
use Rattle.mz_type.specs.StatedView.{with_decl}
use Rattle.mz_emit.specs.Emitting.{CanBeDefined}
use Rattle.mz_emit_theory.specs.CompiledFile.{with_term, with_form, term_row, definition_stream_of, definition_body_of}
use Rattle.mz_emit.proofs.Rows.{terms_room}
use Rattle.mz_emit.proofs.Saying.{term_words, definition_can}
use Rattle.mz_emit.proofs.emitter.Emitter.write_definition.Goals as goal

pub definition-requires-clause-words : goal.definition-requires-clause-words
definition-requires-clause-words c =
    let s = with_decl (term_of c.args.term.now) c.args.beside.now in
    (_, term_words c.requires.next.0 c.requires.next.1 s c.requires.next.2.follows (signature c.args.term.now) (form c.args.term.now.form) refl)

pub definition-requires-clause-legal : goal.definition-requires-clause-legal
definition-requires-clause-legal c = subst IsLegalEnv (sym c.requires.next.2.before.env) c.requires.next.2.follows.legal_env

pub definition-requires-clause-table : goal.definition-requires-clause-table
definition-requires-clause-table c = c.requires.next.2.before.terms_are ∙ ap signatures (sym c.requires.next.2.before.env)

pub definition-requires-clause-can : goal.definition-requires-clause-can
definition-requires-clause-can c =
    let s = with_decl (term_of c.args.term.now) c.args.beside.now in
    let is = ap (λ f. term_decl (record { signature = signature c.args.term.now; form = f })) c.requires.body in
    subst (λ (env : List Declaration). CanBeDefined env (signature c.args.term.now).params (dummies_of (form c.args.term.now.form)) (tree c.args.body.now)) (sym c.requires.next.2.before.env)
    (definition_can c.requires.next.0 c.requires.next.1 s c.requires.next.2.follows (signature c.args.term.now) (dummies_of (form c.args.term.now.form)) (tree c.args.body.now) is)

pub returns-clause-writes : goal.returns-clause-writes
returns-clause-writes c =
    let sg = signature c.args.term.now in
    let dummies = dummies_of (form c.args.term.now.form) in
    let e = tree c.args.body.now in
    let row = term_row sg (Some (definition_stream_of sg.params dummies e)) in
    record {
      writer = c.in_ok-definition.ensures.writer
          ∙ ap (λ code. with_term c.args.self.now.writer row (record { code = code; body = definition_body_of sg.params dummies e })) c.definition_code-code.ensures.code
          ∙ ap (with_form c.args.self.now.writer c.args.beside.now.is_local sg) (sym c.requires.body);
      more_sorts = c.in_ok-definition.ensures.sorts ∙ sym (append-nil c.args.self.now.table.sorts.items);
      more_terms = c.in_ok-definition.ensures.terms;
    }

pub definition-requires-clause-room : goal.definition-requires-clause-room
definition-requires-clause-room c = terms_room c.requires.next.0 c.requires.next.1 (with_decl (term_of c.args.term.now) c.args.beside.now) c.args.self.now c.requires.next.2
