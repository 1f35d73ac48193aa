use Rattle.std.proofs.Common.{refl, sym, ap, ◌∙◌, append-nil}
use Rattle.mz_logic_theory.specs.DeclView.{signature, form, term_of}
use Rattle.mz_type.specs.StatedView.{with_decl}
use Rattle.mz_emit_theory.specs.CompiledFile.{with_form}
use Rattle.mz_emit.proofs.Rows.{terms_room}
use Rattle.mz_emit.proofs.Saying.{term_words}
use Rattle.mz_emit.proofs.emitter.Emitter.write_plain.Goals as goal

pub plain-requires-clause-words : goal.plain-requires-clause-words
plain-requires-clause-words c =
    let s = with_decl (term_of c.args.term.now) c.args.beside.now in
    (_, term_words c.requires.next.0 c.requires.next.1 s c.requires.next.2.follows (signature c.args.term.now) (form c.args.term.now.form) refl)

pub returns-clause-writes : goal.returns-clause-writes
returns-clause-writes c = record {
  writer = c.in_ok-plain.ensures.writer ∙ ap (with_form c.args.self.now.writer c.args.beside.now.is_local (signature c.args.term.now)) (sym c.requires.plain);
  more_sorts = c.in_ok-plain.ensures.sorts ∙ sym (append-nil c.args.self.now.table.sorts.items);
  more_terms = c.in_ok-plain.ensures.terms;
}

pub plain-requires-clause-room : goal.plain-requires-clause-room
plain-requires-clause-room c = terms_room c.requires.next.0 c.requires.next.1 (with_decl (term_of c.args.term.now) c.args.beside.now) c.args.self.now c.requires.next.2
