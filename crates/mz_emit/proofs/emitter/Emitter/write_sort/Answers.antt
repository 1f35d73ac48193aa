use Rattle.std.proofs.Common.{map, sym, ap, ◌∙◌, append-nil}
use Rattle.mz_logic_theory.specs.Declaration.{sort_decl}
use Rattle.mz_logic_theory.specs.Words.{signatures_of}
use Rattle.mz_type.specs.StatedView.{with_decl}
use Rattle.mz_emit_bodies.specs.Rows.{words_of_row}
use Rattle.mz_emit.specs.Emitting.{table_of}
use Rattle.mz_emit.proofs.Rows.{sorts_room}
use Rattle.mz_emit.proofs.emitter.Emitter.write_sort.Goals as goal

pub returns-clause-writes : goal.returns-clause-writes
returns-clause-writes c = record {
  writer = c.in_ok-sort.ensures.writer;
  more_sorts = c.in_ok-sort.ensures.sorts;
  more_terms = ap (λ rs. signatures_of (map words_of_row rs)) c.in_ok-sort.ensures.terms ∙ sym (append-nil (table_of c.args.self.now));
}

pub sort-requires-clause-room : goal.sort-requires-clause-room
sort-requires-clause-room c = sorts_room c.requires.0 c.requires.1 (with_decl (sort_decl c.args.mods) c.args.beside.now) c.args.self.now c.requires.2
