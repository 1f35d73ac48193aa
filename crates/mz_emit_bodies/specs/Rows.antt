-- A term's row as words.
use Rattle.mz_logic_theory.specs.Words.{TermWords}
use Rattle.mz_emit_bodies.specs.declared.table.TermEntry.{TermEntry}

abbrev pub words_of_row : TermEntry → TermWords
words_of_row r = record { params = r.params.items; result = r.result_word; has_body = r.has_body }
