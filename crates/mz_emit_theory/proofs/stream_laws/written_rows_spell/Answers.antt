use Rattle.mz_emit_theory.proofs.RowsSpell.{assertion-rows, term-rows}
use Rattle.mz_emit_theory.proofs.stream_laws.written_rows_spell.Goals as goal

pub returns : goal.returns
returns c = record { assertions = assertion-rows; terms = term-rows }
