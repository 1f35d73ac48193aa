use Rattle.mz_emit_theory.proofs.LongerRows.{texts-share, written-share, shared-at-first, shared-with-term}
use Rattle.mz_emit_theory.proofs.portable_laws.shared_rows_grow.Goals as goal

pub returns : goal.returns
returns c = record { texts = texts-share; written = written-share; at_first = shared-at-first; terms = shared-with-term }
