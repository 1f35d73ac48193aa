use Rattle.mz_emit_theory.proofs.Texts.{assertions-written, definitions-written}
use Rattle.mz_emit_theory.proofs.SameForms.{bodies-same, bodies-inside}
use Rattle.mz_emit_theory.proofs.stream_laws.streams_spell.Goals as goal

pub returns : goal.returns
returns c = record { assertions = assertions-written; definitions = definitions-written; bodies = bodies-same; inside = bodies-inside }
