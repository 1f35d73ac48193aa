use Rattle.mz_emit_theory.proofs.Short.{assertions-short, definitions-short, assertions-bounded, definitions-bounded}
use Rattle.mz_emit_theory.proofs.stream_laws.streams_are_short.Goals as goal

pub returns : goal.returns
returns c = record { assertions = assertions-short; definitions = definitions-short; assertion_bytes = assertions-bounded; definition_bytes = definitions-bounded }
