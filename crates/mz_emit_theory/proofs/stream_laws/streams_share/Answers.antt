use Rattle.std.proofs.Common.{refl}
use Rattle.mz_emit_theory.proofs.Texts.{assertions-shared, definitions-shared}
use Rattle.mz_emit_theory.proofs.stream_laws.streams_share.Goals as goal

pub returns : goal.returns
returns c = record { assertions = assertions-shared; definitions = definitions-shared; example = refl }
