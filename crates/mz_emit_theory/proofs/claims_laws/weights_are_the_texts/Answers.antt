use Rattle.mz_emit_theory.proofs.Weighing.{weights-are}
use Rattle.mz_emit_theory.proofs.claims_laws.weights_are_the_texts.Goals as goal

pub returns : goal.returns
returns c = weights-are
