use Rattle.mz_emit_theory.proofs.Agreeing.{same-lists-agree, spelled-agree}
use Rattle.mz_emit_theory.proofs.ItselfSame.{same-bodies}
use Rattle.mz_emit_theory.proofs.accepted_laws.same_lists_agree.Goals as goal

pub returns : goal.returns
returns c = record { bodies = same-bodies; agree = same-lists-agree; spelled = spelled-agree }
