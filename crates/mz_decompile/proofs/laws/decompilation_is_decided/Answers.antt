use Rattle.mz_decompile.proofs.Decided.{is-decided}
use Rattle.mz_decompile.proofs.laws.decompilation_is_decided.Goals as goal

pub returns : goal.returns
returns c = λ spec bin. is-decided spec bin c.accepted_are_restated.ensures.some c.accepted_are_restated.ensures.alike c.each_pair_has_one_verdict.ensures.not_both
