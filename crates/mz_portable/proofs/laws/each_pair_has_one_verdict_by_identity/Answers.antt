use Rattle.mz_pmachine_theory.specs.FilesByIdentity.{portable_standard}
use Rattle.mz_match_theory.proofs.Offered.{verdict-or-refusal, excludes, counts-one, refusal-one}
use Rattle.mz_portable.proofs.laws.each_pair_has_one_verdict_by_identity.Goals as goal

pub returns : goal.returns
returns c = record { either = verdict-or-refusal portable_standard; not_both = excludes portable_standard; one_count = counts-one portable_standard; one_refusal = refusal-one portable_standard }
