use Rattle.mz_match_theory.proofs.SomeVerdict.{verdict-or-refusal}
use Rattle.mz_match_theory.proofs.OneVerdict.{accepted-excludes, counts-one, refusal-one}
use Rattle.mz_match_theory.proofs.laws.each_pair_has_one_verdict.Goals as goal
use Rattle.mz_binary_theory.specs.Standards.{strict_standard}

pub returns-clause-either : goal.returns-clause-either
returns-clause-either c = verdict-or-refusal strict_standard

pub returns-clause-not_both : goal.returns-clause-not_both
returns-clause-not_both c = accepted-excludes

pub returns-clause-one_count : goal.returns-clause-one_count
returns-clause-one_count c = counts-one strict_standard

pub returns-clause-one_refusal : goal.returns-clause-one_refusal
returns-clause-one_refusal c = refusal-one strict_standard
