use Rattle.mz_match_theory.proofs.SomeVerdict.{verdict-or-refusal}
use Rattle.mz_match_theory.proofs.OneVerdict.{excludes, counts-one, refusal-one}
use Rattle.mz_match_theory.proofs.laws.each_pair_has_one_draft_verdict.Goals as goal
use Rattle.mz_binary_theory.specs.Standards.{draft_standard}

pub returns-clause-either : goal.returns-clause-either
returns-clause-either c = verdict-or-refusal draft_standard

pub returns-clause-not_both : goal.returns-clause-not_both
returns-clause-not_both c = excludes draft_standard

pub returns-clause-one_count : goal.returns-clause-one_count
returns-clause-one_count c = counts-one draft_standard

pub returns-clause-one_refusal : goal.returns-clause-one_refusal
returns-clause-one_refusal c = refusal-one draft_standard
