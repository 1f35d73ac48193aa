use Rattle.mz_math_theory.proofs.Offered.{one-tokens, one-meaning, one-misreading, one-reading}
use Rattle.mz_math.proofs.laws.each_string_has_one_meaning.Goals as goal

pub returns : goal.returns
returns c = record { tokens = one-tokens; meaning = one-meaning; misreading = one-misreading; not_both = one-reading }
