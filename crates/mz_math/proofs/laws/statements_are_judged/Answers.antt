use Rattle.mz_math_theory.proofs.Offered.{delimiters-judged, coercions-judged, infix-judged, prefix-judged, general-judged}
use Rattle.mz_math.proofs.laws.statements_are_judged.Goals as goal

pub returns : goal.returns
returns c = record {
  delimiters = delimiters-judged;
  coercions = coercions-judged;
  infixes = λ sigs t term text level right is. infix-judged t is sigs term text level right;
  prefixes = λ sigs t term text level is. prefix-judged t is sigs term text level;
  generals = λ sigs t g is. general-judged t is sigs g;
}
