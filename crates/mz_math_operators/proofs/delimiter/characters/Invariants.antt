use Rattle.std.proofs.Common.{◌-◌, length}
use Rattle.mz_lex.proofs.Offered.{SoFar}
use Rattle.mz_math_operators.proofs.delimiter.characters.Given as goal

abbrev pub decreases-tokens : goal.decreases-tokens
decreases-tokens l = length l.text - l.at

abbrev pub invariant-tokens : goal.invariant-tokens
invariant-tokens l = SoFar l.text l.at l.characters
