use Rattle.std.proofs.Common.{◌≤◌, ◌-◌, length}
use Rattle.mz_lex.specs.MathTokens.{IsSpaces}
use Rattle.mz_lex.proofs.tokens.skip_spaces.Given as goal

abbrev pub decreases-loop-at : goal.decreases-loop-at
decreases-loop-at l = length l.text - l.at

abbrev pub invariant-loop-at : goal.invariant-loop-at
invariant-loop-at l = IsSpaces l.text l.from l.at × (l.at ≤ length l.text)
