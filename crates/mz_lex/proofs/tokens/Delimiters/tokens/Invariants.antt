use Rattle.std.proofs.Common.{◌≤◌, ◌-◌, ◌++◌, List, length}
use Rattle.mz_lex.specs.MathTokens.{MathToken, MathTokensFrom, MathTokens}
use Rattle.mz_lex.proofs.tokens.Delimiters.tokens.Given as goal

abbrev pub decreases-tokens : goal.decreases-tokens
decreases-tokens l = length l.text - l.at

abbrev pub invariant-tokens : goal.invariant-tokens
invariant-tokens l = ((rest : List MathToken) → MathTokensFrom l.self l.text l.at rest → MathTokens l.self l.text (l.pieces.items ++ rest)) × (l.at ≤ length l.text)
