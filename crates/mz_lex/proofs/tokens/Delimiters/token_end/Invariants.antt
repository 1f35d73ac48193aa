use Rattle.std.proofs.Common.{◌-◌, length}
use Rattle.mz_lex.specs.Answers.{IsWhole}
use Rattle.mz_lex.proofs.tokens.Delimiters.token_end.Given as goal

abbrev pub decreases-loop-to : goal.decreases-loop-to
decreases-loop-to l = length l.text - l.to

abbrev pub invariant-loop-to : goal.invariant-loop-to
invariant-loop-to l = IsWhole l.self l.text l.from l.to
