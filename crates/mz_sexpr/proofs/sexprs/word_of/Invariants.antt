use Rattle.std.proofs.Common.{◌≡◌, take, drop, take_while, ◌++◌}
use Rattle.mz_sexpr.specs.Grammar.{is_letter}
use Rattle.mz_sexpr.proofs.sexprs.word_of.Given as goal

abbrev pub invariant-loop-n : goal.invariant-loop-n
invariant-loop-n l = take_while is_letter l.rest ≡ take l.n l.rest ++ take_while is_letter (drop l.n l.rest)
