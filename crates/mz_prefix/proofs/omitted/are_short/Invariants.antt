use Rattle.std.proofs.Common.{◌↔◌}
use Rattle.mz_logic_theory.specs.Tree.{past}
use Rattle.mz_prefix.specs.NamedDeclarations.{Vocabulary, AreShort}
use Rattle.mz_prefix.proofs.omitted.are_short.Given as goal

abbrev pub invariant-loop-i : goal.invariant-loop-i
invariant-loop-i l = (v : Vocabulary) → AreShort v (past l.i l.formulas) ↔ AreShort v l.hyps
