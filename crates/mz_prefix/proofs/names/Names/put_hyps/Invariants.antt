use Rattle.std.proofs.Common.{◌≡◌, ◌++◌}
use Rattle.mz_logic_theory.specs.Tree.{past}
use Rattle.mz_prefix.specs.Names.{spoken}
use Rattle.mz_prefix.proofs.Parts.{hyps_text}
use Rattle.mz_prefix.proofs.names.Names.put_hyps.Given as goal

abbrev pub invariant-loop-i : goal.invariant-loop-i
invariant-loop-i l = l.out.items ++ hyps_text (spoken l.self) (past l.i l.hyps) ≡ l.initial.out.items ++ hyps_text (spoken l.self) l.hyps
