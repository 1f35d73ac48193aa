use Rattle.std.proofs.Common.{◌≡◌, ◌++◌, drop}
use Rattle.mz_prefix.specs.Names.{spoken}
use Rattle.mz_prefix.proofs.Parts.{dummies_text}
use Rattle.mz_prefix.proofs.names.Names.put_dummies.Given as goal

abbrev pub invariant-loop-i : goal.invariant-loop-i
invariant-loop-i l = l.out.items ++ dummies_text (spoken l.self) l.first l.i (drop l.i l.dummies) ≡ l.initial.out.items ++ dummies_text (spoken l.self) l.first 0 l.dummies
