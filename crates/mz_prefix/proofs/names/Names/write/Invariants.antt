use Rattle.std.proofs.Common.{◌≡◌, ◌++◌}
use Rattle.mz_prefix.specs.Wording.{prefix_text}
use Rattle.mz_prefix.proofs.Writings.{left_text}
use Rattle.mz_prefix.proofs.names.Names.write.Given as goal

abbrev pub invariant-loop-i : goal.invariant-loop-i
invariant-loop-i l = l.spec.items ++ left_text l.text.statements l.i ≡ prefix_text l.text.statements
