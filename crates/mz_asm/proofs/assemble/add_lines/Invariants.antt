use Rattle.std.proofs.Common.{length}
use Rattle.mz_asm.proofs.Looping.{HasRead}
use Rattle.mz_asm.proofs.assemble.add_lines.Given as goal

abbrev pub invariant-lines : goal.invariant-lines
invariant-lines l = HasRead l.text l.assembly l.rest l.line

abbrev pub decreases-lines : goal.decreases-lines
decreases-lines l = length l.rest
