use Rattle.std.proofs.Common.{sym}
use Rattle.mz_lex.proofs.Marking.{tells-anew}
use Rattle.mz_lex.proofs.set.ByteSet.shorten.Goals as goal

pub invariant_of-self : goal.invariant_of-self
invariant_of-self c = tells-anew 256 c.mark.new.there c.deref.result.now c.truncate.new.self.items c.mark.ensures (sym c.deref.ensures.value)
