use Rattle.std.proofs.Common.{refl}
use Rattle.mz_spec_grammar.proofs.reader.Reader.notation.Goals as goal

pub returns : goal.returns
returns c = λ s w. c.tail-tail.ensures _ _ s (c.literals-last.ensures _ _ c.new-literals.ensures.items s (c.need.ensures.reads _ s (c.ty-result.ensures.reads _ refl s (c.head-head.ensures s w))))
