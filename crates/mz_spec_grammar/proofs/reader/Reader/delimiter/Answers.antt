use Rattle.std.proofs.Common.{refl}
use Rattle.mz_spec_grammar.proofs.reader.Reader.delimiter.Goals as goal

pub returns : goal.returns
returns c = λ s w. c.right-right.ensures _ s (c.take-left.ensures.reads _ _ refl s w)
