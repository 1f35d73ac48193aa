use Rattle.std.proofs.Common.{refl}
use Rattle.mz_spec_grammar.proofs.reader.Reader.sort.Goals as goal

pub returns : goal.returns
returns c = λ s w. c.take.ensures.reads _ _ refl s (c.take-name.ensures.reads _ _ refl s w)
