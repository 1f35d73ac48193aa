use Rattle.std.proofs.Common.{refl}
use Rattle.mz_spec_grammar.proofs.reader.Reader.definition.Goals as goal

pub returns : goal.returns
returns c = λ s w. c.body-body.ensures _ _ s (c.ty-result.ensures.reads _ refl s (c.head-head.ensures s w))
