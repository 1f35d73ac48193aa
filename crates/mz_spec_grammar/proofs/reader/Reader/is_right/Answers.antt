use Rattle.std.proofs.Common.{refl}
use Rattle.mz_spec_grammar.proofs.Onward.{no, onto, yes}
use Rattle.mz_spec_grammar.proofs.reader.Reader.is_right.Goals as goal

pub returns-then-is : goal.returns-then-is
returns-then-is c = λ n x level s w. yes (onto c.advance.ensures.reads refl w) c.is.ensures.passes c.if-is.true

pub returns : goal.returns
returns c = λ n x level s w. c.need.ensures.reads _ s (no (onto c.advance.ensures.reads refl w) c.is.ensures.passes c.if-is.false)
