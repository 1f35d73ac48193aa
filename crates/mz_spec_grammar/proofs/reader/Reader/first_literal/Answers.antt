use Rattle.std.proofs.Common.{refl}
use Rattle.mz_spec_grammar.proofs.Onward.{onto}
use Rattle.mz_spec_grammar.proofs.reader.Reader.first_literal.Goals as goal

pub returns-in-Some : goal.returns-in-Some
returns-in-Some c = λ n s w. c.in-Some.ensures.reads n _ s (onto c.advance.ensures.reads refl w)

pub returns : goal.returns
returns c = λ n s w. c.stop.ensures.reads _ s (c.in_default.ensures.reads n _ s (onto c.advance.ensures.reads refl w))
