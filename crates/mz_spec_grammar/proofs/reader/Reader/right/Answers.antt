use Rattle.std.proofs.Common.{refl}
use Rattle.mz_spec_grammar.proofs.Onward.{no, onto, this}
use Rattle.mz_spec_grammar.proofs.reader.Reader.right.Goals as goal

pub returns-then-not-is : goal.returns-then-not-is
returns-then-not-is c = λ l s w. c.need.ensures.reads _ s (no (onto c.advance.ensures.reads refl w) c.is.ensures.passes c.if-not-is.true)

pub returns : goal.returns
returns c = λ l s w. c.take.ensures.reads _ _ refl s (this (onto c.advance.ensures.reads refl w) c.is.ensures.passes c.if-not-is.false c.lexeme-right.ensures)
