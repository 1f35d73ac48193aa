use Rattle.mz_spec_grammar.proofs.Onward.{no, onto, this}
use Rattle.mz_spec_grammar.proofs.reader.Reader.level.Goals as goal

pub returns-then-is-clause-reads : goal.returns-then-is-clause-reads
returns-then-is-clause-reads c = λ p f e s w. this (onto c.advance.ensures.reads e w) c.is.ensures.passes c.if-is.true c.lexeme.ensures

pub returns-clause-reads : goal.returns-clause-reads
returns-clause-reads c = λ p f e s w. c.need.ensures.reads _ s (no (onto c.advance.ensures.reads e w) c.is.ensures.passes c.if-is.false)
