use Rattle.std.proofs.Common.{refl}
use Rattle.mz_spec_grammar.proofs.Onward.{no, onto, yes}
use Rattle.mz_spec_grammar.proofs.reader.Reader.bracket.Goals as goal

pub returns-then-is-clause-reads : goal.returns-then-is-clause-reads
returns-then-is-clause-reads c = λ kind h s w. yes (onto c.advance.ensures.reads refl w) c.is.ensures.passes c.if-is.true

pub returns-then-is-2-clause-reads : goal.returns-then-is-2-clause-reads
returns-then-is-2-clause-reads c = λ kind h s w. yes (no (onto c.advance.ensures.reads refl w) c.is.ensures.passes c.if-is.false) c.is-2.ensures.passes c.if-is-2.true

pub returns-clause-reads : goal.returns-clause-reads
returns-clause-reads c = λ kind h s w. c.need.ensures.reads _ s (no (no (onto c.advance.ensures.reads refl w) c.is.ensures.passes c.if-is.false) c.is-2.ensures.passes c.if-is-2.false)
