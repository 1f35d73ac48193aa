use Rattle.mz_spec_grammar.proofs.Onward.{no, yes}
use Rattle.mz_spec_grammar.proofs.reader.Reader.need.Goals as goal

pub returns-then-not-is-clause-reads : goal.returns-then-not-is-clause-reads
returns-then-not-is-clause-reads c = λ f s w. c.stop.ensures.reads _ s (no w c.is.ensures.passes c.if-not-is.true)

pub returns-else-not-is-clause-reads : goal.returns-else-not-is-clause-reads
returns-else-not-is-clause-reads c = λ f s w. yes w c.is.ensures.passes c.if-not-is.false
