use Rattle.mz_spec_grammar.proofs.Onward.{no, yes}
use Rattle.mz_spec_grammar.proofs.reader.Reader.modified.Goals as goal

pub returns-then-is-clause-reads : goal.returns-then-is-clause-reads
returns-then-is-clause-reads c = λ s w. yes w c.is.ensures.passes c.if-is.true

pub returns-then-is-2-clause-reads : goal.returns-then-is-2-clause-reads
returns-then-is-2-clause-reads c = λ s w. yes (no w c.is.ensures.passes c.if-is.false) c.is-2.ensures.passes c.if-is-2.true

pub returns-then-is-3-clause-reads : goal.returns-then-is-3-clause-reads
returns-then-is-3-clause-reads c = λ s w. yes (no (no w c.is.ensures.passes c.if-is.false) c.is-2.ensures.passes c.if-is-2.false) c.is-3.ensures.passes c.if-is-3.true

pub returns-then-is-4-clause-reads : goal.returns-then-is-4-clause-reads
returns-then-is-4-clause-reads c = λ s w. yes (no (no (no w c.is.ensures.passes c.if-is.false) c.is-2.ensures.passes c.if-is-2.false) c.is-3.ensures.passes c.if-is-3.false) c.is-4.ensures.passes c.if-is-4.true

pub returns-clause-reads : goal.returns-clause-reads
returns-clause-reads c = λ s w. no (no (no (no w c.is.ensures.passes c.if-is.false) c.is-2.ensures.passes c.if-is-2.false) c.is-3.ensures.passes c.if-is-3.false) c.is-4.ensures.passes c.if-is-4.false
