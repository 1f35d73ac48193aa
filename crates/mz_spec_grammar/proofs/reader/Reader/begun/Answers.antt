use Rattle.mz_spec_grammar.proofs.Onward.{no, yes}
use Rattle.mz_spec_grammar.proofs.reader.Reader.begun.Goals as goal

pub returns-then-is : goal.returns-then-is
returns-then-is c = λ s w. c.term.ensures s (yes w c.is.ensures.passes c.if-is.true)

pub returns-then-is-2 : goal.returns-then-is-2
returns-then-is-2 c = λ s w. c.assertion.ensures s (yes (no w c.is.ensures.passes c.if-is.false) c.is-2.ensures.passes c.if-is-2.true)

pub returns-then-is-3 : goal.returns-then-is-3
returns-then-is-3 c = λ s w. c.assertion-then-is-3.ensures s (yes (no (no w c.is.ensures.passes c.if-is.false) c.is-2.ensures.passes c.if-is-2.false) c.is-3.ensures.passes c.if-is-3.true)

pub returns-then-is-4 : goal.returns-then-is-4
returns-then-is-4 c = λ s w. c.definition.ensures s (yes (no (no (no w c.is.ensures.passes c.if-is.false) c.is-2.ensures.passes c.if-is-2.false) c.is-3.ensures.passes c.if-is-3.false) c.is-4.ensures.passes c.if-is-4.true)

pub returns-then-is-5 : goal.returns-then-is-5
returns-then-is-5 c = λ s w. c.notation.ensures s (yes (no (no (no (no w c.is.ensures.passes c.if-is.false) c.is-2.ensures.passes c.if-is-2.false) c.is-3.ensures.passes c.if-is-3.false) c.is-4.ensures.passes c.if-is-4.false) c.is-5.ensures.passes c.if-is-5.true)

pub returns : goal.returns
returns c = λ s w. c.simple_notation.ensures s (no (no (no (no (no w c.is.ensures.passes c.if-is.false) c.is-2.ensures.passes c.if-is-2.false) c.is-3.ensures.passes c.if-is-3.false) c.is-4.ensures.passes c.if-is-4.false) c.is-5.ensures.passes c.if-is-5.false)
