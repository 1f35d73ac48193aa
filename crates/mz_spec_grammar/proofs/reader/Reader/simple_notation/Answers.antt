use Rattle.mz_spec_grammar.proofs.Onward.{no, yes}
use Rattle.mz_spec_grammar.proofs.reader.Reader.simple_notation.Goals as goal

pub returns-then-is : goal.returns-then-is
returns-then-is c = λ s w. c.operator.ensures s (yes w c.is.ensures.passes c.if-is.true)

pub returns-then-is-2 : goal.returns-then-is-2
returns-then-is-2 c = λ s w. c.operator-then-is-2.ensures s (yes (no w c.is.ensures.passes c.if-is.false) c.is-2.ensures.passes c.if-is-2.true)

pub returns-then-is-3 : goal.returns-then-is-3
returns-then-is-3 c = λ s w. c.operator-then-is-3.ensures s (yes (no (no w c.is.ensures.passes c.if-is.false) c.is-2.ensures.passes c.if-is-2.false) c.is-3.ensures.passes c.if-is-3.true)

pub returns-then-is-4 : goal.returns-then-is-4
returns-then-is-4 c = λ s w. c.coercion.ensures s (yes (no (no (no w c.is.ensures.passes c.if-is.false) c.is-2.ensures.passes c.if-is-2.false) c.is-3.ensures.passes c.if-is-3.false) c.is-4.ensures.passes c.if-is-4.true)

pub returns : goal.returns
returns c = λ s w. c.delimiter.ensures s (c.need.ensures.reads _ s (no (no (no (no w c.is.ensures.passes c.if-is.false) c.is-2.ensures.passes c.if-is-2.false) c.is-3.ensures.passes c.if-is-3.false) c.is-4.ensures.passes c.if-is-4.false))
