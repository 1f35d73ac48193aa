use Rattle.std.proofs.Common.{refl}
use Rattle.mz_spec_grammar.proofs.Onward.{no, yes}
use Rattle.mz_spec_grammar.proofs.reader.Reader.body.Goals as goal

pub returns-then-not-is : goal.returns-then-not-is
returns-then-not-is c = λ h t s w. c.need.ensures.reads _ s (no w c.is.ensures.passes c.if-not-is.true)

pub returns : goal.returns
returns c = λ h t s w. c.take.ensures.reads _ _ refl s (c.take-body.ensures.reads _ _ refl s (yes w c.is.ensures.passes c.if-not-is.false))
