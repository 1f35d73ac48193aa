use Rattle.std.proofs.Common.{refl}
use Rattle.mz_spec_theory.specs.Progress.{tail_level}
use Rattle.mz_spec_grammar.proofs.Onward.{no, yes}
use Rattle.mz_spec_grammar.proofs.reader.Reader.tail.Goals as goal

pub returns-then-not-is : goal.returns-then-not-is
returns-then-not-is c = λ n x s w. c.need.ensures.reads _ s (no w c.is.ensures.passes c.if-not-is.true)

pub returns : goal.returns
returns c = λ n x s w. c.take.ensures.reads _ _ refl s (c.is_right-is_right.ensures n x _ s (c.level-level.ensures.reads _ (tail_level n x) refl s (yes w c.is.ensures.passes c.if-not-is.false)))
