use Rattle.std.proofs.Common.{refl}
use Rattle.mz_spec_grammar.proofs.Onward.{needed, no, onto, yes}
use Rattle.mz_spec_grammar.proofs.reader.Reader.source.Goals as goal

pub returns-then-is-clause-reads : goal.returns-then-is-clause-reads
returns-then-is-clause-reads c = λ h names s w. c.typed.ensures.reads _ s (yes (onto c.advance.ensures.reads refl w) c.is.ensures.passes c.if-is.true)

pub returns-clause-reads : goal.returns-clause-reads
returns-clause-reads c = λ h names s w.
    onto c.advance-2.ensures.reads refl (needed c.need.ensures.reads c.lexeme-formula.ensures (no (onto c.advance.ensures.reads refl w) c.is.ensures.passes c.if-is.false))
