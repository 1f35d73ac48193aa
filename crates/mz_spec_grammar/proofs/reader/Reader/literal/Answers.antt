use Rattle.std.proofs.Common.{refl}
use Rattle.mz_spec_theory.specs.StatementCode.{lexeme}
use Rattle.mz_spec_theory.specs.Progress.{literal_level}
use Rattle.mz_spec_grammar.proofs.Onward.{no, this, yes}
use Rattle.mz_spec_grammar.proofs.reader.Reader.literal.Goals as goal

pub returns-then-is-clause-reads : goal.returns-then-is-clause-reads
returns-then-is-clause-reads c = λ n rows s w. this w c.is.ensures.passes c.if-is.true c.lexeme.ensures

pub returns-then-not-is-clause-reads : goal.returns-then-not-is-clause-reads
returns-then-not-is-clause-reads c = λ n rows s w. no (no w c.is.ensures.passes c.if-is.false) c.is-2.ensures.passes c.if-not-is.true

pub returns-clause-reads : goal.returns-clause-reads
returns-clause-reads c = λ n rows s w.
    c.take-2.ensures.reads _ _ refl s (
    c.level-level.ensures.reads _ (literal_level n (lexeme c.take-constant.result)) refl s (
    c.take.ensures.reads _ _ refl s (
    c.take-constant.ensures.reads _ _ refl s (
    yes (no w c.is.ensures.passes c.if-is.false) c.is-2.ensures.passes c.if-not-is.false))))
