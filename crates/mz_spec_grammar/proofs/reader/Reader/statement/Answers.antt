use Rattle.std.proofs.Common.{arith, ◌∙◌, [], if◌then◌else◌, subst, sym}
use Rattle.mz_spec_theory.specs.StatementCode.{modifiers}
use Rattle.mz_spec_theory.specs.Progress.{beginnings, opening}
use Rattle.mz_spec_grammar.specs.Standing.{Stands, before}
use Rattle.mz_spec_grammar.proofs.Onward.{no, yes}
use Rattle.mz_spec_grammar.proofs.reader.Reader.statement.Goals as goal

pub modifiers-preserved : goal.modifiers-preserved
modifiers-preserved c = λ s w. c.advance.ensures.reads (opening (modifiers c.in-Some.more)) tt s (c.in-Some.ensures.reads s (c.modifiers.invariant s w))

pub returns-then-is : goal.returns-then-is
returns-then-is c = λ s w. c.sort.ensures s (yes (c.in_default.ensures.reads s (c.modifiers.invariant s w)) c.is.ensures.passes c.if-is.true)

pub returns-then-is_bare : goal.returns-then-is_bare
returns-then-is_bare c = λ s w.
    c.begun.ensures s (
    subst (λ b. Stands s (before (if b then beginnings else [])) c.modifiers.self) (sym c.is_bare.ensures ∙ c.if-is_bare.true) (
    no (c.in_default.ensures.reads s (c.modifiers.invariant s w)) c.is.ensures.passes c.if-is.false))

pub returns : goal.returns
returns c = λ s w.
    c.sort-2.ensures s (
    c.stop.ensures.reads _ s (
    subst (λ b. Stands s (before (if b then beginnings else [])) c.modifiers.self) (sym c.is_bare.ensures ∙ c.if-is_bare.false) (
    no (c.in_default.ensures.reads s (c.modifiers.invariant s w)) c.is.ensures.passes c.if-is.false)))

pub modifiers-smaller : goal.modifiers-smaller
modifiers-smaller c = omega (arith, c.in-Some.ensures.some)
