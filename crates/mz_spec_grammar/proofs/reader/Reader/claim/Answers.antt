use Rattle.std.proofs.Common.{refl}
use Rattle.mz_spec_theory.specs.StatementCode.{source}
use Rattle.mz_spec_theory.specs.Progress.{premise_slot, wanted}
use Rattle.mz_spec_grammar.specs.Standing.{behind}
use Rattle.mz_spec_grammar.proofs.Onward.{added, needed, no, none-yet, onto, yes}
use Rattle.mz_spec_grammar.proofs.reader.Reader.claim.Goals as goal

pub premises-init : goal.premises-init
premises-init c = λ a h e s w. none-yet source (λ sources. behind (wanted (premise_slot a h sources))) e w

pub premises-preserved-then-is : goal.premises-preserved-then-is
premises-preserved-then-is c = λ a h e s w.
    added source (λ sources. behind (wanted (premise_slot a h sources))) _ _ c.push.ensures.reads (
    c.need.ensures.reads _ s (
    c.typed-ty.ensures.reads _ s (
    yes (onto c.advance.ensures.reads refl (c.premises.invariant a h e s w)) c.is.ensures.passes c.if-is.true)))

pub returns-then-not-is : goal.returns-then-not-is
returns-then-not-is c = λ a h e s w.
    c.need-then-not-is.ensures.reads _ s (
    no (
    onto c.advance-in-premises.ensures.reads refl (
    needed c.need-in-premises.ensures.reads c.lexeme-formula.ensures (
    no (onto c.advance.ensures.reads refl (c.premises.invariant a h e s w)) c.is.ensures.passes c.if-is.false)))
    c.is-in-premises.ensures.passes c.if-not-is.true)

pub premises-preserved : goal.premises-preserved
premises-preserved c = λ a h e s w.
    added source (λ sources. behind (wanted (premise_slot a h sources))) _ _ c.push-in-premises.ensures.reads (
    yes (
    onto c.advance-in-premises.ensures.reads refl (
    needed c.need-in-premises.ensures.reads c.lexeme-formula.ensures (
    no (onto c.advance.ensures.reads refl (c.premises.invariant a h e s w)) c.is.ensures.passes c.if-is.false)))
    c.is-in-premises.ensures.passes c.if-not-is.false)
