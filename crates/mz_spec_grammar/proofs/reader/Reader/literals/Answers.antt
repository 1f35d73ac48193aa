use Rattle.std.proofs.Common.{arith, refl}
use Rattle.mz_spec_theory.specs.StatementCode.{literal}
use Rattle.mz_spec_theory.specs.Progress.{literal_read}
use Rattle.mz_spec_grammar.specs.Standing.{behind}
use Rattle.mz_spec_grammar.proofs.Onward.{added, none-yet, onto}
use Rattle.mz_spec_grammar.proofs.reader.Reader.literals.Goals as goal

pub literals-init : goal.literals-init
literals-init c = λ h t e s w. none-yet literal (λ xs. behind (literal_read (record { head = h; result = t; literals = xs }) (literal c.first_literal-last.result))) e (c.first_literal-last.ensures _ s w)

pub returns-in_default : goal.returns-in_default
returns-in_default c = λ h t e s w. c.in_default.ensures.reads _ _ s (onto c.advance.ensures.reads refl (c.literals.invariant h t e s w))

pub literals-preserved : goal.literals-preserved
literals-preserved c = λ h t e s w.
    added literal (λ xs. behind (literal_read (record { head = h; result = t; literals = xs }) (literal c.in-Some.next))) _ _ c.push.ensures.reads (
    c.in-Some.ensures.reads _ _ s (onto c.advance.ensures.reads refl (c.literals.invariant h t e s w)))

pub literals-smaller : goal.literals-smaller
literals-smaller c = omega (arith, c.in-Some.ensures.shrinks)
