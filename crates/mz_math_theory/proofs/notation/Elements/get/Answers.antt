use Rattle.std.proofs.Common.{◌∙◌, ap, arith, length, sym}
use Rattle.mz_math_theory.proofs.Listing.{none-behind, none-within, slot-behind, slot-within}
use Rattle.mz_math_theory.proofs.notation.Elements.get.Goals as goal

pub returns-then-place-self-clause-element : goal.returns-then-place-self-clause-element
returns-then-place-self-clause-element c =
    slot-behind c.args.self.now c.self.inside.listed.items c.self.inside.slots c.args.at c.len.result (sym c.self.view_is) (c.len.ensures ∙ sym c.deref.ensures.len ∙ ap length c.deref.ensures.value) (omega (arith, c.len.ensures, c.deref.ensures.len, c.in-None.ensures.lookup.3)) c.if-place-self.true

pub returns-then-place-self-clause-within : goal.returns-then-place-self-clause-within
returns-then-place-self-clause-within c =
    slot-within c.args.self.now c.self.inside.listed.items c.self.inside.slots c.args.at c.len.result (sym c.self.view_is) (c.len.ensures ∙ sym c.deref.ensures.len ∙ ap length c.deref.ensures.value) (omega (arith, c.len.ensures, c.deref.ensures.len, c.in-None.ensures.lookup.3)) c.if-place-self.true

pub returns-else-place-self-clause-element : goal.returns-else-place-self-clause-element
returns-else-place-self-clause-element c =
    none-behind c.args.self.now c.self.inside.listed.items c.self.inside.slots c.args.at c.len.result (sym c.self.view_is) (c.len.ensures ∙ sym c.deref.ensures.len ∙ ap length c.deref.ensures.value) (omega (arith, c.len.ensures, c.deref.ensures.len, c.in-None.ensures.lookup.3)) c.if-place-self.false

pub returns-else-place-self-clause-within : goal.returns-else-place-self-clause-within
returns-else-place-self-clause-within c =
    none-within c.args.self.now c.self.inside.listed.items c.self.inside.slots c.args.at c.len.result (sym c.self.view_is) (c.len.ensures ∙ sym c.deref.ensures.len ∙ ap length c.deref.ensures.value) (omega (arith, c.len.ensures, c.deref.ensures.len, c.in-None.ensures.lookup.3)) c.if-place-self.false
