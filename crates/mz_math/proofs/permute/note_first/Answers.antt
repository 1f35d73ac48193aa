use Rattle.std.proofs.Common.{◌≡◌, ℕ, Bool, Option, Some, None, true, false, is_some, not, get_or, ◌∙◌, ap, refl, inl, inr}
use Rattle.std.proofs.lemmas.Bool.{false≢true, true≢false}
use Rattle.std.proofs.lemmas.List.{length-set}
use Rattle.mz_math.proofs.Picking.{note-new, note-old}
use Rattle.mz_math.proofs.permute.note_first.Goals as goal

is-noted : (o : Option ℕ) (b : Bool) → is_some o ≡ not b → b ≡ false → (k : ℕ) × (o ≡ Some k)
is-noted None b is unset = absurd (false≢true (is ∙ ap not unset))
is-noted (Some k) b is unset = (k, refl)

is-nothing : (o : Option ℕ) (b : Bool) → is_some o ≡ not b → b ≡ true → o ≡ None
is-nothing None b is set = refl
is-nothing (Some k) b is set = absurd (true≢false (is ∙ ap not set))

pub returns-then-place-order-clause-noted : goal.returns-then-place-order-clause-noted
returns-then-place-order-clause-noted c = λ i below. note-old c.args.order.now c.args.place c.args.at i below (inl c.if-place-order.true)

pub returns-then-is_none-clause-many : goal.returns-then-is_none-clause-many
returns-then-is_none-clause-many c = length-set c.args.order.now c.args.place (Some c.args.at)

pub returns-then-is_none-clause-noted : goal.returns-then-is_none-clause-noted
returns-then-is_none-clause-noted c = λ i below.
    note-new c.args.order.now c.args.place c.args.at i c.if-place-order.false (is-nothing (get_or c.args.order.now c.args.place None) c.is_none.result c.is_none.ensures c.if-is_none.true)

pub returns-else-is_none-clause-noted : goal.returns-else-is_none-clause-noted
returns-else-is_none-clause-noted c = λ i below.
    note-old c.args.order.now c.args.place c.args.at i below (inr (is-noted (get_or c.args.order.now c.args.place None) c.is_none.result c.is_none.ensures c.if-is_none.false))
