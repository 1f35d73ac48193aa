use Rattle.std.proofs.Common.{◌≡◌, ◌<◌, ◌∙◌, ℕ, suc, List, ap, arith, length, subst, sym}
use Rattle.mz_base.proofs.Offered.{length-push}
use Rattle.mz_math_coercions.specs.Reached.{AreFoundIn}
use Rattle.mz_math_coercions.proofs.reached.Reached.push.Goals as goal

pub invariant_of-self : goal.invariant_of-self
invariant_of-self c = subst (λ (es : List (ℕ × ℕ)). 32 < length es → AreFoundIn c.self.inside.places.entries es) (sym c.in_err-push.ensures.items) c.self.invariant

pub invariant_of-self-in-Ok : goal.invariant_of-self-in-Ok
invariant_of-self-in-Ok c = λ _. subst (AreFoundIn c.note.new.places.entries) c.deref.ensures.value
    (c.in-Ok.ensures.ok c.self.inside.steps.items (c.deref.ensures.value ∙ c.in_ok-push.ensures.items) c.self.invariant)

pub invariant_of-self-in_default : goal.invariant_of-self-in_default
invariant_of-self-in_default c = λ many.
    let steps = c.self.inside.steps.items in
    let last : ℕ × ℕ = (c.args.sort, c.args.place) in
    let dropped = c.drop_last.ensures steps last c.in_ok-push.ensures.items in
    let before = subst (λ (es : List (ℕ × ℕ)). 32 < length es) dropped many in
    let longer : length c.deref.result.now ≡ suc (length steps) = ap length (c.deref.ensures.value ∙ c.in_ok-push.ensures.items) ∙ length-push steps last in
    let same = c.in_default.ensures.err (omega (arith, before, longer)) in
    subst (AreFoundIn c.note.new.places.entries) (sym dropped) (subst (λ (es : List (ℕ × ℕ)). AreFoundIn es steps) (sym same) (c.self.invariant before))
