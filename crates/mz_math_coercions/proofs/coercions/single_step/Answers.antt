use Rattle.std.proofs.Common.{◌∙◌, ◌∷◌, [], List, subst, sym}
use Rattle.mz_math_theory.specs.declared.coercion.Coercion.{Coercion}
use Rattle.mz_math_theory.specs.Coercions.{OnePath}
use Rattle.mz_math_coercions.specs.Firsts.{AreLed}
use Rattle.mz_math_coercions.specs.Found.{AreTermsOf}
use Rattle.mz_math_coercions.proofs.Terms.{single-terms}
use Rattle.mz_math_coercions.proofs.coercions.single_step.Goals as goal

pub next_coercion-requires-clause-one : goal.next_coercion-requires-clause-one
next_coercion-requires-clause-one c = subst OnePath (sym c.as_slice-items.ensures) c.coercions.invariant.one

pub next_coercion-requires-clause-led : goal.next_coercion-requires-clause-led
next_coercion-requires-clause-led c = subst (λ (cs : List Coercion). AreLed cs c.coercions.inside.firsts) (sym c.as_slice-items.ensures) (c.coercions.invariant.led c.if-not-coercions.false)

pub returns-then-coercion-to : goal.returns-then-coercion-to
returns-then-coercion-to c =
    let items = c.as_slice-items.result.now in
    let (p, next) = c.in_ok-coercion.ensures in
    subst (λ (cs : List Coercion). AreTermsOf cs c.args.from c.args.to (c.in_ok-coercion.coercion.term ∷ [])) (c.as_slice-items.ensures ∙ c.coercions.view_is)
    (single-terms items (subst OnePath (sym c.as_slice-items.ensures) c.coercions.invariant.one) c.args.from c.args.to p c.in_ok-coercion.coercion next c.if-coercion-to.true)
