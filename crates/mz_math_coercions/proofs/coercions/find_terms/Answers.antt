use Rattle.std.proofs.Common.{◌∙◌, List, sym, subst}
use Rattle.std.specs.Prelude.{IfOk, MatchOption}
use Rattle.mz_math_theory.specs.declared.coercion.Coercion.{Coercion}
use Rattle.mz_math_theory.specs.Coercions.{OnePath}
use Rattle.mz_math_theory.specs.CoercionAnswers.{HasPath}
use Rattle.mz_math_coercions.specs.Firsts.{AreLed}
use Rattle.mz_math_coercions.specs.Found.{AreTermsOf}
use Rattle.mz_math_coercions.proofs.coercions.find_terms.Goals as goal

pub terms_along-requires-clause-one : goal.terms_along-requires-clause-one
terms_along-requires-clause-one c = subst OnePath (sym c.as_slice-items.ensures) c.coercions.invariant.one

pub terms_along-requires-clause-led : goal.terms_along-requires-clause-led
terms_along-requires-clause-led c = subst (λ (cs : List Coercion). AreLed cs c.coercions.inside.firsts) (sym c.as_slice-items.ensures) (c.coercions.invariant.led c.if-coercions.true)

pub returns-then-coercions : goal.returns-then-coercions
returns-then-coercions c =
    subst (λ (cs : List Coercion). IfOk c.terms_along.result (λ o. MatchOption o (HasPath cs c.args.from c.args.to → ⊥) (λ terms. AreTermsOf cs c.args.from c.args.to terms.items))) (c.as_slice-items.ensures ∙ c.coercions.view_is)
    c.terms_along.ensures

pub returns : goal.returns
returns c =
    subst (λ (cs : List Coercion). IfOk c.terms_reached.result (λ o. MatchOption o (HasPath cs c.args.from c.args.to → ⊥) (λ terms. AreTermsOf cs c.args.from c.args.to terms.items))) c.coercions.view_is
    c.terms_reached.ensures
