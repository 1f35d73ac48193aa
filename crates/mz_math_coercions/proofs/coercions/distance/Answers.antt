use Rattle.std.proofs.Common.{◌∙◌, [], ℕ, List, arith, refl, subst, sym}
use Rattle.std.specs.Prelude.{MatchOption, Option}
use Rattle.mz_math_theory.specs.CoercionAnswers.{HasPath}
use Rattle.mz_math_coercions.specs.Found.{AreTermsOf}
use Rattle.mz_math_coercions.proofs.Terms.{single-length, terms-length}
use Rattle.mz_math_coercions.proofs.coercions.distance.Goals as goal

pub returns-then-from-to-clause-many : goal.returns-then-from-to-clause-many
returns-then-from-to-clause-many c = ([], c.if-from-to.true, refl, omega arith)

pub returns-then-is_some-clause-many : goal.returns-then-is_some-clause-many
returns-then-is_some-clause-many c = single-length c.args.coercions.now c.args.from c.args.to c.single_step.result c.single_step.ensures (sym c.is_some.ensures ∙ c.if-is_some.true)

pub returns-in-Some-clause-many : goal.returns-in-Some-clause-many
returns-in-Some-clause-many c =
    let cs = c.args.coercions.now in
    let P : Option (List ℕ) → Type 0 = λ o. MatchOption o (HasPath cs c.args.from c.args.to → ⊥) (λ terms. AreTermsOf cs c.args.from c.args.to terms) in
    terms-length cs c.args.from c.args.to c.as_slice.result.now _ refl (subst (AreTermsOf cs c.args.from c.args.to) (sym c.as_slice.ensures) (subst P c.in-Some.is c.in_ok-terms_between.ensures.terms))
