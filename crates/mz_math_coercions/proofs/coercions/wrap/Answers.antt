use Rattle.std.proofs.Common.{◌∷◌, [], ℕ, List, refl, subst}
use Rattle.std.specs.Prelude.{IfSome, MatchOption, Option}
use Rattle.std.proofs.lemmas.Result.{IfOk-weaker}
use Rattle.mz_math_theory.specs.CoercionAnswers.{HasPath}
use Rattle.mz_math_coercions.specs.Found.{AreTermsOf}
use Rattle.mz_math_coercions.proofs.Terms.{under-wrapped}
use Rattle.mz_math_coercions.proofs.coercions.wrap.Goals as goal

pub returns-then-from-to-clause-wrapped : goal.returns-then-from-to-clause-wrapped
returns-then-from-to-clause-wrapped c = ([], c.if-from-to.true, refl)

pub returns-in-Some-clause-wrapped : goal.returns-in-Some-clause-wrapped
returns-in-Some-clause-wrapped c =
    let cs = c.args.coercions.now in
    let P : Option ℕ → Type 0 = λ o. IfSome o (λ t. AreTermsOf cs c.args.from c.args.to (t ∷ [])) in
    IfOk-weaker c.applied.result _ _ (λ e is. under-wrapped cs c.args.from c.args.to (c.in-Some.term ∷ []) c.args.expr e is (subst P c.in-Some.is c.single_step.ensures)) c.applied.ensures

pub returns-clause-wrapped : goal.returns-clause-wrapped
returns-clause-wrapped c =
    let cs = c.args.coercions.now in
    let P : Option (List ℕ) → Type 0 = λ o. MatchOption o (HasPath cs c.args.from c.args.to → ⊥) (λ terms. AreTermsOf cs c.args.from c.args.to terms) in
    let are = subst P c.in-Some-2.is c.in_ok-terms.ensures.terms in
    IfOk-weaker c.under.result _ _ (λ e is. under-wrapped cs c.args.from c.args.to c.in-Some-2.terms c.args.expr e is are) c.under.ensures
