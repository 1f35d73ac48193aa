use Rattle.std.proofs.Common.{ℕ, List, subst}
use Rattle.std.specs.Prelude.{IfOk, IfSome, Option}
use Rattle.mz_math_coercions.specs.Found.{AreTermsOf}
use Rattle.mz_math_coercions.proofs.coercions.terms_between.Goals as goal

pub returns-in-Some-clause-terms : goal.returns-in-Some-clause-terms
returns-in-Some-clause-terms c =
    let P : Option (List ℕ) → Type 0 = λ o. IfSome o (λ terms. AreTermsOf c.args.coercions.now c.args.from c.args.to terms) in
    subst P c.in-Some.is (subst (λ r. IfOk r P) c.in_ok-terms.was (c.get.ensures c.args.coercions.now c.requires))
