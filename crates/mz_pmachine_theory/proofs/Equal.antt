-- The test of equality holds of an expression and itself alone.
use Rattle.std.proofs.Common.{◌≡◌, true, eqb, refl, sym, ap, ◌∙◌, eq-eqb}
use Rattle.std.specs.Prelude.{◌&&◌}
use Rattle.std.proofs.lemmas.Bool.{eqb-true}
use Rattle.mz_base.proofs.Offered.{both-true}
use Rattle.mz_pmachine_theory.specs.NodeIdentity.{Numbered, Operands, a_variable, an_application, no_more, one_more, equal, all_equal}
use Rattle.mz_pmachine_theory.specs.Laws.{EqualIsSame}

mutual
  pub equal-same : (a b : Numbered) → equal a b ≡ true → a ≡ b
  equal-same (a_variable x) (a_variable y) h = ap a_variable (eqb-true _ _ h)
  equal-same (a_variable x) (an_application m u fs) h = absurd cc
  equal-same (an_application n t es) (a_variable y) h = absurd cc
  equal-same (an_application n t es) (an_application m u fs) h =
      let (a, rest) = both-true (eqb n m) (eqb t u && all_equal es fs) h in
      let (b, c) = both-true (eqb t u) (all_equal es fs) rest in
      let number : n ≡ m = eqb-true _ _ a in
      let term : t ≡ u = eqb-true _ _ b in
      let operands : es ≡ fs = all-equal-same es fs c in
      cc

  all-equal-same : (es fs : Operands) → all_equal es fs ≡ true → es ≡ fs
  all-equal-same no_more no_more h = refl
  all-equal-same no_more (one_more f fs) h = absurd cc
  all-equal-same (one_more e es) no_more h = absurd cc
  all-equal-same (one_more e es) (one_more f fs) h =
      let (a, b) = both-true (equal e f) (all_equal es fs) h in
      let first : e ≡ f = equal-same e f a in
      let rest : es ≡ fs = all-equal-same es fs b in
      cc

mutual
  pub equal-refl : (a : Numbered) → equal a a ≡ true
  equal-refl (a_variable x) = eq-eqb x x refl
  equal-refl (an_application n t es) = rw (eq-eqb n n refl, eq-eqb t t refl, all-equal-refl es) refl

  all-equal-refl : (es : Operands) → all_equal es es ≡ true
  all-equal-refl no_more = refl
  all-equal-refl (one_more e es) = rw (equal-refl e, all-equal-refl es) refl

pub equal-is-same : EqualIsSame
equal-is-same a b = (equal-same a b, λ same. ap (λ (z : Numbered). equal a z) (sym same) ∙ equal-refl a)
