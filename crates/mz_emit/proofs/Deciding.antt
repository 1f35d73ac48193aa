-- Each text can be compiled, or has one first fault, or passes one first limit.
use Rattle.std.proofs.Common.{ℕ, Bool, ◌⊎◌, inl, inr, List, subst}
use Rattle.mz_mmu_theory.specs.Statements.{Statement}
use Rattle.mz_sexpr.specs.declared.rule.TextRefusal.{TextRefusal}
use Rattle.mz_mmu_theory.specs.TextOf.{TextOf, TextFault}
use Rattle.mz_mmu_theory.specs.Weight.{Passed, Passes, IsWithinLimits}
use Rattle.mz_mmu_theory.specs.TypeLaws.{EachIsLimited, IsTypedOrFaulty}
use Rattle.mz_emit_theory.specs.Compiling.{IsCompilable, PassesLimit, IsDecided}

module _ (typed_or_faulty : (gaps : Bool) (text : List ℕ) → IsTypedOrFaulty gaps text) (each_is_limited : EachIsLimited) (gaps : Bool) (text : List ℕ) where
  limited : (ss : List Statement) → TextOf gaps text ss → IsWithinLimits ss ⊎ ((p : Passed) × Passes ss p) → IsCompilable gaps text ⊎ (((r : TextRefusal) × TextFault gaps text r) ⊎ ((p : Passed) × PassesLimit gaps text p))
  limited ss typed (inl within) = inl (ss, typed, within)
  limited ss typed (inr (p, passes)) = inr (inr (p, (ss, typed, passes)))

  typed : ((ss : List Statement) × TextOf gaps text ss) ⊎ ((r : TextRefusal) × TextFault gaps text r)
      → IsCompilable gaps text ⊎ (((r : TextRefusal) × TextFault gaps text r) ⊎ ((p : Passed) × PassesLimit gaps text p))
  typed (inl (ss, is)) = limited ss is (each_is_limited ss).one_of_both
  typed (inr fault) = inr (inl fault)

  pub is_decided : IsDecided gaps text
  is_decided =
      let one = typed_or_faulty gaps text in
      record {
        one_of_three = typed one.one_of_both;
        not_refused = λ r can fault. one.never_both can.0 r can.1 fault;
        not_limited = λ p can passes. (each_is_limited can.0).never_both p can.2
            (subst (λ ss. Passes ss p) (one.one_list passes.0 can.0 passes.1 can.1) passes.2);
        not_both = λ p r passes fault. one.never_both passes.0 r passes.1 fault;
        one_limit = λ p q first other. (each_is_limited first.0).one_passes p q first.2
            (subst (λ ss. Passes ss q) (one.one_list other.0 first.0 other.1 first.1) other.2);
        one_fault = one.one_fault;
      }
