-- The dummies of a body, each of which stands for itself.
use Rattle.std.proofs.Common.{◌≡◌, ℕ, ◌+◌, ◌-◌, ◌<◌, Bool, true, false, ltb, List, ◌++◌, length, map, Option, Some, slice_get, refl, sym, ap, ◌∙◌, inl, inr, arith, length-append}
use Rattle.std.specs.List.{range_with_len}
use Rattle.std.proofs.lemmas.List.FromFn.{length-map-range_with_len}
use Rattle.std.proofs.lemmas.Bool.{ltb-true, ltb-false}
use Rattle.std.proofs.lemmas.Option.{slice_get_within, slice_get-get_or}
use Rattle.mz_logic_theory.specs.Legality.{binder_at}
use Rattle.mz_logic_theory.specs.declared.binder.Binder.{Binder}
use Rattle.mz_logic_theory.proofs.Offered.{slice_get-rows}
use Rattle.mz_spec_proved_theory.specs.AlphaTrees.{Pairs, IsPaired}

module _ (params dummies : List Binder) where
  abbrev pub own_pairs : List (Option ℕ)
  own_pairs = map (λ k. Some k) (range_with_len 0 (length dummies))

  own-pair : (k : ℕ) → k < length dummies → slice_get own_pairs k ≡ Some (Some k)
  own-pair k below = slice_get-rows (λ k. Some k) (length dummies) k below

  itself : (k p : ℕ) → slice_get own_pairs k ≡ Some (Some p) → (k ≡ p) × (k < length dummies)
  itself k p at =
      let within : k < length own_pairs = slice_get_within own_pairs k (Some p) at in
      let below : k < length dummies = omega (arith, within, length-map-range_with_len (λ (k : ℕ). Some k) 0 (length dummies)) in
      let both : Some (Some k) ≡ Some (Some p) = sym (own-pair k below) ∙ at in
      (let is : k ≡ p = cc in is, below)

  pub pairs-own : Pairs dummies dummies own_pairs
  pairs-own = record {
    keeps_sorts = λ k p at.
        (let (same, below) = itself k p at in
        let b-at : slice_get dummies k ≡ Some (binder_at dummies k) = slice_get-get_or dummies k _ below in
        (binder_at dummies k, binder_at dummies k, ap (slice_get dummies) (sym same) ∙ b-at, b-at, refl));
    one_to_one = λ k l p at-k at-l. (itself k p at-k).0 ∙ sym (itself l p at-l).0;
  }

  pub paired-own : (x : ℕ) → x < length (params ++ dummies) → IsPaired (length params) own_pairs x x
  paired-own x below = go (ltb x (length params)) refl
    where
      go : (t : Bool) → ltb x (length params) ≡ t → IsPaired (length params) own_pairs x x
      go true is = inl (refl, ltb-true x (length params) is)
      go false is =
          let high = ltb-false x (length params) is in
          let k : ℕ = x - length params in
          let split : x ≡ length params + k = omega (arith, high) in
          inr (k, k, split, split, own-pair k (omega (arith, below, high, length-append params dummies)))
