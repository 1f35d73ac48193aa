-- Notations found by their precedences.
use Rattle.std.proofs.Common.{◌≡◌, ◌<◌, ◌≤◌, ◌⊎◌, ◌++◌, ◌∙◌, ℕ, List, [], ◌∷◌, length, Bool, true, false, Some, None, slice_get, ap, sym, refl, inl, inr, arith, Contains}
use Rattle.std.specs.Ordering.{is_eq, nat_cmp}
use Rattle.std.specs.declared.cmp.Ordering.{Ordering}
use Rattle.std.specs.declared.cmp.Ordering.TheVariants.{Less, Equal, Greater}
use Rattle.std.proofs.lemmas.Cmp.{ranked}
use Rattle.std.proofs.lemmas.Option.{slice_get_within, same_Some, none-some}
use Rattle.std.specs.BTreeMap as tree
use Rattle.std.specs.BTreeMap.{BTreeMap, is_at}
use Rattle.std.specs.Map.{lookup}
use Rattle.std.proofs.lemmas.List.Elements.{Contains-push_cases}
use Rattle.mz_base.proofs.Offered.{slice_get-last, slice_get-append}
use Rattle.mz_math_theory.specs.declared.notation.Notation.{Notation}
use Rattle.mz_math_operators.specs.Headed.{AreLevelled, place_at}

-- ---- reading

pub none-kept : (m : BTreeMap ℕ ℕ) (ks : List Notation) (level : ℕ) → AreLevelled m ks → place_at m level ≡ None → (k : Notation) → Contains ks k → k.level ≡ level → ⊥
none-kept m ks level are gone k has is =
    let (i, l, kept, at, same) = are k has in
    none-some _ (sym gone ∙ ap (place_at m) (sym is) ∙ kept)

pub past-stands : (m : BTreeMap ℕ ℕ) (ks : List Notation) (level place : ℕ) → AreLevelled m ks → place_at m level ≡ Some place → length ks ≤ place → (k : Notation) → Contains ks k → k.level ≡ level → ⊥
past-stands m ks level place are some past k has is =
    let (i, l, kept, at, same) = are k has in
    let here : i ≡ place = same_Some _ _ (sym kept ∙ ap (place_at m) is ∙ some) in
    let within : i < length ks = slice_get_within ks i l at in
    absurd (omega (arith, within, past, here))

pub other-stands : (m : BTreeMap ℕ ℕ) (ks : List Notation) (level place : ℕ) (n : Notation) → AreLevelled m ks → place_at m level ≡ Some place → slice_get ks place ≡ Some n → (n.level ≡ level → ⊥) → (k : Notation) → Contains ks k → k.level ≡ level → ⊥
other-stands m ks level place n are some there other k has is =
    let (i, l, kept, at, same) = are k has in
    let here : i ≡ place = same_Some _ _ (sym kept ∙ ap (place_at m) is ∙ some) in
    let one : l ≡ n = same_Some _ _ (sym at ∙ ap (slice_get ks) here ∙ there) in
    other (ap (λ x. x.level) (sym one) ∙ same ∙ is)

-- ---- one notation more

-- its precedence is there already
pub levelled-known : (m : BTreeMap ℕ ℕ) (ks : List Notation) (k l : Notation) → AreLevelled m ks → Contains ks l → l.level ≡ k.level → AreLevelled m (ks ++ k ∷ [])
levelled-known m ks k l are has same n in_n = elim (Contains-push_cases ks k n in_n) [
  | inl there ↦ longer n (are n there)
  | inr is ↦ let (i, j, kept, at, of) = are l has in (i, j, ap (place_at m) (sym (same ∙ ap (λ x. x.level) is)) ∙ kept, slice_get-append ks (k ∷ []) i j at, of ∙ same ∙ ap (λ x. x.level) is)
]
  where
    longer : (n : Notation) → (i : ℕ) × (j : Notation) × (place_at m n.level ≡ Some i) × (slice_get ks i ≡ Some j) × (j.level ≡ n.level)
        → (i : ℕ) × (j : Notation) × (place_at m n.level ≡ Some i) × (slice_get (ks ++ k ∷ []) i ≡ Some j) × (j.level ≡ n.level)
    longer n (i, j, kept, at, of) = (i, j, kept, slice_get-append ks (k ∷ []) i j at, of)

level-same : (a x : ℕ) → is_eq (nat_cmp a x) ≡ true → a ≡ x
level-same a x e = go (nat_cmp a x) refl e
  where
    go : (o : Ordering) → nat_cmp a x ≡ o → is_eq o ≡ true → a ≡ x
    go Less is e = absurd cc
    go Greater is e = absurd cc
    go Equal is e = ranked a x Equal (sym is)

-- the place of a notation is kept for its precedence
module _ (m n : BTreeMap ℕ ℕ) (ks : List Notation) (level place : ℕ) (put : tree.Updates nat_cmp m n level (Some place)) (are : AreLevelled m ks) (new : (l : Notation) → Contains ks l → l.level ≡ level → ⊥) where
  put-or : (x : ℕ) → (level ≡ x) ⊎ (place_at n x ≡ place_at m x)
  put-or x = go (is_eq (nat_cmp level x)) refl
    where
      go : (b : Bool) → is_eq (nat_cmp level x) ≡ b → (level ≡ x) ⊎ (place_at n x ≡ place_at m x)
      go true e = inl (level-same level x e)
      go false e = inr (put.2 x e)

  pub levelled-kept : AreLevelled n ks
  levelled-kept k has = elim (put-or k.level) [
    | inl same ↦ absurd (new k has (sym same))
    | inr kept ↦ let (i, l, was, at, of) = are k has in (i, l, kept ∙ was, at, of)
  ]

  pub levelled-more : (k : Notation) → k.level ≡ level → place ≡ length ks → AreLevelled n (ks ++ k ∷ [])
  levelled-more k is last x in_x = elim (Contains-push_cases ks k x in_x) [
    | inl there ↦ let (i, l, kept, at, of) = levelled-kept x there in (i, l, kept, slice_get-append ks (k ∷ []) i l at, of)
    | inr same ↦ (place, k, ap (place_at n) (ap (λ y. y.level) (sym same) ∙ is) ∙ put.1, ap (slice_get (ks ++ k ∷ [])) last ∙ slice_get-last ks k, ap (λ y. y.level) same)
  ]

-- a map with the same entries
pub levelled-same : (m n : BTreeMap ℕ ℕ) (ks : List Notation) → n.entries ≡ m.entries → AreLevelled m ks → AreLevelled n ks
levelled-same m n ks same are k has =
    let (i, l, kept, at, of) = are k has in
    (i, l, ap (λ es. lookup (is_at (nat_cmp k.level)) es) same ∙ kept, at, of)
