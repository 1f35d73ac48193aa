-- The precedences of a notation's own constants, as they are noted one after another.
use Rattle.std.proofs.Common.{◌≡◌, ◌∙◌, ◌↔◌, ◌⊎◌, ◌<◌, ◌≤◌, ◌+◌, ℕ, List, [], length, Bool, true, false, Some, None, slice_get, get_or, Contains, ap, ap₂, sym, refl, subst, inl, inr, arith, eq-or-lt_of_le}
use Rattle.std.specs.Prelude.{◌==◌, bytes_eq, if◌then◌else◌}
use Rattle.std.specs.Bool.{Decides}
use Rattle.std.proofs.lemmas.Bool.{true≢false}
use Rattle.std.proofs.lemmas.Bool.Decides.{eqb_tells}
use Rattle.std.proofs.lemmas.Option.{slice_get_within, slice_get-get_or, same_Some, none-some}
use Rattle.std.proofs.lemmas.Slice.Eq.{bytes_eq-Decides}
use Rattle.mz_base.proofs.Offered.{place-of}
use Rattle.mz_lex.specs.Places.{place_of}
use Rattle.mz_math_theory.specs.NotationAnswers.{KeepsOwnLevels}
use Rattle.mz_math_operators.specs.Levels.{IsLevelNoted}
use Rattle.mz_math_theory.specs.declared.notation.Element.{Element}
use Rattle.mz_math_theory.specs.declared.notation.Element.TheVariants.{Fixed as fixed, Slot as slot}
use Rattle.mz_math_theory.proofs.Offered.{fixed-same}

-- ---- one constant

module _ (old : List (List ℕ × ℕ)) (w : List ℕ) (q : ℕ) where
  pub noted-before : (other : ℕ) → place_of old w ≡ Some other → IsLevelNoted (other == q) old (fixed w q) old
  noted-before other at = elim (eqb_tells other q) [
    | inl same ↦ subst (λ b. IsLevelNoted b old (fixed w q) old) (sym same.0) (λ v p. (λ h. inl h, λ h. elim h [ inl there ↦ there | inr is ↦ again v p same.1 (fixed-same is) ]))
    | inr differs ↦ subst (λ b. IsLevelNoted b old (fixed w q) old) (sym differs.0) (w, q, other, refl, at, differs.1)
  ]
    where
      again : (v : List ℕ) (p : ℕ) → other ≡ q → (w ≡ v) × (q ≡ p) → place_of old v ≡ Some p
      again v p same (is, level) = ap (place_of old) (sym is) ∙ at ∙ ap Some (same ∙ level)

  pub noted-new : (new : List (List ℕ × ℕ)) → place_of old w ≡ None → ((v : List ℕ) → place_of new v ≡ (if bytes_eq w v then Some q else place_of old v)) → IsLevelNoted true old (fixed w q) new
  noted-new new none made v p = go (bytes_eq w v) (bytes_eq-Decides w v) (made v)
    where
      go : (b : Bool) → Decides b (w ≡ v) → place_of new v ≡ (if b then Some q else place_of old v) → (place_of new v ≡ Some p) ↔ ((place_of old v ≡ Some p) ⊎ (fixed w q ≡ fixed v p))
      go true tells is = (
        λ h. inr (ap₂ fixed (tells.0 refl) (same_Some _ _ (sym is ∙ h))),
        λ h. elim h [ inl there ↦ absurd (none-some _ (sym none ∙ ap (place_of old) (tells.0 refl) ∙ there)) | inr same ↦ is ∙ ap Some (fixed-same same).1 ],
      )
      go false tells is = (λ h. inl (sym is ∙ h), λ h. elim h [ inl there ↦ is ∙ there | inr same ↦ absurd (true≢false (sym (tells.1 (fixed-same same).0))) ])

-- what is no constant has no precedence
pub noted-slot : (old : List (List ℕ × ℕ)) (e : Element) (i : ℕ) → e ≡ slot i → IsLevelNoted true old e old
noted-slot old e i is w q = (λ h. inl h, λ h. elim h [ inl there ↦ there | inr other ↦ absurd (slot-fixed (sym is ∙ other)) ])
  where
    slot-fixed : slot i ≡ fixed w q → ⊥
    slot-fixed e = cc

-- ---- the elements one after another

-- what is noted stands among the elements, and of the first ones all is noted
abbrev pub AreNoted : List (List ℕ × ℕ) → List Element → ℕ → Type 0
AreNoted levels es k = ((w : List ℕ) (q : ℕ) → place_of levels w ≡ Some q → Contains es (fixed w q))
    × ((i : ℕ) → i < k → (w : List ℕ) (q : ℕ) → slice_get es i ≡ Some (fixed w q) → place_of levels w ≡ Some q)

pub none-noted : (levels : List (List ℕ × ℕ)) (es : List Element) → levels ≡ [] → AreNoted levels es 0
none-noted levels es is = (λ w q at. absurd (none-some _ (sym (ap (λ ps. place_of ps w) is) ∙ at)), λ i below w q at. absurd (omega (arith, below)))

module _ (es : List Element) (k : ℕ) (e : Element) (within : k < length es) (item : e ≡ get_or es k e) (old new : List (List ℕ × ℕ)) where
  here : slice_get es k ≡ Some e
  here = slice_get-get_or es k e within ∙ ap Some (sym item)

  member : Contains es e
  member = (k, within, sym item)

  pub noted-on : IsLevelNoted true old e new → AreNoted old es k → AreNoted new es (k + 1)
  noted-on noted (forth, back) = (
    λ w q at. elim ((noted w q).0 at) [ inl before ↦ forth w q before | inr is ↦ subst (Contains es) is member ],
    λ i below w q at. (noted w q).1 (seen i below w q at),
  )
    where
      seen : (i : ℕ) → i < k + 1 → (w : List ℕ) (q : ℕ) → slice_get es i ≡ Some (fixed w q) → (place_of old w ≡ Some q) ⊎ (e ≡ fixed w q)
      seen i below w q at = elim (eq-or-lt_of_le (let le : i ≤ k = omega (arith, below) in le)) [
        | inl last ↦ inr (same_Some _ _ (sym here ∙ ap (slice_get es) (sym last) ∙ at))
        | inr before ↦ inl (back i before w q at)
      ]

  pub noted-twice : IsLevelNoted false old e new → AreNoted old es k → KeepsOwnLevels es → ⊥
  noted-twice (w, q, p, is, at, differs) (forth, back) keeps = differs (keeps w q p (subst (Contains es) is member) (forth w p at))

pub all-noted : (levels : List (List ℕ × ℕ)) (es : List Element) (k : ℕ) → length es ≤ k → AreNoted levels es k → KeepsOwnLevels es
all-noted levels es k done (forth, back) w q p one other =
    let (i, at) = place-of es (fixed w q) one in
    let (j, there) = place-of es (fixed w p) other in
    same_Some _ _ (sym (back j (early j (fixed w p) there) w p there) ∙ back i (early i (fixed w q) at) w q at)
  where
    early : (i : ℕ) (e : Element) → slice_get es i ≡ Some e → i < k
    early i e at = let below = slice_get_within es i e at in omega (arith, below, done)
