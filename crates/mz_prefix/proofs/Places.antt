-- The places of dependencies, in order.
use Rattle.std.proofs.Common.{◌≡◌, ◌∙◌, ◌<◌, ◌≤◌, ◌+◌, ℕ, suc, List, [], ◌∷◌, length, true, false, ap, ap₂, sym, refl, subst, inl, inr, arith, get_or}
use Rattle.std.specs.Prelude.{⊤, ◌==◌, ◌||◌, bytes_eq, if◌then◌else◌, All}
use Rattle.std.specs.List.{list_any}
use Rattle.std.specs.List.Sorted.{IsStrictlyIncreasing}
use Rattle.std.proofs.lemmas.Bool.{cases_eq, ne_eqb, eq-eqb, or_from, or_left}
use Rattle.std.proofs.lemmas.Slice.Eq.{bytes_eq-Decides}
use Rattle.mz_base.proofs.Offered.{other-bytes}
use Rattle.mz_lex.specs.Lexemes.{Lexeme}
use Rattle.mz_logic_theory.specs.declared.binder.Binder.{Binder}
use Rattle.mz_spec_theory.specs.View.{Variable, is_among}
use Rattle.mz_spec_theory.specs.Dependencies.{dep_places}
use Rattle.mz_prefix.specs.NamedDeclarations.{Vocabulary, HasVariables}
use Rattle.mz_prefix.proofs.Shown.{AreTexts, AreShown}

-- ---- ascending lists

abbrev pub Above : ℕ → List ℕ → Type 0
Above low [] = ⊤
Above low (j ∷ js) = (low ≤ j) × Above (suc j) js

abbrev pub AllBelow : ℕ → List ℕ → Type 0
AllBelow n [] = ⊤
AllBelow n (j ∷ js) = (j < n) × AllBelow n js

pub below-all : (n : ℕ) (js : List ℕ) → All (λ j. j < n) js → AllBelow n js
below-all n [] all = tt
below-all n (j ∷ js) all = (all 0 0 (omega arith), below-all n js (λ k d less. all (suc k) d (omega arith)))

rising : (js : List ℕ) (j : ℕ) → IsStrictlyIncreasing (j ∷ js) → Above j (j ∷ js)
rising [] j up = (omega arith, tt)
rising (i ∷ is) j up =
    let first : j < i = up 0 (omega arith) in
    let next : IsStrictlyIncreasing (i ∷ is) = λ k less. let same : suc k + 1 ≡ suc (k + 1) = omega arith in subst (λ m. get_or (i ∷ is) k 0 < get_or (j ∷ i ∷ is) m 0) same (up (suc k) (omega arith)) in
    (omega arith, (omega arith, (rising is i next).1))

pub ascending : (js : List ℕ) → IsStrictlyIncreasing js → Above 0 js
ascending [] up = tt
ascending (j ∷ js) up = (omega arith, (rising js j up).1)

not-in : (js : List ℕ) (low k : ℕ) → Above low js → k < low → list_any (λ j. j == k) js ≡ false
not-in [] low k above less = refl
not-in (j ∷ js) low k (le, above) less = or_from (j == k) (list_any (λ i. i == k) js) (ne_eqb j k (λ same. absurd (omega arith))) (not-in js (suc j) k above (omega arith))

-- ---- which are among the dependencies

same-bytes : (a b : List ℕ) → a ≡ b → bytes_eq a b ≡ true
same-bytes a b is = (bytes_eq-Decides a b).1 is

module _ (v : Vocabulary) (n : ℕ) (variables : HasVariables v n) where
  same-test : (x k : ℕ) (l : Lexeme) → x < n → k < n → l.text ≡ v.variable x → bytes_eq l.text (v.variable k) ≡ (x == k)
  same-test x k l xs ks text =
      elim (cases_eq x k) [
        | inl same ↦ same-bytes l.text (v.variable k) (text ∙ ap v.variable same) ∙ sym (eq-eqb x k same)
        | inr other ↦ other-bytes l.text (v.variable k) (λ is. other (variables.distinct x k xs ks (sym text ∙ is))) ∙ sym (ne_eqb x k other)
      ]

  pub among-same : (xs : List ℕ) (ls : List Lexeme) (k : ℕ) → AreTexts v xs ls → AllBelow n xs → k < n → list_any (λ d. bytes_eq d.text (v.variable k)) ls ≡ list_any (λ j. j == k) xs
  among-same [] [] k texts below less = refl
  among-same (x ∷ xs) (l ∷ ls) k texts below less = ap₂ ◌||◌ (same-test x k l below.0 less texts.0) (among-same xs ls k texts.1 below.1 less)
  among-same _ _ k texts below less = absurd texts

abbrev Agree : Vocabulary → List Lexeme → ℕ → ℕ → List ℕ → Type 0
Agree v ls x to js = (k : ℕ) → x ≤ k → k < to → list_any (λ d. bytes_eq d.text (v.variable k)) ls ≡ list_any (λ j. j == k) js

pub places-are : (v : Vocabulary) (ls : List Lexeme) (bs : List Binder) (ws : List Variable) (x i to : ℕ) (js : List ℕ) → i ≡ x → to ≡ x + length bs → AreShown v false x bs ws
    → Above x js → AllBelow to js → Agree v ls x to js → dep_places i ws ls ≡ js
places-are v ls [] [] x i to [] place end shown above below agree = refl
places-are v ls [] [] x i to (j ∷ js) place end shown above below agree = let le = above.0 in let lt = below.0 in absurd (omega arith)
places-are v ls (b ∷ bs) (w ∷ ws) x i to js place end (is, shown) above below agree =
    first js above below agree (λ ks a b c. places-are v ls bs ws (suc x) (i + 1) to ks (omega arith) (omega arith) shown a b c)
  where
    abbrev_rest : List ℕ
    abbrev_rest = dep_places (i + 1) ws ls

    among : (ks : List ℕ) → Agree v ls x to ks → is_among ls w.name ≡ list_any (λ j. j == x) ks
    among ks agree = ap (is_among ls) is.named ∙ ap (λ t. list_any (λ d. bytes_eq d.text t) ls) is.text ∙ agree x (omega arith) (omega arith)

    first : (ks : List ℕ) → Above x ks → AllBelow to ks → Agree v ls x to ks
        → ((us : List ℕ) → Above (suc x) us → AllBelow to us → Agree v ls (suc x) to us → dep_places (i + 1) ws ls ≡ us)
        → (if is_among ls w.name then i ∷ dep_places (i + 1) ws ls else dep_places (i + 1) ws ls) ≡ ks
    first [] above below agree more =
        ap (λ c. if c then i ∷ dep_places (i + 1) ws ls else dep_places (i + 1) ws ls) (among [] agree) ∙ more [] tt tt (λ k le less. agree k (omega arith) less)
    first (j ∷ ks) above below agree more =
        elim (cases_eq j x) [
          | inl same ↦ (
              let yes_ : is_among ls w.name ≡ true = among (j ∷ ks) agree ∙ or_left (j == x) (list_any (λ u. u == x) ks) (eq-eqb j x same) in
              let A : ℕ → Type 0 = λ y. Above (suc y) ks in
              let rest = more ks (subst A same above.1) below.1 (λ k le less. agree k (omega arith) less ∙ ap (λ c. c || list_any (λ u. u == k) ks) (ne_eqb j k (λ e. absurd (omega arith)))) in
              ap (λ c. if c then i ∷ dep_places (i + 1) ws ls else dep_places (i + 1) ws ls) yes_ ∙ ap₂ ◌∷◌ (place ∙ sym same) rest)
          | inr other ↦ (
              let le = above.0 in
              let higher : Above (suc x) (j ∷ ks) = ((omega arith), above.1) in
              ap (λ c. if c then i ∷ dep_places (i + 1) ws ls else dep_places (i + 1) ws ls) (among (j ∷ ks) agree ∙ not-in (j ∷ ks) (suc x) x higher (omega arith))
              ∙ more (j ∷ ks) higher below (λ k le less. agree k (omega arith) less))
        ]
places-are v ls _ _ x i to js place end shown above below agree = absurd shown
