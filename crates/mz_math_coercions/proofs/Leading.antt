-- What is kept for two sorts, and how it stays right with one more coercion.
use Rattle.std.proofs.Common.{◌≡◌, ◌<◌, ◌≤◌, ◌+◌, ◌-◌, ◌↔◌, ◌++◌, ◌∙◌, ℕ, List, [], ◌∷◌, length, Bool, true, false, Some, None, Option, slice_get, get_or, ap, sym, refl, subst, inl, inr, arith, Contains, length-append}
use Rattle.std.specs.Prelude.{IsTrue, MatchOption}
use Rattle.std.specs.Option.{is_some}
use Rattle.std.proofs.lemmas.Bool.{cases_order, true≢false}
use Rattle.std.proofs.lemmas.Option.{same_Some, none-some, slice_get_within}
use Rattle.std.proofs.lemmas.List.{get_or_past}
use Rattle.mz_base.proofs.Offered.{contains_at, place-of, slice_get-append, slice_get-last, same-head}
use Rattle.mz_math_theory.specs.declared.coercion.Coercion.{Coercion}
use Rattle.mz_math_coercions.specs.declared.hops.FirstSteps.{FirstSteps}
use Rattle.mz_math_theory.specs.Coercions.{IsPath, OnePath}
use Rattle.mz_math_theory.specs.CoercionAnswers.{HasPath, IsNext}
use Rattle.mz_math_coercions.specs.Firsts.{first_of, AreLed, IsChanged, IsOfStart, IsOfStarts, IsPut}
use Rattle.mz_math_coercions.specs.Found.{AreTermsOf}
use Rattle.mz_math_coercions.specs.Graph.{all_turned}
use Rattle.mz_math_coercions.specs.Groups.{AreGrouped}
use Rattle.mz_math_coercions.specs.Kept.{AreKept}
use Rattle.mz_math_coercions.specs.Reached.{AreReached, Has, IsStep}
use Rattle.mz_math_theory.proofs.Offered.{contains-middle, path-join, path-more, no-return, taken}
use Rattle.mz_math_coercions.proofs.Clashes.{reached-back, step-back}
use Rattle.mz_math_coercions.proofs.Terms.{terms-more, terms-short}
use Rattle.mz_math_coercions.proofs.Walks.{from-one, one-first}

-- ---- the first coercion of a path

pub next-at : (cs : List Coercion) (from to place : ℕ) (o : Option Coercion) → OnePath cs → (path : List ℕ) × IsPath cs from (place ∷ path) to → o ≡ slice_get cs place
    → MatchOption o ((p : ℕ) (path : List ℕ) → IsPath cs from (p ∷ path) to → ⊥) (λ c. (p : ℕ) × IsNext cs from to p c)
next-at cs from to place None one (path, (d, at-d, begins, rest)) at = absurd (none-some _ (at ∙ at-d))
next-at cs from to place (Some c) one (path, (d, at-d, begins, rest)) at =
    let same : d ≡ c = same_Some _ _ (sym at-d ∙ sym at) in (
      place,
      (
        sym at,
        ap (λ x. x.from) (sym same) ∙ begins,
        (path, subst (λ x. IsPath cs x.to path to) same rest),
        λ q other on. same-head (one from to (q ∷ other) (place ∷ path) on (d, at-d, begins, rest)),
      ),
    )

pub led-reaches : (cs : List Coercion) (m : FirstSteps) (from to : ℕ) (o : Option ℕ) → AreLed cs m → (from ≡ to → ⊥) → o ≡ first_of m from to → (b : Bool) → b ≡ is_some o → IsTrue b ↔ HasPath cs from to
led-reaches cs m from to None led other at b e = (λ t. absurd (true≢false (sym t ∙ e)), λ has. absurd (go has.0 has.1))
  where
    go : (path : List ℕ) → IsPath cs from path to → ⊥
    go [] on = other on
    go (p ∷ path) on = none-some _ (at ∙ (led from to).0 p path on)
led-reaches cs m from to (Some p) led other at b e = (λ t. let (path, on) = (led from to).1 p (sym at) in (p ∷ path, on), λ has. e)

pub stuck : (cs : List Coercion) (from to : ℕ) → (from ≡ to → ⊥) → ((p : ℕ) (path : List ℕ) → IsPath cs from (p ∷ path) to → ⊥) → HasPath cs from to → ⊥
stuck cs from to other never ([], on) = other on
stuck cs from to other never (p ∷ path, on) = never p path on

-- what is known when the coercions with these terms have been taken
pub record IsAlong (cs : List Coercion) (from to sort : ℕ) (ts : List ℕ) : Type 0 where
  pub so_far : AreTermsOf cs from sort ts
  pub left : HasPath cs from to → HasPath cs sort to

pub none-along : (cs : List Coercion) (from to : ℕ) (ts : List ℕ) → ts ≡ [] → IsAlong cs from to from ts
none-along cs from to ts is = record { so_far = ([], refl, is, omega arith); left = λ has. has }

module _ (cs : List Coercion) (from to sort : ℕ) (ts : List ℕ) (along : IsAlong cs from to sort ts) where
  pub all-along : sort ≡ to → AreTermsOf cs from to ts
  all-along there = subst (λ s. AreTermsOf cs from s ts) there along.so_far

  pub no-further : (sort ≡ to → ⊥) → ((p : ℕ) (path : List ℕ) → IsPath cs sort (p ∷ path) to → ⊥) → HasPath cs from to → ⊥
  no-further other never has = stuck cs sort to other never (along.left has)

  module _ (one : OnePath cs) (p : ℕ) (c : Coercion) (next : IsNext cs sort to p c) (new : List ℕ) (is : new ≡ ts ++ c.term ∷ []) where
    pub one-along : IsAlong cs from to c.to new
    one-along = record { so_far = subst (AreTermsOf cs from c.to) (sym is) (terms-more cs one from sort ts p c next.0 next.1 along.so_far); left = λ has. next.2 }

    pub along-smaller : length cs - length new < length cs - length ts
    along-smaller =
        let short = terms-short cs from c.to new one-along.so_far in
        let many : length new ≡ length ts + 1 = ap length is ∙ length-append ts (c.term ∷ []) in
        omega (arith, short, many)

-- ---- what is kept for a pair

abbrev Kept : Type 0
Kept = FirstSteps

-- two changes
pub then-changed : (m n o : Kept) (P Q : ℕ → ℕ → Option ℕ → Type 0) → ((s t : ℕ) (w : Option ℕ) → Q s t w → P s t w) → IsChanged m n P → IsChanged n o Q → IsChanged m o P
then-changed m n o P Q is first second s t = elim (second s t) [
  | inl same ↦ elim (first s t) [ inl before ↦ inl (same ∙ before) | inr put ↦ inr (subst (P s t) (sym same) put) ]
  | inr put ↦ inr (is s t (first_of o s t) put)
]

-- what P says of a pair stays
pub then-kept : (m n : Kept) (P Q : ℕ → ℕ → Option ℕ → Type 0) → ((s t : ℕ) (w : Option ℕ) → Q s t w → P s t w) → IsChanged m n Q → (s t : ℕ) → P s t (first_of m s t) → P s t (first_of n s t)
then-kept m n P Q is change s t put = elim (change s t) [ inl same ↦ subst (P s t) (sym same) put | inr new ↦ is s t (first_of n s t) new ]

-- ---- a list is gone through

-- so is each of the first ones
abbrev pub AllBefore : (ℕ → ℕ → Type 0) → List (ℕ × ℕ) → ℕ → Type 0
AllBefore P steps i = (k t p : ℕ) → k < i → slice_get steps k ≡ Some (t, p) → P t p

pub before-more : (P : ℕ → ℕ → Type 0) (steps : List (ℕ × ℕ)) (i s q : ℕ) → slice_get steps i ≡ Some (s, q) → AllBefore P steps i → P s q → AllBefore P steps (i + 1)
before-more P steps i s q at seen here k t p below is = elim (cases_order k i) [
  | inl same ↦
      let e = same_Some _ _ (sym at ∙ ap (slice_get steps) (sym same) ∙ is) in
      subst (λ (x : ℕ × ℕ). P x.0 x.1) e here
  | inr order ↦ elim order [ inl less ↦ seen k t p less is | inr above ↦ absurd (omega (arith, above, below)) ]
]

pub before-all : (P : ℕ → ℕ → Type 0) (steps : List (ℕ × ℕ)) (i : ℕ) → length steps ≤ i → AllBefore P steps i → (t p : ℕ) → Contains steps (t, p) → P t p
before-all P steps i whole seen t p has = let (k, at) = place-of steps (t, p) has in let within = slice_get_within steps k (t, p) at in seen k t p (omega (arith, within, whole)) at

-- ---- one end more

module _ (m n : Kept) (from place end q : ℕ) (ends : List (ℕ × ℕ)) (i : ℕ) (at : slice_get ends i ≡ Some (end, q)) (put : IsPut m n from end place) where
  abbrev IsEnd : ℕ → ℕ → Option ℕ → Type 0
  IsEnd x y o = (from ≡ x) × (end ≡ y) × (o ≡ Some place)

  end-of : (x y : ℕ) (o : Option ℕ) → IsEnd x y o → IsOfStart from place ends x y o
  end-of x y o h = (h.0, subst (Has ends) h.1 (q, contains_at ends i (end, q) at), h.2)

  pub end-changed : (l : Kept) → IsChanged l m (IsOfStart from place ends) → IsChanged l n (IsOfStart from place ends)
  end-changed l before = then-changed l m n (IsOfStart from place ends) IsEnd end-of before put.1

  pub end-seen : AllBefore (λ t p. first_of m from t ≡ Some place) ends i → AllBefore (λ t p. first_of n from t ≡ Some place) ends (i + 1)
  end-seen seen = before-more (λ t p. first_of n from t ≡ Some place) ends i end q at
      (λ k t p below is. then-kept m n (λ x y o. o ≡ Some place) IsEnd (λ x y o h. h.2) put.1 from t (seen k t p below is)) put.0

-- ---- one start more

module _ (m n : Kept) (starts ends : List (ℕ × ℕ)) (i from place : ℕ) (at : slice_get starts i ≡ Some (from, place)) (change : IsChanged m n (IsOfStart from place ends)) where
  start-of : (x y : ℕ) (o : Option ℕ) → IsOfStart from place ends x y o → IsOfStarts starts ends x y o
  start-of x y o h = (place, subst (λ z. Contains starts (z, place)) h.0 (contains_at starts i (from, place) at), h.1, h.2)

  pub start-changed : (l : Kept) → IsChanged l m (IsOfStarts starts ends) → IsChanged l n (IsOfStarts starts ends)
  start-changed l before = then-changed l m n (IsOfStarts starts ends) (IsOfStart from place ends) start-of before change

  pub start-seen : ((t : ℕ) → Has ends t → first_of n from t ≡ Some place)
      → AllBefore (λ s p. (t : ℕ) → Has ends t → IsOfStarts starts ends s t (first_of m s t)) starts i → AllBefore (λ s p. (t : ℕ) → Has ends t → IsOfStarts starts ends s t (first_of n s t)) starts (i + 1)
  start-seen put seen = before-more (λ s p. (t : ℕ) → Has ends t → IsOfStarts starts ends s t (first_of n s t)) starts i from place at
      (λ k s p below is t in-t. then-kept m n (IsOfStarts starts ends) (IsOfStart from place ends) start-of change s t (seen k s p below is t in-t))
      (λ t in-t. start-of from t (first_of n from t) (refl, in-t, put t in-t))

-- ---- one coercion more

-- behind the new coercion it isn't taken again
pub behind : (cs : List Coercion) (c : Coercion) (to : ℕ) (q : List ℕ) → OnePath (cs ++ c ∷ []) → IsPath (cs ++ c ∷ []) c.to q to → IsPath cs c.to q to
behind cs c to q one on = elim (taken cs c c.to to q on) [
  | inl without ↦ without
  | inr again ↦ absurd (no-return (cs ++ c ∷ []) one (length cs) c q to (slice_get-last cs c) on (subst (λ x. Contains x (length cs)) (sym again.2) (contains-middle again.0 again.1 (length cs))))
]

module _ (cs back : List Coercion) (c : Coercion) (one : OnePath (cs ++ c ∷ [])) (turn : back ≡ all_turned cs) (a : ℕ) (start starts ends : List (ℕ × ℕ))
    (start-is : start ≡ (c.from, a) ∷ []) (a-is : a ≡ length cs) (before : AreReached back start starts)
    (after : AreReached cs ((c.to, 0) ∷ []) ends) (m : Kept) (led : AreLed cs m) where
  -- the path from a start begins with its place
  on : (s p : ℕ) → Contains starts (s, p) → (path : List ℕ) × IsPath (cs ++ c ∷ []) s (p ∷ path) c.to
  on s p has = elim (before.via s p has) [
    | inl own ↦ let (is-s, is-p) = one-first c.from a s p start start-is own in
        ([], (c, subst (λ i. slice_get (cs ++ c ∷ []) i ≡ Some c) (sym (is-p ∙ a-is)) (slice_get-last cs c), sym is-s, refl))
    | inr came ↦
        let (r, in-starts, step) = came in
        let (d, at, begins, ends-at) = step-back cs r p s (subst (λ (ds : List Coercion). IsStep ds r p s) turn step) in
        let (q, on-q) = (reached-back cs back c.from a start starts turn start-is before r).0 in-starts in (
          q ++ length cs ∷ [],
          (
            d,
            slice_get-append cs (c ∷ []) p d at,
            begins,
            path-join (cs ++ c ∷ []) d.to c.from c.to q (length cs ∷ []) (path-more cs c d.to c.from q (subst (λ x. IsPath cs x q c.from) (sym ends-at) on-q)) (c, slice_get-last cs c, refl, refl),
          ),
        )
  ]

  in-ends : (t : ℕ) → Has ends t ↔ HasPath cs c.to t
  in-ends t = from-one cs c.to 0 ((c.to, 0) ∷ []) ends refl after t

  long : (s p t : ℕ) → Contains starts (s, p) → Has ends t → (path : List ℕ) × IsPath (cs ++ c ∷ []) s (p ∷ path) t
  long s p t has end =
      let (path, way) = on s p has in
      let (q, on-q) = (in-ends t).0 end in
      (path ++ q, path-join (cs ++ c ∷ []) s c.to t (p ∷ path) q way (path-more cs c c.to t q on-q))

  module _ (n : Kept) (change : IsChanged m n (IsOfStarts starts ends)) (put : (s t : ℕ) → Has starts s → Has ends t → IsOfStarts starts ends s t (first_of n s t)) where
    -- what is kept for a start and an end begins the path
    begins-at : (s t p : ℕ) (path : List ℕ) → IsPath (cs ++ c ∷ []) s (p ∷ path) t → IsOfStarts starts ends s t (first_of n s t) → first_of n s t ≡ Some p
    begins-at s t p path way (q, has, end, is) =
        let (other, also) = long s q t has end in
        is ∙ ap Some (sym (same-head (one s t (p ∷ path) (q ∷ other) way also)))

    new-first : (s t p : ℕ) (path : List ℕ) → IsPath (cs ++ c ∷ []) s (p ∷ path) t → first_of n s t ≡ Some p
    new-first s t p path way = elim (taken cs c s t (p ∷ path) way) [
      | inl old ↦ elim (change s t) [
        | inl same ↦ same ∙ (led s t).0 p path old
        | inr new ↦ begins-at s t p path way new
      ]
      | inr by ↦ begins-at s t p path way (put s t ((reached-back cs back c.from a start starts turn start-is before s).1 (by.0, by.3)) ((in-ends t).1 (by.1, behind cs c t by.1 one by.4)))
    ]

    there-is : (s t p : ℕ) → first_of n s t ≡ Some p → (path : List ℕ) × IsPath (cs ++ c ∷ []) s (p ∷ path) t
    there-is s t p is = elim (change s t) [
      | inl same ↦ let (path, way) = (led s t).1 p (sym same ∙ is) in (path, path-more cs c s t (p ∷ path) way)
      | inr new ↦ let (q, has, end, at) = new in long s p t (subst (λ x. Contains starts (s, x)) (same_Some _ _ (sym at ∙ is)) has) end
    ]

    pub led-more : AreLed (cs ++ c ∷ []) n
    led-more s t = (new-first s t, there-is s t)

-- ---- none yet

no-path : (s to p : ℕ) (path : List ℕ) → IsPath [] s (p ∷ path) to → ⊥
no-path s to p path (c, at, begins, rest) = none-some _ at

none-one : OnePath []
none-one s to [] [] on-x on-y = refl
none-one s to [] (q ∷ y) on-x on-y = absurd (no-path s to q y on-y)
none-one s to (p ∷ x) y on-x on-y = absurd (no-path s to p x on-x)

none-led : (m : FirstSteps) → ((s to : ℕ) → first_of m s to ≡ None) → AreLed [] m
none-led m gone s to = (λ p path on. absurd (no-path s to p path on), λ p kept. absurd (none-some _ (sym (gone s to) ∙ kept)))

pub none-kept : (cs back : List Coercion) (ups : List ℕ) (m : FirstSteps) → cs ≡ [] → back ≡ [] → ups ≡ [] → ((s to : ℕ) → first_of m s to ≡ None) → AreKept cs back ups m true true
none-kept cs back ups m cs-is back-is ups-is gone =
    subst (λ (ds : List Coercion). AreKept ds back ups m true true) (sym cs-is) (record {
      one = none-one;
      grouped = (λ s. s, (λ s. ap (λ (us : List ℕ). get_or us s s) ups-is ∙ get_or_past [] s s (omega arith), λ s is. refl), λ c has. (let (k, below, _) = has in absurd (omega (arith, below))));
      led = λ t. none-led m gone;
      turned = λ t. back-is;
    })

-- where memory has run out
pub torn-kept : (cs back : List Coercion) (ups : List ℕ) (m : FirstSteps) → OnePath cs → AreGrouped cs ups → AreKept cs back ups m false false
torn-kept cs back ups m one grouped = record { one = one; grouped = grouped; led = λ t. absurd (true≢false (sym t)); turned = λ t. absurd (true≢false (sym t)) }
