-- Constants found by a place where they stand.
use Rattle.std.proofs.Common.{◌≡◌, ◌<◌, ◌≤◌, ◌++◌, arith, ◌∙◌, ℕ, List, [], ◌∷◌, length, true, false, Option, Some, None, MatchOption, slice_get, ap, sym, subst, inl, inr, Contains}
use Rattle.std.specs.Prelude.{bytes_eq, if◌then◌else◌}
use Rattle.std.specs.Cmp.Lexicographic.{bytes_decides}
use Rattle.std.proofs.lemmas.Bool.{cases_Bool, cond-true, cond-false}
use Rattle.std.proofs.lemmas.Option.{slice_get_within, same_Some, none-some}
use Rattle.mz_base.proofs.Offered.{slice_get-last, slice_get-append, place-of, slice_get-push_cases, contains_at}
use Rattle.mz_math_theory.specs.declared.notation.Notation.{Notation}
use Rattle.mz_math_theory.specs.declared.notation.Element.{Element}
use Rattle.mz_math_theory.specs.declared.notation.Element.TheVariants.{Fixed as fixed}
use Rattle.mz_math_theory.specs.Clear.{HasConstant, LedBy, JoinedBy}
use Rattle.mz_math_theory.specs.NotationAnswers.{NoOtherJoined, NoOtherLed}
use Rattle.mz_math_operators.specs.Headed.{AreFound, IsHeadedBy, IsNoted, StandsAt}
use Rattle.mz_math_theory.specs.Listed.{AreListed}
use Rattle.mz_math_theory.proofs.Offered.{constant-listed}
use Rattle.mz_lex.specs.Places.{place_of}
use Rattle.mz_math_operators.specs.declared.notations.Spot.{Spot}

fixed-word : {w v : List ℕ} {q p : ℕ} → Some (fixed w q) ≡ Some (fixed v p) → w ≡ v
fixed-word e = cc

-- ---- reading

stands-somewhere : (ps : List (List ℕ × Spot)) (ks : List Notation) (w : List ℕ) (q : ℕ) → AreFound ps ks → HasConstant ks w q → (s : Spot) × (place_of ps w ≡ Some s) × StandsAt ks w s
stands-somewhere ps ks w q are (k, in_ks, in_k) =
    let (i, at) = place-of ks k in_ks in
    let (j, there) = place-of k.elements (fixed w q) in_k in
    are i j k w q at there

pub none-found : (ps : List (List ℕ × Spot)) (ks : List Notation) (w : List ℕ) → AreFound ps ks → place_of ps w ≡ None → (q : ℕ) → HasConstant ks w q → ⊥
none-found ps ks w are gone q has = let (s, found, stands) = stands-somewhere ps ks w q are has in none-some _ (sym gone ∙ found)

module _ (ps : List (List ℕ × Spot)) (ks : List Notation) (w : List ℕ) (s : Spot) (are : AreFound ps ks) (found : place_of ps w ≡ Some s) where
  stands-there : (q : ℕ) → HasConstant ks w q → StandsAt ks w s
  stands-there q has = let (r, kept, stands) = stands-somewhere ps ks w q are has in subst (StandsAt ks w) (same_Some _ _ (sym kept ∙ found)) stands

  pub past-notations : length ks ≤ s.notation → (q : ℕ) → HasConstant ks w q → ⊥
  past-notations past q has =
      let (k, p, at, there) = stands-there q has in
      let within : s.notation < length ks = slice_get_within ks s.notation k at in
      absurd (omega (arith, within, past))

  module _ (n : Notation) (here : slice_get ks s.notation ≡ Some n) where
    stands-in : (q : ℕ) → HasConstant ks w q → (p : ℕ) × (slice_get n.elements s.element ≡ Some (fixed w p))
    stands-in q has =
        let (k, p, at, there) = stands-there q has in
        (p, subst (λ (l : Notation). slice_get l.elements s.element ≡ Some (fixed w p)) (same_Some _ _ (sym at ∙ here)) there)

    pub past-elements : (listed : List Element) → AreListed n.elements listed → length listed ≤ s.element → (q : ℕ) → HasConstant ks w q → ⊥
    past-elements listed are past q has =
        let (p, there) = stands-in q has in
        let within : s.element < length listed = slice_get_within listed s.element (fixed w p) (constant-listed n.elements listed s.element w p are there) in
        absurd (omega (arith, within, past))

    pub level-here : (e : Element) → slice_get n.elements s.element ≡ Some e → (o : Option ℕ) → MatchOption o ((q : ℕ) → e ≡ fixed w q → ⊥) (λ q. e ≡ fixed w q)
        → MatchOption o ((q : ℕ) → HasConstant ks w q → ⊥) (λ q. HasConstant ks w q)
    level-here e element None other = λ q has. let (p, there) = stands-in q has in other p (same_Some _ _ (sym element ∙ there))
    level-here e element (Some q) is = (n, contains_at ks s.notation n here, contains_at n.elements s.element (fixed w q) (element ∙ ap Some is))

-- ---- one notation more

stands-longer : (ks : List Notation) (k : Notation) (w : List ℕ) (s : Spot) → StandsAt ks w s → StandsAt (ks ++ k ∷ []) w s
stands-longer ks k w s (l, q, at, there) = (l, q, slice_get-append ks (k ∷ []) s.notation l at, there)

module _ (ps qs : List (List ℕ × Spot)) (ks : List Notation) (k : Notation) (bs : List ℕ) (j level : ℕ) (here : slice_get k.elements j ≡ Some (fixed bs level))
    (put : (w : List ℕ) → place_of qs w ≡ (if bytes_eq bs w then Some (record { notation = length ks; element = j }) else place_of ps w)) where
  abbrev spot : Spot
  spot = record { notation = length ks; element = j }

  pub found-kept : AreFound ps ks → ((q : ℕ) → HasConstant ks bs q → ⊥) → AreFound qs ks
  found-kept are new i n l w q at in_l =
      let s = are i n l w q at in_l in
      (s.0, put w ∙ cond-false (bytes_eq bs w) (Some spot) (place_of ps w) other ∙ s.1, s.2)
    where
      other : bytes_eq bs w ≡ false
      other = elim (cases_Bool (bytes_eq bs w)) [
        | inl same ↦ absurd (new q (subst (λ v. HasConstant ks v q) (sym ((bytes_decides bs w).0 same)) (l, contains_at ks i l at, contains_at l.elements n (fixed w q) in_l)))
        | inr differs ↦ differs
      ]

  noted-word : (w : List ℕ) → bytes_eq bs w ≡ true → (s : Spot) × (place_of qs w ≡ Some s) × StandsAt (ks ++ k ∷ []) w s
  noted-word w same = (
    spot,
    put w ∙ cond-true (bytes_eq bs w) (Some spot) (place_of ps w) same,
    (k, level, slice_get-last ks k, here ∙ ap (λ v. Some (fixed v level)) ((bytes_decides bs w).0 same)),
  )

  pub noted-here : IsNoted qs ks k j
  noted-here w q at = noted-word w ((bytes_decides bs w).1 (fixed-word (sym here ∙ at)))

  pub noted-kept : (i : ℕ) → IsNoted ps ks k i → IsNoted qs ks k i
  noted-kept i is w q at = elim (cases_Bool (bytes_eq bs w)) [
    | inl same ↦ noted-word w same
    | inr differs ↦ let s = is w q at in (s.0, put w ∙ cond-false (bytes_eq bs w) (Some spot) (place_of ps w) differs ∙ s.1, s.2)
  ]

-- a constant that is there already
pub noted-known : (ps : List (List ℕ × Spot)) (ks : List Notation) (k : Notation) (bs : List ℕ) (j level p : ℕ) → slice_get k.elements j ≡ Some (fixed bs level) → AreFound ps ks → HasConstant ks bs p → IsNoted ps ks k j
noted-known ps ks k bs j level p here are (l, in_l, in_els) w q at =
    let a = place-of ks l in_l in
    let b = place-of l.elements (fixed bs p) in_els in
    let s = are a.0 b.0 l bs p a.1 b.1 in
    let same = fixed-word (sym here ∙ at) in
    (s.0, ap (place_of ps) (sym same) ∙ s.1, stands-longer ks k w s.0 (subst (λ v. StandsAt ks v s.0) same s.2))

pub found-more : (ps : List (List ℕ × Spot)) (ks : List Notation) (k : Notation) (listed : List Element) → AreListed k.elements listed → AreFound ps ks
    → ((i : ℕ) → i < length listed → IsNoted ps ks k i) → AreFound ps (ks ++ k ∷ [])
found-more ps ks k listed all are noted i j l w q at in_l = elim (slice_get-push_cases ks k i l at) [
  | inl there ↦ let s = are i j l w q there in_l in (s.0, s.1, stands-longer ks k w s.0 s.2)
  | inr last ↦
      let here = subst (λ n. slice_get n.elements j ≡ Some (fixed w q)) (sym last.1) in_l in
      noted j (slice_get_within listed j (fixed w q) (constant-listed k.elements listed j w q all here)) w q here
]

-- one constant makes a notation
pub headed-one : (k : Notation) (v w : List ℕ) → IsHeadedBy k v → IsHeadedBy k w → v ≡ w
headed-one k v w (inl a) (inl b) = heads (sym a.1 ∙ b.1)
  where
    heads : {x y : List ℕ} {p q : ℕ} {ls ms : List Element} → fixed x p ∷ ls ≡ fixed y q ∷ ms → x ≡ y
    heads e = cc
headed-one k v w (inl a) (inr b) = absurd (let e = sym a.1 ∙ b.2 in cc)
headed-one k v w (inr a) (inl b) = absurd (let e = sym a.2 ∙ b.1 in cc)
headed-one k v w (inr a) (inr b) = seconds (sym a.2 ∙ b.2)
  where
    seconds : {x y : List ℕ} {p q : ℕ} {s t : Element} {ls ms : List Element} → s ∷ fixed x p ∷ ls ≡ t ∷ fixed y q ∷ ms → x ≡ y
    seconds e = cc

-- ---- leading notations begin with a constant, infix ones with a parameter

joined-only : (k : Notation) (v : List ℕ) → JoinedBy k v → (w : List ℕ) → IsHeadedBy k w → JoinedBy k w
joined-only k v joined w (inl led) = absurd (let e = sym led.1 ∙ joined.2 in cc)
joined-only k v joined w (inr by) = by

led-only : (k : Notation) (v : List ℕ) → LedBy k v → (w : List ℕ) → IsHeadedBy k w → LedBy k w
led-only k v led w (inl by) = by
led-only k v led w (inr joined) = absurd (let e = sym led.1 ∙ joined.2 in cc)

pub joined-apart : (ks : List Notation) (k : Notation) → (v : List ℕ) × JoinedBy k v → ((l : Notation) → Contains ks l → (v : List ℕ) × JoinedBy l v) → NoOtherJoined ks k → (l : Notation) (w : List ℕ) → Contains ks l → IsHeadedBy k w → IsHeadedBy l w → ⊥
joined-apart ks k (v, own) all other l w has by_k by_l = let (u, its) = all l has in other l w has (joined-only k v own w by_k) (joined-only l u its w by_l)

pub led-apart : (ks : List Notation) (k : Notation) → (v : List ℕ) × LedBy k v → ((l : Notation) → Contains ks l → (v : List ℕ) × LedBy l v) → NoOtherLed ks k → (l : Notation) (w : List ℕ) → Contains ks l → IsHeadedBy k w → IsHeadedBy l w → ⊥
led-apart ks k (v, own) all other l w has by_k by_l = let (u, its) = all l has in other l w has (led-only k v own w by_k) (led-only l u its w by_l)
