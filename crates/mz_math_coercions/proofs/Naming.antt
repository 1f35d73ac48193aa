-- Groups of sorts.
use Rattle.std.proofs.Common.{◌≡◌, ◌<◌, ◌≤◌, ◌++◌, ◌∙◌, ℕ, List, [], ◌∷◌, length, Bool, true, false, slice_set, get_or, ap, sym, refl, subst, inl, inr, arith, length-append}
use Rattle.std.specs.Prelude.{cond}
use Rattle.std.proofs.Math.Dec.{eqb}
use Rattle.std.proofs.lemmas.Bool.{cases_order, cases_eq, eq-eqb, eqb-true}
use Rattle.std.proofs.lemmas.List.{get_or-set_same, get_or-set_other, get_or_append_left, get_or_past}
use Rattle.mz_math_coercions.specs.Groups.{AreJoined, GoDown, IsNamed, up_of}

-- ---- where a sort points

at-end : (xs : List ℕ) (x d : ℕ) → get_or (xs ++ x ∷ []) (length xs) d ≡ x
at-end [] x d = refl
at-end (y ∷ xs) x d = at-end xs x d

-- one more that points to itself
pub up-more : (ups : List ℕ) (n : ℕ) → n ≡ length ups → (s : ℕ) → up_of (ups ++ n ∷ []) s ≡ up_of ups s
up-more ups n is s = elim (cases_order s (length ups)) [
  | inl here ↦ subst (λ i. get_or (ups ++ n ∷ []) i s ≡ up_of ups s) (sym here) (at-end ups n s ∙ is ∙ sym here ∙ sym (get_or_past ups s s (omega (arith, here))))
  | inr order ↦ elim order [
    | inl less ↦ get_or_append_left ups (n ∷ []) s s less
    | inr above ↦ get_or_past (ups ++ n ∷ []) s s (let l = length-append ups (n ∷ []) in omega (arith, above, l)) ∙ sym (get_or_past ups s s (omega (arith, above)))
  ]
]

pub up-within : (ups : List ℕ) (s : ℕ) → (up_of ups s ≡ s → ⊥) → s < length ups
up-within ups s other = elim (cases_order s (length ups)) [
  | inl here ↦ absurd (other (get_or_past ups s s (omega (arith, here))))
  | inr order ↦ elim order [ inl less ↦ less | inr above ↦ absurd (other (get_or_past ups s s (omega (arith, above)))) ]
]

pub named-same : (ups new : List ℕ) → ((s : ℕ) → up_of new s ≡ up_of ups s) → (name : ℕ → ℕ) → IsNamed ups name → IsNamed new name
named-same ups new same name named = (λ s. ap name (same s) ∙ named.0 s, λ s is. named.1 s (sym (same s) ∙ is))

pub down-same : (ups new : List ℕ) → ((s : ℕ) → up_of new s ≡ up_of ups s) → GoDown ups → GoDown new
down-same ups new same down s = let e = same s in let le = down s in omega (arith, e, le)

pub none-down : (ups : List ℕ) → ups ≡ [] → GoDown ups
none-down ups is s = let e : up_of ups s ≡ s = get_or_past ups s s (let l = ap length is in omega (arith, l)) in omega (arith, e)

-- ---- a sort points further

module _ (ups : List ℕ) (at up next : ℕ) (down : GoDown ups) (up-is : up ≡ up_of ups at) (other : up ≡ at → ⊥) (next-is : next ≡ up_of ups up) where
  pub further-within : at < length ups
  further-within = up-within ups at (λ e. other (up-is ∙ e))

  pub further-less : next < at
  further-less = let a = down at in let b = down up in omega (arith, a, b, up-is, next-is, other)

  here : up_of (slice_set ups at next) at ≡ next
  here = get_or-set_same ups at next at further-within

  elsewhere : (s : ℕ) → (s ≡ at → ⊥) → up_of (slice_set ups at next) s ≡ up_of ups s
  elsewhere s not = get_or-set_other ups at s next s not

  pub further-down : GoDown (slice_set ups at next)
  further-down s = elim (cases_eq s at) [
    | inl is ↦ subst (λ i. up_of (slice_set ups at next) i ≤ i) (sym is) (let e = here in let l = further-less in omega (arith, e, l))
    | inr not ↦ let e = elsewhere s not in let le = down s in omega (arith, e, le)
  ]

  pub further-named : (name : ℕ → ℕ) → IsNamed ups name → IsNamed (slice_set ups at next) name
  further-named name named = (steps, tops)
    where
      steps : (s : ℕ) → name (up_of (slice_set ups at next) s) ≡ name s
      steps s = elim (cases_eq s at) [
        | inl is ↦ subst (λ i. name (up_of (slice_set ups at next) i) ≡ name i) (sym is)
            (ap name here ∙ ap name next-is ∙ named.0 up ∙ ap name up-is ∙ named.0 at)
        | inr not ↦ ap name (elsewhere s not) ∙ named.0 s
      ]

      tops : (s : ℕ) → up_of (slice_set ups at next) s ≡ s → name s ≡ s
      tops s top = elim (cases_eq s at) [
        | inl is ↦ let e : up_of (slice_set ups at next) at ≡ at = subst (λ i. up_of (slice_set ups at next) i ≡ i) is top in let h = here in let l = further-less in absurd (omega (arith, e, h, l))
        | inr not ↦ named.1 s (sym (elsewhere s not) ∙ top)
      ]

  pub further-name : (name : ℕ → ℕ) → IsNamed ups name → name at ≡ name next
  further-name name named = sym (ap name next-is ∙ named.0 up ∙ ap name up-is ∙ named.0 at)

-- ---- a sort points to an earlier one

module _ (mid more : List ℕ) (low high : ℕ) (same : (s : ℕ) → up_of more s ≡ up_of mid s) (within : high < length more) where
  pub link-here : up_of (slice_set more high low) high ≡ low
  link-here = get_or-set_same more high low high within

  pub link-other : (s : ℕ) → (s ≡ high → ⊥) → up_of (slice_set more high low) s ≡ up_of mid s
  link-other s not = get_or-set_other more high s low s not ∙ same s

  pub link-down : low < high → GoDown mid → GoDown (slice_set more high low)
  link-down lower down s = elim (cases_eq s high) [
    | inl is ↦ subst (λ i. up_of (slice_set more high low) i ≤ i) (sym is) (let e = link-here in omega (arith, e, lower))
    | inr not ↦ let e = link-other s not in let le = down s in omega (arith, e, le)
  ]

module _ (mid new : List ℕ) (low high : ℕ) (lower : low < high) (put : up_of new high ≡ low) (others : (s : ℕ) → (s ≡ high → ⊥) → up_of new s ≡ up_of mid s)
    (name : ℕ → ℕ) (named : IsNamed mid name) (name-low : name low ≡ low) (name-high : name high ≡ high) where
  abbrev renamed : ℕ → ℕ
  renamed n = cond (eqb n high) low n

  renamed-high : renamed high ≡ low
  renamed-high = ap (λ b. cond b low high) (eq-eqb high high refl)

  renamed-other : (n : ℕ) → (n ≡ high → ⊥) → renamed n ≡ n
  renamed-other n not = go (eqb n high) refl
    where
      go : (b : Bool) → eqb n high ≡ b → renamed n ≡ n
      go true is = absurd (not (eqb-true n high is))
      go false is = ap (λ b. cond b low n) is

  low-stays : renamed (name low) ≡ low
  low-stays = ap renamed name-low ∙ renamed-other low (λ e. absurd (omega (arith, e, lower)))

  high-goes : renamed (name high) ≡ low
  high-goes = ap renamed name-high ∙ renamed-high

  pub linked : (name' : ℕ → ℕ) × IsNamed new name' × ((s t : ℕ) → name s ≡ name t → name' s ≡ name' t) × (name' low ≡ name' high)
  linked = (λ s. renamed (name s), (steps, tops), λ s t e. ap renamed e, low-stays ∙ sym high-goes)
    where
      steps : (s : ℕ) → renamed (name (up_of new s)) ≡ renamed (name s)
      steps s = elim (cases_eq s high) [
        | inl is ↦ subst (λ i. renamed (name (up_of new i)) ≡ renamed (name i)) (sym is) (ap (λ i. renamed (name i)) put ∙ low-stays ∙ sym high-goes)
        | inr not ↦ ap renamed (ap name (others s not) ∙ named.0 s)
      ]

      tops : (s : ℕ) → up_of new s ≡ s → renamed (name s) ≡ s
      tops s top = elim (cases_eq s high) [
        | inl is ↦ let e : up_of new high ≡ high = subst (λ i. up_of new i ≡ i) is top in absurd (omega (arith, e, put, lower))
        | inr not ↦ ap renamed (named.1 s (sym (others s not) ∙ top)) ∙ renamed-other s not
      ]

-- ---- the groups of two sorts

-- what a way to the first sort of a group leaves
abbrev pub IsTopOf : List ℕ → List ℕ → ℕ → ℕ → Type 0
IsTopOf ups mid s top = (name : ℕ → ℕ) → IsNamed ups name → IsNamed mid name × (name s ≡ top) × (name top ≡ top)

module _ (ups one-up mid : List ℕ) (one other a b : ℕ) (first : IsTopOf ups one-up one a) (second : IsTopOf one-up mid other b) where
  pub tops-kept : (name : ℕ → ℕ) → IsNamed ups name → IsNamed mid name
  tops-kept name named = (second name (first name named).0).0

  pub tops-equal : (name : ℕ → ℕ) → IsNamed ups name → name one ≡ name other → a ≡ b
  tops-equal name named same = sym (first name named).1 ∙ same ∙ (second name (first name named).0).1

  pub tops-same : a ≡ b → AreJoined ups mid one other
  tops-same is name named = (name, tops-kept name named, λ s t e. e, (first name named).1 ∙ is ∙ sym (second name (first name named).0).1)

  module _ (new : List ℕ) where
    pub tops-joined : a < b → up_of new b ≡ a → ((s : ℕ) → (s ≡ b → ⊥) → up_of new s ≡ up_of mid s) → AreJoined ups new one other
    tops-joined lower put others name named =
        let at-one = first name named in
        let at-other = second name at-one.0 in
        let (name', named', same, both) = linked mid new a b lower put others name at-other.0 at-one.2 at-other.2 in
        (name', named', same, same one a (at-one.1 ∙ sym at-one.2) ∙ both ∙ same b other (at-other.2 ∙ sym at-other.1))

    pub tops-joined_back : b < a → up_of new a ≡ b → ((s : ℕ) → (s ≡ a → ⊥) → up_of new s ≡ up_of mid s) → AreJoined ups new one other
    tops-joined_back lower put others name named =
        let at-one = first name named in
        let at-other = second name at-one.0 in
        let (name', named', same, both) = linked mid new b a lower put others name at-other.0 at-other.2 at-one.2 in
        (name', named', same, same one a (at-one.1 ∙ sym at-one.2) ∙ sym both ∙ same b other (at-other.2 ∙ sym at-other.1))
