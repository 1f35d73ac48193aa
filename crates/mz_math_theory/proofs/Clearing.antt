-- One more notation, and clear tables.
use Rattle.std.proofs.Common.{◌≡◌, ◌<◌, ◌⊎◌, ◌++◌, ◌∙◌, ℕ, List, [], ◌∷◌, length, Some, slice_get, ap, sym, subst, inl, inr, arith, Contains}
use Rattle.std.proofs.lemmas.Option.{slice_get_within}
use Rattle.std.proofs.lemmas.List.Elements.{Contains-push, Contains-push_cases, Contains-append_left}
use Rattle.mz_base.proofs.Offered.{slice_get-last, slice_get-append, place-of, slice_get-push_cases, contains_at}
use Rattle.mz_math_theory.specs.Notation.{max_level, fixed, Notation}
use Rattle.mz_math_theory.specs.Clear.{HasConstant, LedBy, JoinedBy, IsOne, IsClear}
use Rattle.mz_math_theory.specs.NotationAnswers.{KeepsLevels, KeepsOwnLevels, GroupsWith, NoOtherLed, NoOtherJoined}

-- ---- one notation a constant

pub one-more : (By : Notation → List ℕ → Type 0) (ks : List Notation) (k : Notation) → IsOne By ks → ((l : Notation) (w : List ℕ) → Contains ks l → By k w → By l w → ⊥) → IsOne By (ks ++ k ∷ [])
one-more By ks k one other i j a b w at_i at_j by_a by_b = go (slice_get-push_cases ks k i a at_i) (slice_get-push_cases ks k j b at_j)
  where
    go : (slice_get ks i ≡ Some a) ⊎ ((i ≡ length ks) × (k ≡ a)) → (slice_get ks j ≡ Some b) ⊎ ((j ≡ length ks) × (k ≡ b)) → i ≡ j
    go (inl x) (inl y) = one i j a b w x y by_a by_b
    go (inl x) (inr y) = absurd (other a w (contains_at ks i a x) (subst (λ n. By n w) (sym y.1) by_b) by_a)
    go (inr x) (inl y) = absurd (other b w (contains_at ks j b y) (subst (λ n. By n w) (sym x.1) by_a) by_b)
    go (inr x) (inr y) = x.0 ∙ sym y.0

pub one-first : (By : Notation → List ℕ → Type 0) (ks : List Notation) (k : Notation) → IsOne By (ks ++ k ∷ []) → (l : Notation) (w : List ℕ) → Contains ks l → By k w → By l w → ⊥
one-first By ks k one l w in_l by_k by_l =
    let at = place-of ks l in_l in
    let same : at.0 ≡ length ks = one at.0 (length ks) l k w (slice_get-append ks (k ∷ []) at.0 l at.1) (slice_get-last ks k) by_l by_k in
    let below : at.0 < length ks = slice_get_within ks at.0 l at.1 in
    absurd (omega arith)

-- ---- precedences

pub constant-first : (ks ls : List Notation) (w : List ℕ) (q : ℕ) → HasConstant ks w q → HasConstant (ks ++ ls) w q
constant-first ks ls w q (k, in_k, at) = (k, Contains-append_left ks ls k in_k, at)

pub constant-last : (ks : List Notation) (k : Notation) (w : List ℕ) (q : ℕ) → Contains k.elements (fixed w q) → HasConstant (ks ++ k ∷ []) w q
constant-last ks k w q at = (k, Contains-push ks k, at)

pub constant-either : (ks : List Notation) (k : Notation) (w : List ℕ) (q : ℕ) → HasConstant (ks ++ k ∷ []) w q → HasConstant ks w q ⊎ Contains k.elements (fixed w q)
constant-either ks k w q (l, in_l, at) = elim (Contains-push_cases ks k l in_l) [ inl there ↦ inl (l, there, at) | inr same ↦ inr (subst (λ n. Contains n.elements (fixed w q)) (sym same) at) ]

module _ (ls is : List Notation) (k : Notation) (clear : IsClear ls is) (own : KeepsOwnLevels k.elements) (keeps_l : KeepsLevels k.elements ls) (keeps_i : KeepsLevels k.elements is) where
  abbrev InTable : List ℕ → ℕ → Type 0
  InTable w q = (HasConstant ls w q ⊎ HasConstant is w q) ⊎ Contains k.elements (fixed w q)

  beside : (w : List ℕ) (q p : ℕ) → Contains k.elements (fixed w q) → HasConstant ls w p ⊎ HasConstant is w p → q ≡ p
  beside w q p at (inl has) = sym (keeps_l w q p at has)
  beside w q p at (inr has) = sym (keeps_i w q p at has)

  one-level : (w : List ℕ) (q p : ℕ) → InTable w q → InTable w p → q ≡ p
  one-level w q p (inl a) (inl b) = clear.levels w q p a b
  one-level w q p (inl a) (inr b) = sym (beside w p q b a)
  one-level w q p (inr a) (inl b) = beside w q p a b
  one-level w q p (inr a) (inr b) = sym (own w q p a b)

  in-leading : (w : List ℕ) (q : ℕ) → HasConstant (ls ++ k ∷ []) w q ⊎ HasConstant is w q → InTable w q
  in-leading w q (inl has) = elim (constant-either ls k w q has) [ inl there ↦ inl (inl there) | inr own ↦ inr own ]
  in-leading w q (inr has) = inl (inr has)

  in-infixes : (w : List ℕ) (q : ℕ) → HasConstant ls w q ⊎ HasConstant (is ++ k ∷ []) w q → InTable w q
  in-infixes w q (inl has) = inl (inl has)
  in-infixes w q (inr has) = elim (constant-either is k w q has) [ inl there ↦ inl (inr there) | inr own ↦ inr own ]

  pub with-leading-clear : NoOtherLed ls k → IsClear (ls ++ k ∷ []) is
  with-leading-clear other = record {
    groups = clear.groups;
    levels = λ w q p first second. one-level w q p (in-leading w q first) (in-leading w p second);
    led = one-more LedBy ls k clear.led other;
    joined = clear.joined;
    not_max = clear.not_max;
  }

  groups : GroupsWith is k → (a b : Notation) → Contains (is ++ k ∷ []) a → Contains (is ++ k ∷ []) b → a.level ≡ b.level → a.is_right ≡ b.is_right
  groups with_k a b in_a in_b e = go (Contains-push_cases is k a in_a) (Contains-push_cases is k b in_b)
    where
      go : Contains is a ⊎ (k ≡ a) → Contains is b ⊎ (k ≡ b) → a.is_right ≡ b.is_right
      go (inl x) (inl y) = clear.groups a b x y e
      go (inl x) (inr y) = with_k a x (e ∙ ap (λ n. n.level) (sym y)) ∙ ap (λ n. n.is_right) y
      go (inr x) (inl y) = sym (with_k b y (sym e ∙ ap (λ n. n.level) (sym x)) ∙ ap (λ n. n.is_right) x)
      go (inr x) (inr y) = ap (λ n. n.is_right) (sym x ∙ y)

  pub with-infix-clear : k.level < max_level → GroupsWith is k → NoOtherJoined is k → IsClear ls (is ++ k ∷ [])
  with-infix-clear less with_k other = record {
    groups = groups with_k;
    levels = λ w q p first second. one-level w q p (in-infixes w q first) (in-infixes w p second);
    led = clear.led;
    joined = one-more JoinedBy is k clear.joined other;
    not_max = λ l in_l. elim (Contains-push_cases is k l in_l) [ inl there ↦ clear.not_max l there | inr same ↦ subst (λ n. n.level < max_level) same less ];
  }

-- ---- back

module _ (ls is : List Notation) (k : Notation) where
  pub leading-kept : IsClear (ls ++ k ∷ []) is → KeepsOwnLevels k.elements × KeepsLevels k.elements ls × KeepsLevels k.elements is
  leading-kept clear = (
    λ w q p at other. clear.levels w p q (inl (constant-last ls k w p other)) (inl (constant-last ls k w q at)),
    λ w q p at has. clear.levels w p q (inl (constant-first ls (k ∷ []) w p has)) (inl (constant-last ls k w q at)),
    λ w q p at has. clear.levels w p q (inr has) (inl (constant-last ls k w q at)),
  )

  pub leading-other : IsClear (ls ++ k ∷ []) is → NoOtherLed ls k
  leading-other clear = one-first LedBy ls k clear.led

  pub infix-kept : IsClear ls (is ++ k ∷ []) → KeepsOwnLevels k.elements × KeepsLevels k.elements ls × KeepsLevels k.elements is
  infix-kept clear = (
    λ w q p at other. clear.levels w p q (inr (constant-last is k w p other)) (inr (constant-last is k w q at)),
    λ w q p at has. clear.levels w p q (inl has) (inr (constant-last is k w q at)),
    λ w q p at has. clear.levels w p q (inr (constant-first is (k ∷ []) w p has)) (inr (constant-last is k w q at)),
  )

  pub infix-other : IsClear ls (is ++ k ∷ []) → NoOtherJoined is k
  infix-other clear = one-first JoinedBy is k clear.joined

  pub infix-groups : IsClear ls (is ++ k ∷ []) → GroupsWith is k
  infix-groups clear l in_l e = clear.groups l k (Contains-append_left is (k ∷ []) l in_l) (Contains-push is k) e

  pub infix-level : IsClear ls (is ++ k ∷ []) → k.level < max_level
  infix-level clear = clear.not_max k (Contains-push is k)
