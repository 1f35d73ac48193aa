-- Whether a table stays clear with one more notation is decided.
use Rattle.std.proofs.Common.{◌≡◌, ◌<◌, ◌++◌, ℕ, List, [], ◌∷◌, Bool, true, false, sym, refl, subst, inl, inr, arith, Contains}
use Rattle.std.specs.Prelude.{⊤, if◌then◌else◌}
use Rattle.mz_base.proofs.Offered.{not-decided, three-decided, Decided, at_most-decided, implied-decided, bytes-decided}
use Rattle.mz_math_theory.specs.Notation.{max_level, Table, begins_with_slot, with_leading, with_infix, with_notation}
use Rattle.mz_math_theory.specs.declared.notation.Element.{Element}
use Rattle.mz_math_theory.specs.declared.notation.Element.TheVariants.{Fixed as fixed, Slot as slot}
use Rattle.mz_math_theory.specs.declared.notation.Notation.{Notation}
use Rattle.mz_math_theory.specs.Clear.{LedBy, JoinedBy, IsClear}
use Rattle.mz_math_theory.specs.NotationAnswers.{IsClearTable, KeepsLevels, KeepsOwnLevels, GroupsWith}
use Rattle.mz_math_theory.proofs.Clearing.{with-leading-clear, with-infix-clear, leading-kept, leading-other, infix-kept, infix-other, infix-groups, infix-level}
use Rattle.mz_math_theory.proofs.Deciding.{found, equal-decided, true-decided, led-decided, joined-decided}

-- a fact that is decided of each element is decided of all
pub all-decided : {A : Type 0} → (P : A → Type 0) → ((x : A) → Decided (P x)) → (xs : List A) → Decided ((x : A) → Contains xs x → P x)
all-decided P d xs = elim (found (λ x. P x → ⊥) (λ x. not-decided (d x)) xs) [
  | inl h ↦ inr (λ all. h.2 (all h.0 h.1))
  | inr none ↦ inl (λ x in_x. elim (d x) [ inl p ↦ p | inr out ↦ absurd (none x in_x out) ])
]

-- ---- precedences

-- if both are one constant, they have one precedence
abbrev Agree : Element → Element → Type 0
Agree (fixed w q) (fixed v p) = w ≡ v → p ≡ q
Agree (fixed w q) (slot i) = ⊤
Agree (slot i) e = ⊤

agree-decided : (x y : Element) → Decided (Agree x y)
agree-decided (fixed w q) (fixed v p) = implied-decided (bytes-decided w v) (equal-decided p q)
agree-decided (fixed w q) (slot i) = inl tt
agree-decided (slot i) e = inl tt

abbrev Together : List Element → List Element → Type 0
Together es fs = (w : List ℕ) (q p : ℕ) → Contains es (fixed w q) → Contains fs (fixed w p) → p ≡ q

module _ (es fs : List Element) where
  agrees : Together es fs → (x y : Element) → Contains es x → Contains fs y → Agree x y
  agrees one (fixed w q) (fixed v p) in_x in_y = λ same. one w q p in_x (subst (λ u. Contains fs (fixed u p)) (sym same) in_y)
  agrees one (fixed w q) (slot i) in_x in_y = tt
  agrees one (slot i) e in_x in_y = tt

  together-decided : Decided (Together es fs)
  together-decided = elim (all-decided (λ x. (y : Element) → Contains fs y → Agree x y) (λ x. all-decided (Agree x) (agree-decided x) fs) es) [
    | inl all ↦ inl (λ w q p in_q in_p. all (fixed w q) in_q (fixed w p) in_p refl)
    | inr out ↦ inr (λ one. out (λ x in_x y in_y. agrees one x y in_x in_y))
  ]

levels-decided : (es : List Element) (ks : List Notation) → Decided (KeepsLevels es ks)
levels-decided es ks = elim (all-decided (λ l. Together es l.elements) (λ l. together-decided es l.elements) ks) [
  | inl all ↦ inl (λ w q p at has. all has.0 has.1 w q p at has.2)
  | inr out ↦ inr (λ keeps. out (λ l in_l w q p at other. keeps w q p at (l, in_l, other)))
]

kept-decided : (ls is : List Notation) (es : List Element) → Decided (KeepsOwnLevels es × KeepsLevels es ls × KeepsLevels es is)
kept-decided ls is es = three-decided (together-decided es es) (levels-decided es ls) (levels-decided es is)

groups-decided : (ks : List Notation) (k : Notation) → Decided (GroupsWith ks k)
groups-decided ks k = all-decided (λ l. l.level ≡ k.level → l.is_right ≡ k.is_right) (λ l. implied-decided (equal-decided l.level k.level) (true-decided l.is_right k.is_right)) ks

not-max-decided : (q : ℕ) → Decided (q < max_level)
not-max-decided q = elim (at_most-decided max_level q) [
  | inl le ↦ inr (λ less. absurd (omega (arith, le, less)))
  | inr out ↦ inl (omega (arith, out))
]

-- ---- one notation a constant

module _ (By : Notation → List ℕ → Type 0) (decided : (w : List ℕ) (k : Notation) → Decided (By k w)) (within : (k : Notation) (w : List ℕ) → By k w → Contains k.elements (fixed w k.level)) where
  abbrev NotBoth : Notation → Notation → Element → Type 0
  NotBoth k l (fixed w q) = By k w → By l w → ⊥
  NotBoth k l (slot i) = ⊤

  not-both-decided : (k l : Notation) (e : Element) → Decided (NotBoth k l e)
  not-both-decided k l (fixed w q) = implied-decided (decided w k) (not-decided (decided w l))
  not-both-decided k l (slot i) = inl tt

  not-both : (k l : Notation) → ((w : List ℕ) → By k w → By l w → ⊥) → (e : Element) → NotBoth k l e
  not-both k l none (fixed w q) = none w
  not-both k l none (slot i) = tt

  no-other-decided : (ks : List Notation) (k : Notation) → Decided ((l : Notation) (w : List ℕ) → Contains ks l → By k w → By l w → ⊥)
  no-other-decided ks k = elim (all-decided (λ l. (e : Element) → Contains k.elements e → NotBoth k l e) (λ l. all-decided (NotBoth k l) (not-both-decided k l) k.elements) ks) [
    | inl all ↦ inl (λ l w in_l by_k by_l. all l in_l (fixed w k.level) (within k w by_k) by_k by_l)
    | inr out ↦ inr (λ none. out (λ l in_l e in_e. not-both k l (λ w. none l w in_l) e))
  ]

led-within : (k : Notation) (w : List ℕ) → LedBy k w → Contains k.elements (fixed w k.level)
led-within k w (es, is) = subst (λ xs. Contains xs (fixed w k.level)) (sym is) (0, omega arith, refl)

joined-within : (k : Notation) (w : List ℕ) → JoinedBy k w → Contains k.elements (fixed w k.level)
joined-within k w (i, es, is) = subst (λ xs. Contains xs (fixed w k.level)) (sym is) (1, omega arith, refl)

-- ---- tables

module _ (ls is : List Notation) (clear : IsClear ls is) (k : Notation) where
  leading-decided : Decided (IsClear (ls ++ k ∷ []) is)
  leading-decided = elim (kept-decided ls is k.elements) [
    | inr out ↦ inr (λ next. out (leading-kept ls is k next))
    | inl kept ↦ elim (no-other-decided LedBy led-decided led-within ls k) [
      | inl other ↦ inl (with-leading-clear ls is k clear kept.0 kept.1 kept.2 other)
      | inr out ↦ inr (λ next. out (leading-other ls is k next))
    ]
  ]

  infix-decided : Decided (IsClear ls (is ++ k ∷ []))
  infix-decided = elim (kept-decided ls is k.elements) [
    | inr out ↦ inr (λ next. out (infix-kept ls is k next))
    | inl kept ↦ elim (three-decided (not-max-decided k.level) (groups-decided is k) (no-other-decided JoinedBy joined-decided joined-within is k)) [
      | inl all ↦ inl (with-infix-clear ls is k clear kept.0 kept.1 kept.2 all.0 all.1 all.2)
      | inr out ↦ inr (λ next. out (infix-level ls is k next, infix-groups ls is k next, infix-other ls is k next))
    ]
  ]

pub clear-decided : (t : Table) → IsClearTable t → (k : Notation) → Decided (IsClearTable (with_notation t k))
clear-decided t clear k = go (begins_with_slot k.elements)
  where
    go : (b : Bool) → Decided (IsClearTable (if b then with_infix t k else with_leading t k))
    go true = infix-decided t.leading t.infixes clear k
    go false = leading-decided t.leading t.infixes clear k
