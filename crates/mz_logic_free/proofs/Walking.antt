-- What a walk over an expression has to cover.
use Rattle.std.proofs.Common.{◌≡◌, ◌∙◌, ◌<◌, ◌+◌, ◌++◌, ◌⊎◌, ◌↔◌, ℕ, suc, List, [], ◌∷◌, length, drop, get_or, slice_get, Bool, true, false, Some, Contains, All, IsTrue, ap, sym, refl, subst, inl, inr, arith, drop-cons}
use Rattle.std.specs.Prelude.{◌||◌, if◌then◌else◌}
use Rattle.std.specs.List.{list_any}
use Rattle.std.proofs.lemmas.List.Elements.{All-contains, All-contains_itself, Contains-append_left, Contains-append_right, Contains-append_cases}
use Rattle.mz_base.proofs.Offered.{contains_tail, contains_head, contains_cases, contains-decided}
use Rattle.mz_logic_theory.specs.Tree.{Tree, Trees, var, app, more, operand}
use Rattle.mz_logic_theory.specs.Signature.{Signature}
use Rattle.mz_logic_theory.specs.Variables.{InFV, InSomeFV, IsBoundAt, IsFreeOperand, IsOperandAt}
use Rattle.mz_logic_theory.specs.declared.binder.Binder.{Binder}
use Rattle.mz_logic_theory.proofs.Offered.{one_at}

-- x is what one of the places leads to
abbrev pub Reaches : (ℕ → ℕ → Type 0) → List ℕ → ℕ → Type 0
Reaches P xs x = (j : ℕ) × Contains xs j × P j x

reaches-cases : (P : ℕ → ℕ → Type 0) (p : ℕ) (xs : List ℕ) (x : ℕ) → Reaches P (p ∷ xs) x → P p x ⊎ Reaches P xs x
reaches-cases P p xs x (j, has, at) = elim (contains_cases p j xs has) [
  | inl is ↦ inl (subst (λ k. P k x) (sym is) at)
  | inr rest ↦ inr (j, rest, at)
]

pub left-at : {X : Type 0} → (xs : List X) (i : ℕ) (d : X) → i < length xs → drop i xs ≡ get_or xs i d ∷ drop (i + 1) xs
left-at xs i d within = let on : suc i ≡ i + 1 = omega arith in drop-cons xs i d within ∙ ap (λ n. get_or xs i d ∷ drop n xs) on

-- what one more place leads to is there too
module _ (P : ℕ → ℕ → Type 0) (Old New W : ℕ → Type 0) (xs : List ℕ) (i d : ℕ) (within : i < length xs) (so_far : (x : ℕ) → (Old x ⊎ Reaches P (drop i xs) x) ↔ W x) where
  pub reaches-step : ((x : ℕ) → New x ↔ (Old x ⊎ P (get_or xs i d) x)) → (x : ℕ) → (New x ⊎ Reaches P (drop (i + 1) xs) x) ↔ W x
  reaches-step grows x = (to, from)
    where
      p : ℕ
      p = get_or xs i d

      at : drop i xs ≡ p ∷ drop (i + 1) xs
      at = left-at xs i d within

      front : P p x → Reaches P (drop i xs) x
      front here = subst (λ ys. Reaches P ys x) (sym at) (p, contains_head p (drop (i + 1) xs), here)

      back : Reaches P (drop (i + 1) xs) x → Reaches P (drop i xs) x
      back (j, has, here) = subst (λ ys. Reaches P ys x) (sym at) (j, contains_tail p j (drop (i + 1) xs) has, here)

      to : New x ⊎ Reaches P (drop (i + 1) xs) x → W x
      to (inl new) = elim ((grows x).0 new) [ inl old ↦ (so_far x).0 (inl old) | inr here ↦ (so_far x).0 (inr (front here)) ]
      to (inr rest) = (so_far x).0 (inr (back rest))

      from : W x → New x ⊎ Reaches P (drop (i + 1) xs) x
      from w = elim ((so_far x).1 w) [
        | inl old ↦ inl ((grows x).1 (inl old))
        | inr reaches ↦ elim (reaches-cases P p (drop (i + 1) xs) x (subst (λ ys. Reaches P ys x) at reaches)) [ inl here ↦ inl ((grows x).1 (inr here)) | inr rest ↦ inr rest ]
      ]

pub reaches-end : (P : ℕ → ℕ → Type 0) (Old W : ℕ → Type 0) (xs : List ℕ) → xs ≡ [] → ((x : ℕ) → (Old x ⊎ Reaches P xs x) ↔ W x) → (x : ℕ) → Old x ↔ W x
reaches-end P Old W xs empty so_far x = ((λ old. (so_far x).0 (inl old)), (λ w. elim ((so_far x).1 w) [ inl old ↦ old | inr reaches ↦ absurd (nothing (subst (λ ys. Reaches P ys x) empty reaches)) ]))
  where
    nothing : Reaches P [] x → ⊥
    nothing (j, (k, below, _), _) = absurd (let e : k < 0 = below in omega (arith, e))

-- ---- a set of numbers

pub any-to : (x : ℕ) (p : ℕ → Bool) → ((k : ℕ) → p k ≡ true → x ≡ k) → (ks : List ℕ) → list_any p ks ≡ true → Contains ks x
any-to x p is [] e = absurd cc
any-to x p is (k ∷ ks) e = go (p k) refl e (any-to x p is ks)
  where
    go : (b : Bool) → p k ≡ b → (b || list_any p ks) ≡ true → (list_any p ks ≡ true → Contains ks x) → Contains (k ∷ ks) x
    go true at e rest = subst (Contains (k ∷ ks)) (sym (is k at)) (contains_head k ks)
    go false at e rest = contains_tail k x ks (rest e)

pub any-from : (x : ℕ) (p : ℕ → Bool) → p x ≡ true → (ks : List ℕ) → Contains ks x → list_any p ks ≡ true
any-from x p is [] (k, below, _) = absurd (omega (arith, below))
any-from x p is (k ∷ ks) has = elim (contains_cases k x ks has) [
  | inl same ↦ ap (λ b. b || list_any p ks) (subst (λ z. p z ≡ true) (sym same) is)
  | inr rest ↦ go (p k) (any-from x p is ks rest)
]
  where
    go : (b : Bool) → list_any p ks ≡ true → (b || list_any p ks) ≡ true
    go true e = refl
    go false e = e

pub insert-has : (x : ℕ) (p : ℕ → Bool) → ((k : ℕ) → p k ≡ true → x ≡ k) → (ks new : List ℕ) → new ≡ (if list_any p ks then ks else ks ++ x ∷ []) → (y : ℕ) → Contains new y ↔ (Contains ks y ⊎ (y ≡ x))
insert-has x p is ks new made y = go (list_any p ks) refl made
  where
    last : Contains (x ∷ []) y → y ≡ x
    last has = elim (contains_cases x y [] has) [ inl same ↦ sym same | inr (k, below, _) ↦ absurd (omega (arith, below)) ]

    go : (b : Bool) → list_any p ks ≡ b → new ≡ (if b then ks else ks ++ x ∷ []) → Contains new y ↔ (Contains ks y ⊎ (y ≡ x))
    go true any made = (
      λ h. inl (subst (λ zs. Contains zs y) made h),
      λ h. subst (λ zs. Contains zs y) (sym made) (elim h [ inl old ↦ old | inr same ↦ subst (Contains ks) (sym same) (any-to x p is ks any) ]),
    )
    go false any made = (
      λ h. elim (Contains-append_cases ks (x ∷ []) y (subst (λ zs. Contains zs y) made h)) [ inl old ↦ inl old | inr new ↦ inr (last new) ],
      λ h. subst (λ zs. Contains zs y) (sym made) (elim h [
        | inl old ↦ Contains-append_left ks (x ∷ []) y old
        | inr same ↦ Contains-append_right ks (x ∷ []) y (subst (Contains (x ∷ [])) (sym same) (contains_head x []))
      ]),
    )

pub insert-last : (x : ℕ) (p : ℕ → Bool) → ((k : ℕ) → p k ≡ true → x ≡ k) → (ks new : List ℕ) → new ≡ (if list_any p ks then ks else ks ++ x ∷ []) → (Contains ks x → ⊥) → new ≡ ks ++ x ∷ []
insert-last x p is ks new made out = go (list_any p ks) refl made
  where
    go : (b : Bool) → list_any p ks ≡ b → new ≡ (if b then ks else ks ++ x ∷ []) → new ≡ ks ++ x ∷ []
    go true any made = absurd (out (any-to x p is ks any))
    go false any made = made

-- ---- an application

module _ (params : List Binder) (es : Trees) (covered : List ℕ) where
  -- the operand of a bound parameter at the place is covered
  abbrev pub IsCoveredAt : ℕ → Type 0
  IsCoveredAt j = (x : ℕ) → IsBoundAt params j → operand es j ≡ var x → Contains covered x

module _ (sigs : List Signature) (ctx : List Binder) (t : ℕ) (es : Trees) (d : Signature) (at : slice_get sigs t ≡ Some d) (covered : List ℕ) where
  pub app-out : (All (IsCoveredAt d.params es covered) d.result.deps → ⊥) → ((x : ℕ) → InFV sigs ctx x (app t es) → Contains covered x) → ⊥
  app-out out all = out (λ k z below x bound is. all x (d, at, inr (get_or d.result.deps k z, All-contains_itself d.result.deps k z below, bound, is)))

  pub app-in : All (IsCoveredAt d.params es covered) d.result.deps → (b : Bool) → IsTrue b ↔ ((x : ℕ) → InSomeFV sigs ctx x d.params es d.params es → Contains covered x)
      → IsTrue b ↔ ((x : ℕ) → InFV sigs ctx x (app t es) → Contains covered x)
  app-in here b (to, from) = (λ is x free. go is x free, λ all. from (λ x free. all x (d, at, inl free)))
    where
      go : IsTrue b → (x : ℕ) → InFV sigs ctx x (app t es) → Contains covered x
      go is x (c, at', inl free) = to is x (subst (λ (s : Signature). InSomeFV sigs ctx x s.params es s.params es) (one_at at' at) free)
      go is x (c, at', inr (j, has, bound, op)) = elim (one-more j has bound op) [ inl h ↦ h | inr h ↦ h ]
        where
          one-more : (j : ℕ) → Contains c.result.deps j → IsBoundAt c.params j → operand es j ≡ var x → Contains covered x ⊎ Contains covered x
          one-more j has bound op =
              let same = one_at at' at in
              inl (All-contains (IsCoveredAt d.params es covered) d.result.deps j here (subst (λ (s : Signature). Contains s.result.deps j) same has) x (subst (λ (s : Signature). IsBoundAt s.params j) same bound) op)

-- ---- an operand

pub operand-in : (sigs : List Signature) (ctx params : List Binder) (es : Trees) (p : Binder) (e : Tree) (old new : List ℕ) → ((x : ℕ) → Contains new x ↔ (Contains old x ⊎ IsOperandAt params es p.deps x)) → p.bound ≡ false
    → (b : Bool) → IsTrue b ↔ ((x : ℕ) → InFV sigs ctx x e → Contains new x) → IsTrue b ↔ ((x : ℕ) → IsFreeOperand sigs ctx x params es p e → Contains old x)
operand-in sigs ctx params es p e old new has regular b (to, from) = (
  λ is x (_, free, off). elim ((has x).0 (to is x free)) [ inl h ↦ h | inr op ↦ absurd (off op) ],
  λ all. from (λ x free. elim (contains-decided new x) [
    | inl h ↦ h
    | inr out ↦ absurd (out ((has x).1 (inl (all x (regular, free, λ op. out ((has x).1 (inr op)))))))
  ]),
)

-- what is covered is covered by one more place that leads to one variable, or to none
module _ (P : ℕ → ℕ → Type 0) (Old New : ℕ → Type 0) (j : ℕ) where
  pub one-place : (x : ℕ) → P j x → ((y : ℕ) → P j y → y ≡ x) → ((y : ℕ) → New y ↔ (Old y ⊎ (y ≡ x))) → (y : ℕ) → New y ↔ (Old y ⊎ P j y)
  one-place x here only grows y = (
    λ new. elim ((grows y).0 new) [ inl old ↦ inl old | inr same ↦ inr (subst (P j) (sym same) here) ],
    λ h. (grows y).1 (elim h [ inl old ↦ inl old | inr at ↦ inr (only y at) ]),
  )

  pub no-place : ((y : ℕ) → P j y → ⊥) → ((y : ℕ) → New y ↔ Old y) → (y : ℕ) → New y ↔ (Old y ⊎ P j y)
  no-place out same y = (λ new. inl ((same y).0 new), λ h. (same y).1 (elim h [ inl old ↦ old | inr at ↦ absurd (out y at) ]))

-- ---- operands

module _ (sigs : List Signature) (ctx params : List Binder) (all : Trees) (old : List ℕ) where
  -- the free variables of operands are covered
  abbrev pub AreCovered : List Binder → Trees → Type 0
  AreCovered ps es = (x : ℕ) → InSomeFV sigs ctx x params all ps es → Contains old x

  module _ (ps qs : List Binder) (es fs : Trees) (p : Binder) (e : Tree) (ps-is : ps ≡ p ∷ qs) (es-is : es ≡ more e fs) (W : Type 0) (left : AreCovered ps es ↔ W) where
    cut : AreCovered (p ∷ qs) (more e fs) ↔ W
    cut = subst (λ xs. AreCovered xs (more e fs) ↔ W) ps-is (subst (λ ys. AreCovered ps ys ↔ W) es-is left)

    pub operands-step : ((x : ℕ) → IsFreeOperand sigs ctx x params all p e → Contains old x) → AreCovered qs fs ↔ W
    operands-step here = (
      λ rest. cut.0 (λ x free. elim free [ inl h ↦ here x h | inr h ↦ rest x h ]),
      λ w x free. cut.1 w x (inr free),
    )

    pub operands-out : (((x : ℕ) → IsFreeOperand sigs ctx x params all p e → Contains old x) → ⊥) → W → ⊥
    operands-out out w = out (λ x free. cut.1 w x (inl free))
