-- Marks of expressions, and where they stand.
use Rattle.std.proofs.Common.{ℕ, zero, suc, ◌≡◌, ◌+◌, List, [], ◌∷◌, ◌++◌, length, slice_get, Contains, Option, Some, None, refl, ap, sym, ◌∙◌, subst, inl, inr, arith}
use Rattle.std.proofs.lemmas.List.{length-append}
use Rattle.std.proofs.lemmas.Option.{none-some}
use Rattle.std.proofs.lemmas.Bool.{cases_eq}
use Rattle.mz_logic_theory.specs.Tree.{Tree}
use Rattle.mz_logic_theory.specs.declared.binder.Binder.{Binder}
use Rattle.mz_logic_theory.proofs.Offered.{extends_append, split_at, one_at}
use Rattle.mz_store.specs.Bits.{Tells, bound_vars}
use Rattle.mz_store.specs.Sharing.{Sharing, Holds, IsIn, tree_of}
use Rattle.mz_emit_theory.specs.SymbolicState.{from_to}
use Rattle.mz_emit_theory.specs.StreamWriting.{Writing, place_in}
use Rattle.mz_emit_theory.proofs.Offered.{place-found, place-missing}
use Rattle.mz_emit_bodies.specs.Places.{place_of}
use Rattle.mz_emit.specs.Going.{IsMarked, IsStatement}

slice_last : (xs : List Tree) (y : Tree) (n : ℕ) → n ≡ length xs → slice_get (xs ++ y ∷ []) n ≡ Some y
slice_last [] y zero is = refl
slice_last (x ∷ xs) y (suc n) is = slice_last xs y n (omega (arith, is))
slice_last _ y _ is = absurd (omega (arith, is))

module _ (params dummies : List Binder) (s : Sharing) (st : IsStatement params dummies s) (places : List (Option ℕ)) (len met : ℕ) (w : Writing) (m : IsMarked params s places len met w) where
  -- an expression's place by its number is the first place of its tree
  pub same_place : (i : ℕ) → IsIn s i → place_of places i ≡ place_in (tree_of s i) w.trees
  same_place i inside = go (place_of places i) refl (place_in (tree_of s i) w.trees) refl
    where
      found_here : (q : ℕ) → place_in (tree_of s i) w.trees ≡ Some q → place_of places i ≡ Some q
      found_here q is =
          let (j, holds, at) = m.found q (tree_of s i) (place-found (tree_of s i) w.trees q is) in
          ap (place_of places) (st.once i j inside holds.0 (sym holds.1)) ∙ at

      go : (o : Option ℕ) → place_of places i ≡ o → (r : Option ℕ) → place_in (tree_of s i) w.trees ≡ r → o ≡ r
      go o is (Some q) at = sym is ∙ found_here q at
      go None is None at = refl
      go (Some p) is None at = absurd (place-missing (tree_of s i) w.trees at p (m.placed i p is).1)

  -- one mark more
  pub mark_put : (i : ℕ) → IsIn s i → place_of places i ≡ None → (places' : List (Option ℕ)) (len' : ℕ) → place_of places' i ≡ Some len
      → ((j : ℕ) → (j ≡ i → ⊥) → place_of places' j ≡ place_of places j) → len' ≡ len + 1
      → (ds : List ℕ) (met' : ℕ) → Tells (bound_vars s.context) met' (Contains (from_to 0 params ++ ds))
      → IsMarked params s places' len' met' (record { trees = w.trees ++ tree_of s i ∷ []; dummies = ds })
  mark_put i inside fresh places' len' at others more-len ds met' told = record {
    long = (let l = length-append w.trees (tree_of s i ∷ []) in let k = m.long in omega (arith, l, k, more-len));
    placed = λ j p j-at. elim (cases_eq j i) [
      | inl is ↦ (
        subst (IsIn s) (sym is) inside,
        (let p-is : len ≡ p = one_at at (ap (place_of places') (sym is) ∙ j-at) in
            slice_last w.trees (tree_of s i) p (sym p-is ∙ sym m.long) ∙ ap (λ (k : ℕ). Some (tree_of s k)) (sym is)),
      )
      | inr other ↦ (let k = m.placed j p (sym (others j other) ∙ j-at) in (k.0, extends_append w.trees (tree_of s i ∷ []) p _ k.1))
    ];
    found = λ p e p-at. elim (split_at w.trees (tree_of s i ∷ []) p e p-at) [
      | inl before ↦ (let (j, holds, j-at) = m.found p e before in (j, holds, others j (λ is. absurd (none-some _ (sym fresh ∙ ap (place_of places) (sym is) ∙ j-at))) ∙ j-at))
      | inr later ↦ last p e later.0 later.1 later.2
    ];
    parameters = λ x lt. (let (p, p-at) = m.parameters x lt in (p, extends_append w.trees (tree_of s i ∷ []) p _ p-at));
    told = told;
  }
    where
      last : (p : ℕ) (e : Tree) (k : ℕ) → p ≡ length w.trees + k → slice_get (tree_of s i ∷ []) k ≡ Some e → (j : ℕ) × Holds s j e × (place_of places' j ≡ Some p)
      last p e zero is e-at = (i, (inside, one_at refl e-at), at ∙ ap (λ (n : ℕ). Some n) (let l = m.long in omega (arith, l, is)))
      last p e (suc k) is e-at = absurd (none-some _ e-at)
