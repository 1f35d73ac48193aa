-- Lists of ids and the trees that they stand for.
use Rattle.std.proofs.Common.{◌≡◌, ℕ, zero, suc, true, false, List, [], ◌∷◌, ◌++◌, length, map, Option, Some, None, refl, sym, ap, subst, ◌∙◌, arith, append_assoc, length-append}
use Rattle.std.proofs.lemmas.Option.{slice_get-map}
use Rattle.std.proofs.Math.Dec.{eqb-suc-zero}
use Rattle.std.specs.Option.{option_map}
use Rattle.std.specs.Prelude.{reverse, slice_get, ◌==◌, option_to_list}
use Rattle.std.proofs.lemmas.List.{append-nil, reverse-append, map-append, reverse-reverse, length-map, length-reverse}
use Rattle.mz_logic_theory.specs.Tree.{Tree, listed}
use Rattle.mz_store.specs.Sharing.{Sharing, tree_of, IsIn, AreIn, KeepsIds, trees_of, operands_of}
use Rattle.mz_store.specs.declared.item.Id.{Id}
use Rattle.mz_store.specs.declared.item.Item.{Item as Kept}
use Rattle.mz_store.specs.declared.item.Item.TheVariants.{Proof}
use Rattle.mz_machine_theory.specs.UnifyMachine.{is_empty}
use Rattle.mz_unify.specs.Rows.{all_targets}
use Rattle.mz_unify.specs.Stored.{trees_at, stack_at, item_at, items_at, AreItemsIn}

true-false : true ≡ false → ⊥
true-false e = cc

module _ (s : Sharing) where
  -- ---- ids of the store

  pub are-in-both : (xs ys : List Id) → AreIn s xs → AreIn s ys → AreIn s (xs ++ ys)
  are-in-both [] ys p q = q
  are-in-both (x ∷ xs) ys p q = (p.0, are-in-both xs ys p.1 q)

  pub are-in-added : (xs ys : List Id) (x : Id) → AreIn s (xs ++ ys) → IsIn s x.0 → AreIn s (xs ++ (ys ++ x ∷ []))
  are-in-added xs ys x all one = subst (AreIn s) (append_assoc xs ys (x ∷ [])) (are-in-both (xs ++ ys) (x ∷ []) all (one, tt))

  pub are-in-left : (xs ys : List Id) → AreIn s (xs ++ ys) → AreIn s xs
  are-in-left [] ys p = tt
  are-in-left (x ∷ xs) ys p = (p.0, are-in-left xs ys p.1)

  pub are-in-right : (xs ys : List Id) → AreIn s (xs ++ ys) → AreIn s ys
  are-in-right [] ys p = p
  are-in-right (x ∷ xs) ys p = are-in-right xs ys p.1

  pub are-in-reverse : (xs : List Id) → AreIn s xs → AreIn s (reverse xs)
  are-in-reverse [] p = tt
  are-in-reverse (x ∷ xs) p = rw (reverse-append (x ∷ []) xs) (are-in-both (reverse xs) (x ∷ []) (are-in-reverse xs p.1) (p.0, tt))

  pub is-in-at : (xs : List Id) (k : ℕ) (x : Id) → AreIn s xs → slice_get xs k ≡ Some x → IsIn s x.0
  is-in-at [] k x p at = absurd cc
  is-in-at (y ∷ ys) zero x p at = let is : y ≡ x = cc in rw (← is) p.0
  is-in-at (y ∷ ys) (suc k) x p at = is-in-at ys k x p.1 at

  pub items-in-left : (xs ys : List Kept) → AreItemsIn s (xs ++ ys) → AreItemsIn s xs
  items-in-left [] ys p = tt
  items-in-left (x ∷ xs) ys p = (p.0, items-in-left xs ys p.1)

  pub items-in-right : (xs ys : List Kept) → AreItemsIn s (xs ++ ys) → AreItemsIn s ys
  items-in-right [] ys p = p
  items-in-right (x ∷ xs) ys p = items-in-right xs ys p.1

  pub items-in-both : (xs ys : List Kept) → AreItemsIn s xs → AreItemsIn s ys → AreItemsIn s (xs ++ ys)
  items-in-both [] ys p q = q
  items-in-both (x ∷ xs) ys p q = (p.0, items-in-both xs ys p.1 q)

  -- ---- their trees

  pub trees-append : (xs ys : List Id) → trees_at s (xs ++ ys) ≡ trees_at s xs ++ trees_at s ys
  trees-append xs ys = map-append (λ i. tree_of s i.0) xs ys

  -- of a list and what is added to it, with one more
  pub trees-added : (xs ys : List Id) (x : Id) → trees_at s (xs ++ (ys ++ x ∷ [])) ≡ trees_at s (xs ++ ys) ++ tree_of s x.0 ∷ []
  trees-added xs ys x = ap (trees_at s) (sym (append_assoc xs ys (x ∷ []))) ∙ trees-append (xs ++ ys) (x ∷ [])

  pub listed-trees : (xs : List Id) → listed (trees_of s xs) ≡ trees_at s xs
  listed-trees [] = refl
  listed-trees (x ∷ xs) = ap (λ (es : List Tree). tree_of s x.0 ∷ es) (listed-trees xs)

  pub stack-push : (xs : List Id) (x : Id) → stack_at s (xs ++ x ∷ []) ≡ tree_of s x.0 ∷ stack_at s xs
  stack-push xs x = ap (trees_at s) (reverse-append xs (x ∷ []))

  pub stack-operands : (xs args : List Id) → stack_at s (xs ++ reverse args) ≡ trees_at s args ++ stack_at s xs
  stack-operands xs args =
      ap (trees_at s) (reverse-append xs (reverse args) ∙ ap (λ (ys : List Id). ys ++ reverse xs) (reverse-reverse args)) ∙ trees-append args (reverse xs)

  -- the operands of an application, put there
  pub put-there : (e : Tree) (left args : List Id) → trees_of s args ≡ operands_of e → listed (operands_of e) ++ stack_at s left ≡ stack_at s (left ++ reverse args)
  put-there e left args are = ap (λ (es : List Tree). es ++ stack_at s left) (ap listed (sym are) ∙ listed-trees args) ∙ sym (stack-operands left args)

  pub items-push : (xs : List Kept) (x : Kept) → items_at s (xs ++ x ∷ []) ≡ item_at s x ∷ items_at s xs
  items-push xs x = ap (map (item_at s)) (reverse-append xs (x ∷ []))

  -- the first one of the operands that are left, and without these the last one of the others
  pub taken-first : (front rest others : List Id) (x : Id) → front ≡ x ∷ rest → all_targets front others ≡ all_targets rest others ++ x ∷ []
  taken-first front rest others x is = ap (λ (xs : List Id). others ++ xs) (ap reverse is ∙ reverse-append (x ∷ []) rest) ∙ sym (append_assoc others (reverse rest) (x ∷ []))

  none-first : (front others : List Id) → length front ≡ 0 → all_targets front others ≡ others
  none-first [] others e = append-nil others
  none-first (x ∷ xs) others e = absurd cc

  pub taken-last : (front old new : List Id) (x : Id) → length front ≡ 0 → old ≡ new ++ x ∷ [] → all_targets front old ≡ all_targets front new ++ x ∷ []
  taken-last front old new x none is = none-first front old none ∙ is ∙ ap (λ (xs : List Id). xs ++ x ∷ []) (sym (none-first front new none))

  pub taken-ids : (old new : List Id) (x : Id) → old ≡ new ++ x ∷ [] → AreIn s old → IsIn s x.0 × AreIn s new
  taken-ids old new x is h =
      let both : AreIn s (new ++ x ∷ []) = subst (AreIn s) is h in
      ((are-in-right new (x ∷ []) both).0, are-in-left new (x ∷ []) both)

  taken-stack : (old new : List Id) (x : Id) → old ≡ new ++ x ∷ [] → stack_at s old ≡ tree_of s x.0 ∷ stack_at s new
  taken-stack old new x is = ap (stack_at s) is ∙ stack-push new x

  -- ---- one of them

  pub tree-at : (xs : List Id) (k : ℕ) (x : Id) → slice_get xs k ≡ Some x → slice_get (trees_at s xs) k ≡ Some (tree_of s x.0)
  tree-at xs k x at = slice_get-map (λ i. tree_of s i.0) xs k ∙ ap (option_map (λ (i : Id). tree_of s i.0)) at

  pub tree-past : (xs : List Id) (k : ℕ) → slice_get xs k ≡ None → slice_get (trees_at s xs) k ≡ None
  tree-past xs k past = slice_get-map (λ i. tree_of s i.0) xs k ∙ ap (option_map (λ (i : Id). tree_of s i.0)) past

  -- ---- whether there are any

  empty-length : {A : Type 0} (ys : List A) → is_empty ys ≡ (length ys == 0)
  empty-length [] = refl
  empty-length (y ∷ ys) = sym (eqb-suc-zero (length ys))

  pub stack-empty : (xs : List Id) → is_empty (stack_at s xs) ≡ (length xs == 0)
  stack-empty xs = empty-length (stack_at s xs) ∙ ap (λ n. n == 0) (length-map (reverse xs) (λ (i : Id). tree_of s i.0) ∙ length-reverse xs)

  none-left : (front others : List Id) → (length front == 0) ≡ true → is_empty (stack_at s (all_targets front others)) ≡ (length others == 0)
  none-left [] others e = ap (λ (xs : List Id). is_empty (stack_at s xs)) (append-nil others) ∙ stack-empty others
  none-left (x ∷ xs) others e = absurd (true-false (sym e ∙ eqb-suc-zero (length xs)))

  pub some-left : (front others : List Id) → (length front == 0) ≡ false → is_empty (stack_at s (all_targets front others)) ≡ false
  some-left [] others e = absurd cc
  some-left (x ∷ xs) others e = ap is_empty (taken-stack (all_targets (x ∷ xs) others) (all_targets xs others) x (taken-first (x ∷ xs) xs others x refl))

  -- where none are left, one that comes is the only one
  pub alone : (front others : List Id) (x : Id) → is_empty (stack_at s (all_targets front others)) ≡ true → all_targets front (others ++ x ∷ []) ≡ x ∷ []
  alone [] [] x e = refl
  alone [] (y ∷ ys) x e = absurd (true-false (sym e ∙ none-left [] (y ∷ ys) refl ∙ eqb-suc-zero (length ys)))
  alone (z ∷ zs) others x e = absurd (true-false (sym e ∙ some-left (z ∷ zs) others (eqb-suc-zero (length zs))))

  -- ---- the next hypothesis

  pub popped-item : (old new : List Kept) (r : Option Kept) (i : Id) → old ≡ new ++ option_to_list r → r ≡ Some (Proof i) → AreItemsIn s old → IsIn s i.0 × AreItemsIn s new
  popped-item old new r i is some h =
      let both : AreItemsIn s (new ++ Proof i ∷ []) = subst (AreItemsIn s) (is ∙ ap (λ (o : Option Kept). new ++ option_to_list o) some) h in
      ((items-in-right new (Proof i ∷ []) both).0, items-in-left new (Proof i ∷ []) both)

-- after one more expression at most the ids are the store's as before
pub still-in : (s s' : Sharing) → KeepsIds s s' → (i : ℕ) → IsIn s i → IsIn s' i
still-in s s' (last, are, few) i h = omega (arith, ap length are, length-append s.entries last)

pub are-still-in : (s s' : Sharing) → KeepsIds s s' → (xs : List Id) → AreIn s xs → AreIn s' xs
are-still-in s s' keeps [] h = tt
are-still-in s s' keeps (x ∷ xs) h = (still-in s s' keeps x.0 h.0, are-still-in s s' keeps xs h.1)
