-- Lists of ids and the expressions that they stand for.
use Rattle.std.proofs.Common.{◌≡◌, ℕ, zero, suc, true, List, [], ◌∷◌, ◌++◌, length, map, Option, Some, None, refl, sym, ap, subst, ◌∙◌, arith, append_assoc, length-append}
use Rattle.std.proofs.lemmas.Option.{slice_get-map}
use Rattle.std.proofs.Math.Dec.{eqb-suc-zero}
use Rattle.std.specs.Option.{option_map}
use Rattle.std.specs.Prelude.{reverse, slice_get, ◌==◌, IfSome, option_to_list}
use Rattle.std.proofs.lemmas.List.{reverse-append, map-append, reverse-reverse, length-map, length-reverse}
use Rattle.mz_pmachine_theory.specs.NodeIdentity.{Numbered, operand_list, operand_trees, operands_from, tree_of}
use Rattle.mz_pmachine_unify.specs.Numbering.{Numbering, expr_of, IsIn, AreIn, KeepsIds, exprs_of, operands_of}
use Rattle.mz_store.specs.declared.item.Id.{Id}
use Rattle.mz_store.specs.declared.item.Item.{Item as Kept}
use Rattle.mz_store.specs.declared.item.Item.TheVariants.{Proof}
use Rattle.mz_machine_theory.specs.UnifyMachine.{is_empty}
use Rattle.mz_machine_theory.specs.Spells.{trees_of}
use Rattle.mz_pmachine_unify.specs.Stored.{exprs_at, trees_at, stack_at, item_at, items_at, AreItemsIn}

module _ (s : Numbering) where
  -- ---- ids of nodes

  pub are-in-both : (xs ys : List Id) → AreIn s xs → AreIn s ys → AreIn s (xs ++ ys)
  are-in-both [] ys p q = q
  are-in-both (x ∷ xs) ys p q = (p.0, are-in-both xs ys p.1 q)

  pub are-in-added : (xs ys : List Id) (x : Id) → AreIn s (xs ++ ys) → IsIn s x.0 → AreIn s (xs ++ (ys ++ x ∷ []))
  are-in-added xs ys x all one = subst (AreIn s) (append_assoc xs ys (x ∷ [])) (are-in-both (xs ++ ys) (x ∷ []) all (one, tt))

  pub are-in-left : (xs ys : List Id) → AreIn s (xs ++ ys) → AreIn s xs
  are-in-left [] ys p = tt
  are-in-left (x ∷ xs) ys p = (p.0, are-in-left xs ys p.1)

  pub are-in-right : (xs ys : List Id) → AreIn s (xs ++ ys) → AreIn s ys
  are-in-right [] ys p = p
  are-in-right (x ∷ xs) ys p = are-in-right xs ys p.1

  pub are-in-reverse : (xs : List Id) → AreIn s xs → AreIn s (reverse xs)
  are-in-reverse [] p = tt
  are-in-reverse (x ∷ xs) p = rw (reverse-append (x ∷ []) xs) (are-in-both (reverse xs) (x ∷ []) (are-in-reverse xs p.1) (p.0, tt))

  pub is-in-at : (xs : List Id) (k : ℕ) (x : Id) → AreIn s xs → slice_get xs k ≡ Some x → IsIn s x.0
  is-in-at [] k x p at = absurd cc
  is-in-at (y ∷ ys) zero x p at = let is : y ≡ x = cc in rw (← is) p.0
  is-in-at (y ∷ ys) (suc k) x p at = is-in-at ys k x p.1 at

  pub items-in-left : (xs ys : List Kept) → AreItemsIn s (xs ++ ys) → AreItemsIn s xs
  items-in-left [] ys p = tt
  items-in-left (x ∷ xs) ys p = (p.0, items-in-left xs ys p.1)

  pub items-in-right : (xs ys : List Kept) → AreItemsIn s (xs ++ ys) → AreItemsIn s ys
  items-in-right [] ys p = p
  items-in-right (x ∷ xs) ys p = items-in-right xs ys p.1

  pub items-in-both : (xs ys : List Kept) → AreItemsIn s xs → AreItemsIn s ys → AreItemsIn s (xs ++ ys)
  items-in-both [] ys p q = q
  items-in-both (x ∷ xs) ys p q = (p.0, items-in-both xs ys p.1 q)

  -- ---- their expressions

  pub exprs-append : (xs ys : List Id) → exprs_at s (xs ++ ys) ≡ exprs_at s xs ++ exprs_at s ys
  exprs-append xs ys = map-append (λ i. expr_of s i.0) xs ys

  -- of a list and what is added to it, with one more
  pub exprs-added : (xs ys : List Id) (x : Id) → exprs_at s (xs ++ (ys ++ x ∷ [])) ≡ exprs_at s (xs ++ ys) ++ expr_of s x.0 ∷ []
  exprs-added xs ys x = ap (exprs_at s) (sym (append_assoc xs ys (x ∷ []))) ∙ exprs-append (xs ++ ys) (x ∷ [])

  pub listed-exprs : (xs : List Id) → operand_list (exprs_of s xs) ≡ exprs_at s xs
  listed-exprs [] = refl
  listed-exprs (x ∷ xs) = ap (λ (es : List Numbered). expr_of s x.0 ∷ es) (listed-exprs xs)

  pub from-exprs : (xs : List Id) → operands_from (exprs_at s xs) ≡ exprs_of s xs
  from-exprs [] = refl
  from-exprs (x ∷ xs) = rw (from-exprs xs) refl

  pub stack-push : (xs : List Id) (x : Id) → stack_at s (xs ++ x ∷ []) ≡ expr_of s x.0 ∷ stack_at s xs
  stack-push xs x = ap (exprs_at s) (reverse-append xs (x ∷ []))

  pub stack-operands : (xs args : List Id) → stack_at s (xs ++ reverse args) ≡ exprs_at s args ++ stack_at s xs
  stack-operands xs args =
      ap (exprs_at s) (reverse-append xs (reverse args) ∙ ap (λ (ys : List Id). ys ++ reverse xs) (reverse-reverse args)) ∙ exprs-append args (reverse xs)

  -- the operands of an application, put there
  pub put-there : (e : Numbered) (left args : List Id) → exprs_of s args ≡ operands_of e → operand_list (operands_of e) ++ stack_at s left ≡ stack_at s (left ++ reverse args)
  put-there e left args are = ap (λ (es : List Numbered). es ++ stack_at s left) (ap operand_list (sym are) ∙ listed-exprs args) ∙ sym (stack-operands left args)

  pub items-push : (xs : List Kept) (x : Kept) → items_at s (xs ++ x ∷ []) ≡ item_at s x ∷ items_at s xs
  items-push xs x = ap (map (item_at s)) (reverse-append xs (x ∷ []))

  pub popped : (old new : List Id) (r : Option Id) → old ≡ new ++ option_to_list r → AreIn s old → IfSome r (λ id. IsIn s id.0 × AreIn s new)
  popped old new None is h = tt
  popped old new (Some x) is h =
      let both : AreIn s (new ++ x ∷ []) = subst (AreIn s) is h in
      ((are-in-right new (x ∷ []) both).0, are-in-left new (x ∷ []) both)

  -- ---- one of them

  pub expr-at : (xs : List Id) (k : ℕ) (x : Id) → slice_get xs k ≡ Some x → slice_get (exprs_at s xs) k ≡ Some (expr_of s x.0)
  expr-at xs k x at = slice_get-map (λ i. expr_of s i.0) xs k ∙ ap (option_map (λ (i : Id). expr_of s i.0)) at

  pub expr-past : (xs : List Id) (k : ℕ) → slice_get xs k ≡ None → slice_get (exprs_at s xs) k ≡ None
  expr-past xs k past = slice_get-map (λ i. expr_of s i.0) xs k ∙ ap (option_map (λ (i : Id). expr_of s i.0)) past

  pub tree-at : (xs : List Id) (k : ℕ) (x : Id) → slice_get xs k ≡ Some x → slice_get (trees_at s xs) k ≡ Some (tree_of (expr_of s x.0))
  tree-at xs k x at = slice_get-map tree_of (exprs_at s xs) k ∙ ap (option_map tree_of) (expr-at xs k x at)

  pub length-trees : (xs : List Id) → length (trees_at s xs) ≡ length xs
  length-trees xs = length-map (exprs_at s xs) tree_of ∙ length-map xs (λ (i : Id). expr_of s i.0)

  pub trees-of : (xs : List Id) → trees_of (trees_at s xs) ≡ operand_trees (exprs_of s xs)
  trees-of [] = refl
  trees-of (x ∷ xs) = rw (trees-of xs) refl

  -- ---- whether there are any

  empty-length : {A : Type 0} (ys : List A) → is_empty ys ≡ (length ys == 0)
  empty-length [] = refl
  empty-length (y ∷ ys) = sym (eqb-suc-zero (length ys))

  pub stack-empty : (xs : List Id) → is_empty (stack_at s xs) ≡ (length xs == 0)
  stack-empty xs = empty-length (stack_at s xs) ∙ ap (λ n. n == 0) (length-map (reverse xs) (λ (i : Id). expr_of s i.0) ∙ length-reverse xs)

  pub alone : (xs : List Id) (x : Id) → is_empty (stack_at s xs) ≡ true → stack_at s (xs ++ x ∷ []) ≡ expr_of s x.0 ∷ []
  alone xs x h = stack-push xs x ∙ ap (λ (es : List Numbered). expr_of s x.0 ∷ es) (nothing (stack_at s xs) h)
    where
      nothing : (es : List Numbered) → is_empty es ≡ true → es ≡ []
      nothing [] e = refl
      nothing (y ∷ ys) e = absurd cc

  -- ---- the next hypothesis

  pub popped-item : (old new : List Kept) (r : Option Kept) (i : Id) → old ≡ new ++ option_to_list r → r ≡ Some (Proof i) → AreItemsIn s old → IsIn s i.0 × AreItemsIn s new
  popped-item old new r i is some h =
      let both : AreItemsIn s (new ++ Proof i ∷ []) = subst (AreItemsIn s) (is ∙ ap (λ (o : Option Kept). new ++ option_to_list o) some) h in
      ((items-in-right new (Proof i ∷ []) both).0, items-in-left new (Proof i ∷ []) both)

-- after one more expression at most the ids are those of nodes as before
pub still-in : (s s' : Numbering) → KeepsIds s s' → (i : ℕ) → IsIn s i → IsIn s' i
still-in s s' (last, are, few) i h = omega (arith, ap length are, length-append s.entries last)

pub are-still-in : (s s' : Numbering) → KeepsIds s s' → (xs : List Id) → AreIn s xs → AreIn s' xs
are-still-in s s' keeps [] h = tt
are-still-in s s' keeps (x ∷ xs) h = (still-in s s' keeps x.0 h.0, are-still-in s s' keeps xs h.1)
