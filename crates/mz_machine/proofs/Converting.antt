-- Conversions over a store.
use Rattle.std.proofs.Common.{◌≡◌, true, false, List, [], ◌∷◌, ◌++◌, Ok, Err, refl, sym, ap, ◌∙◌, subst}
use Rattle.mz_cmd.specs.declared.rule.K.{K}
use Rattle.mz_cmd.specs.declared.rule.K.TheVariants as k
use Rattle.mz_logic_theory.specs.Tree.{Tree, listed}
use Rattle.mz_store.specs.Sharing.{Sharing, trees_of, operands_of}
use Rattle.mz_store.specs.declared.item.Id.{Id}
use Rattle.mz_store.specs.declared.item.Item.{Item as Kept}
use Rattle.mz_machine_theory.specs.Profile.{strict, Item, expr}
use Rattle.mz_machine_theory.specs.Tests.{same_tree}
use Rattle.mz_unify.specs.Stored.{IsItemIn, AreItemsIn, trees_at}
use Rattle.mz_unify.proofs.Offered.{differ, items-in-both, listed-trees, of-trees}
use Rattle.mz_machine_theory.proofs.Offered.{taken-is}
use Rattle.mz_machine_theory.specs.Premises.{pop, pop_expr, pop_obligation, pop_sides}
use Rattle.mz_machine.specs.OverStore.{pop_unfolding}
use Rattle.mz_machine.proofs.ConversionRows.{same}

pub true-false : true ≡ false → ⊥
true-false e = cc

-- with one item more
pub put_in : (s : Sharing) (old new : List Kept) (x : Kept) → new ≡ old ++ x ∷ [] → IsItemIn s x → AreItemsIn s old → AreItemsIn s new
put_in s old new x is one all = subst (AreItemsIn s) (sym is) (items-in-both s old (x ∷ []) all (one, tt))

-- ---- what an unfolding takes

pub pop-is : (xs ys : List (Item Tree)) (x : Item Tree) → pop xs ≡ Ok (x, ys) → xs ≡ x ∷ ys
pop-is [] ys x e = absurd cc
pop-is (y ∷ zs) ys x e = let is = taken-is (y, zs) (x, ys) e in ap (λ (p : Item Tree × List (Item Tree)). p.0 ∷ p.1) is

pub no-item : (xs : List (Item Tree)) (d : K) → pop xs ≡ Err d → pop_sides strict xs ≡ Err d
no-item [] d e = let is : k.Underflow ≡ d = cc in rw is refl
no-item (x ∷ xs) d e = absurd cc

pub sides-none : (xs ys : List (Item Tree)) (m : Tree) (d : K) → xs ≡ expr m ∷ ys → pop_obligation ys ≡ Err d → pop_sides strict xs ≡ Err d
sides-none xs ys m d is none = rw (is, none) refl

module _ (xs ys : List (Item Tree)) (m l r : Tree) (zs : List (Item Tree)) (is : xs ≡ expr m ∷ ys) (taken : pop_obligation ys ≡ Ok (l, r, zs)) where
  pub sides-same : m ≡ l → pop_sides strict xs ≡ Ok (l, r, zs)
  sides-same e = let both : same_tree m l ≡ true = same of-trees m l e in rw (is, taken, both) refl

  pub sides-other : (m ≡ l → ⊥) → pop_sides strict xs ≡ Err k.Unfold
  sides-other h = let not-both : same_tree m l ≡ false = differ of-trees m l h in rw (is, taken, not-both) refl

-- the operands of an application, as trees
pub operand-trees : (s : Sharing) (args : List Id) (e : Tree) → trees_of s args ≡ operands_of e → trees_at s args ≡ listed (operands_of e)
operand-trees s args e are = sym (listed-trees s args) ∙ ap listed are

-- what is unfolded to, and the sides below it
pub none-unfolded : (xs : List (Item Tree)) (d : K) → pop_expr xs ≡ Err d → pop_unfolding xs ≡ Err d
none-unfolded xs d none = rw none refl

module _ (xs ys : List (Item Tree)) (e : Tree) where
  pub no-sides-unfolded : (d : K) → pop_expr xs ≡ Ok (e, ys) → pop_sides strict ys ≡ Err d → pop_unfolding xs ≡ Err d
  no-sides-unfolded d first none = rw (first, none) refl

  pub unfolded : (l r : Tree) (zs : List (Item Tree)) → pop_expr xs ≡ Ok (e, ys) → pop_sides strict ys ≡ Ok (l, r, zs) → pop_unfolding xs ≡ Ok (e, l, r, zs)
  unfolded l r zs first sides = rw (first, sides) refl
