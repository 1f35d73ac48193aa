-- Conversions over nodes.
use Rattle.std.proofs.Common.{◌≡◌, true, false, List, [], ◌∷◌, ◌++◌, Result, Ok, Err, refl, sym, ap, ◌∙◌, subst}
use Rattle.mz_cmd.specs.declared.rule.K.{K}
use Rattle.mz_cmd.specs.declared.rule.K.TheVariants as k
use Rattle.mz_pmachine_unify.specs.Numbering.{Numbering, exprs_of, operands_of}
use Rattle.mz_store.specs.declared.item.Id.{Id}
use Rattle.mz_store.specs.declared.item.Item.{Item as Kept}
use Rattle.mz_machine_theory.specs.Steps.{◌>>=◌, ◌>>◌, need}
use Rattle.mz_pmachine_theory.specs.NodeIdentity.{Numbered, operand_list, equal, portable}
use Rattle.mz_machine_theory.specs.Profile.{Item, expr, proof, obligation, conversion}
use Rattle.mz_pmachine_unify.specs.Stored.{IsItemIn, AreItemsIn, exprs_at}
use Rattle.mz_machine_theory.proofs.Offered.{taken-is}
use Rattle.mz_pmachine_unify.proofs.Offered.{items-in-both, listed-exprs, of-numbered}
use Rattle.mz_machine_theory.specs.Premises.{pop_expr, pop_obligation, pop_sides}
use Rattle.mz_machine.proofs.Offered.{same}
use Rattle.mz_pmachine.specs.OverNodes.{pop_unfolding}
use Rattle.mz_unify.proofs.Offered.{differ}

-- with one item more
pub put_in : (s : Numbering) (old new : List Kept) (x : Kept) → new ≡ old ++ x ∷ [] → IsItemIn s x → AreItemsIn s old → AreItemsIn s new
put_in s old new x is one all = subst (AreItemsIn s) (sym is) (items-in-both s old (x ∷ []) all (one, tt))

-- the obligation that was taken stood on top
pub owed-top : (xs ys : List (Item Numbered)) (l r : Numbered) → pop_obligation xs ≡ Ok (l, r, ys) → xs ≡ obligation l r ∷ ys
owed-top [] ys l r e = absurd cc
owed-top (expr n ∷ zs) ys l r e = absurd cc
owed-top (proof n ∷ zs) ys l r e = absurd cc
owed-top (conversion a b ∷ zs) ys l r e = absurd cc
owed-top (obligation a b ∷ zs) ys l r e = ap (λ (p : Numbered × Numbered × List (Item Numbered)). obligation p.0 p.1 ∷ p.2) (taken-is (a, b, zs) (l, r, ys) e)

-- ---- what an unfolding takes

module _ (xs ys : List (Item Numbered)) (m : Numbered) (first : pop_expr xs ≡ Ok (m, ys)) where
  -- what stands first is an expression
  by-first : pop_sides portable xs ≡ (pop_obligation ys >>= λ o. need (equal m o.0) k.Unfold >> Ok o)
  by-first = go xs first
    where
      go : (zs : List (Item Numbered)) → pop_expr zs ≡ Ok (m, ys) → pop_sides portable zs ≡ (pop_obligation ys >>= λ o. need (equal m o.0) k.Unfold >> Ok o)
      go [] e = absurd cc
      go (expr n ∷ zs) e = let both : (n, zs) ≡ (m, ys) = taken-is (n, zs) (m, ys) e in ap (λ (p : Numbered × List (Item Numbered)). pop_obligation p.1 >>= λ o. need (equal p.0 o.0) k.Unfold >> Ok o) both
      go (proof n ∷ zs) e = absurd cc
      go (obligation l r ∷ zs) e = absurd cc
      go (conversion l r ∷ zs) e = absurd cc

  pub sides-none : (d : K) → pop_obligation ys ≡ Err d → pop_sides portable xs ≡ Err d
  sides-none d e = by-first ∙ ap (λ (x : Result (Numbered × Numbered × List (Item Numbered)) K). x >>= λ o. need (equal m o.0) k.Unfold >> Ok o) e

  module _ (l r : Numbered) (zs : List (Item Numbered)) (taken : pop_obligation ys ≡ Ok (l, r, zs)) where
    by-both : pop_sides portable xs ≡ (need (equal m l) k.Unfold >> Ok (l, r, zs))
    by-both = by-first ∙ ap (λ (x : Result (Numbered × Numbered × List (Item Numbered)) K). x >>= λ o. need (equal m o.0) k.Unfold >> Ok o) taken

    pub sides-same : m ≡ l → pop_sides portable xs ≡ Ok (l, r, zs)
    sides-same e = by-both ∙ (let both : equal m l ≡ true = same of-numbered m l e in rw both refl)

    pub sides-other : (m ≡ l → ⊥) → pop_sides portable xs ≡ Err k.Unfold
    sides-other h = by-both ∙ (let not-both : equal m l ≡ false = differ of-numbered m l h in rw not-both refl)

-- without an expression on top
pub no-middle : (xs : List (Item Numbered)) (d : K) → pop_expr xs ≡ Err d → pop_sides portable xs ≡ Err d
no-middle [] d e = let is : k.Underflow ≡ d = cc in rw is refl
no-middle (expr n ∷ zs) d e = absurd cc
no-middle (proof n ∷ zs) d e = let is : k.Kind ≡ d = cc in rw is refl
no-middle (obligation l r ∷ zs) d e = let is : k.Kind ≡ d = cc in rw is refl
no-middle (conversion l r ∷ zs) d e = let is : k.Kind ≡ d = cc in rw is refl

-- the operands of an application, as a list
pub operand-exprs : (s : Numbering) (args : List Id) (e : Numbered) → exprs_of s args ≡ operands_of e → exprs_at s args ≡ operand_list (operands_of e)
operand-exprs s args e are = sym (listed-exprs s args) ∙ ap operand_list are

-- what is unfolded to, and the sides below it
pub none-unfolded : (xs : List (Item Numbered)) (d : K) → pop_expr xs ≡ Err d → pop_unfolding xs ≡ Err d
none-unfolded xs d none = rw none refl

module _ (xs ys : List (Item Numbered)) (e : Numbered) where
  pub no-sides-unfolded : (d : K) → pop_expr xs ≡ Ok (e, ys) → pop_sides portable ys ≡ Err d → pop_unfolding xs ≡ Err d
  no-sides-unfolded d first none = rw (first, none) refl

  pub unfolded : (l r : Numbered) (zs : List (Item Numbered)) → pop_expr xs ≡ Ok (e, ys) → pop_sides portable ys ≡ Ok (l, r, zs) → pop_unfolding xs ≡ Ok (e, l, r, zs)
  unfolded l r zs first sides = rw (first, sides) refl
