-- A list of the code's expressions, and its trees.
use Rattle.std.proofs.Common.{◌≡◌, ◌≤◌, ◌<◌, ℕ, zero, suc, List, [], ◌∷◌, ◌++◌, ◌+◌, length, get_or, slice_get, option_map, drop, ap, refl, sym, ◌∙◌, Option, Some, None, MatchOption, HoldsAt, Bor, arith, le_of_suc-le-suc, not-suc-le-zero}
use Rattle.mz_logic_theory.specs.Tree.{app, none, more, listed, operand, followed_by, size, trees_size, Trees}
use Rattle.std.proofs.lemmas.List.{drop_more}
use Rattle.mz_logic_theory.proofs.Follow.{followed_by_push}
use Rattle.mz_logic_theory.specs.View.{tree, trees}
use Rattle.mz_logic_theory.specs.declared.expr.Expr.{Expr}

pub length-trees : (es : List Expr) → length es ≡ length (listed (trees es))
length-trees [] = refl
length-trees (e ∷ es) = ap suc (length-trees es)

past_none : (es : List Expr) (i : ℕ) → length es ≤ i → slice_get (listed (trees es)) i ≡ None
past_none [] i past = refl
past_none (e ∷ es) zero past = absurd (omega arith)
past_none (e ∷ es) (suc i) past = past_none es i (le_of_suc-le-suc past)

within_some : (es : List Expr) (i : ℕ) (d : Expr) → i < length es → slice_get (listed (trees es)) i ≡ Some (tree (get_or es i d))
within_some [] i d below = absurd (not-suc-le-zero below)
within_some (e ∷ es) zero d below = refl
within_some (e ∷ es) (suc i) d below = within_some es i d (le_of_suc-le-suc below)

-- what `get` gives of the code's list
pub listed_of_get : (o : Option (Bor Expr)) (es : List Expr) (i : ℕ)
    → MatchOption o (length es ≤ i) (λ x. (i < length es) × HoldsAt (λ y. x.now ≡ y) es i)
    → option_map (λ e. tree e.now) o ≡ slice_get (listed (trees es)) i
listed_of_get None es i past = sym (past_none es i past)
listed_of_get (Some x) es i (below, holds) = ap (λ y. Some (tree y)) (holds x.now) ∙ sym (within_some es i x.now below)

pub operand_past : (es : List Expr) (i : ℕ) → length es ≤ i → operand (trees es) i ≡ app 0 none
operand_past [] i past = refl
operand_past (e ∷ es) zero past = absurd (omega arith)
operand_past (e ∷ es) (suc i) past = operand_past es i (le_of_suc-le-suc past)

pub operand_in : (es : List Expr) (i : ℕ) (d : Expr) → i < length es → operand (trees es) i ≡ tree (get_or es i d)
operand_in [] i d below = absurd (not-suc-le-zero below)
operand_in (e ∷ es) zero d below = refl
operand_in (e ∷ es) (suc i) d below = operand_in es i d (le_of_suc-le-suc below)

-- the same as an operand
pub operand_of_get : (o : Option (Bor Expr)) (es : List Expr) (i : ℕ)
    → MatchOption o (length es ≤ i) (λ x. (i < length es) × HoldsAt (λ y. x.now ≡ y) es i)
    → MatchOption o (operand (trees es) i ≡ app 0 none) (λ e. operand (trees es) i ≡ tree e.now)
operand_of_get None es i past = operand_past es i past
operand_of_get (Some x) es i (below, holds) = operand_in es i x.now below ∙ ap tree (sym (holds x.now))

pub trees-append : (xs ys : List Expr) → trees (xs ++ ys) ≡ followed_by (trees xs) (trees ys)
trees-append [] ys = refl
trees-append (x ∷ xs) ys = ap (more (tree x)) (trees-append xs ys)

-- one more expression is copied
pub copied_more : (xs : List Expr) (i : ℕ) (e copy : Expr) (sofar new all : Trees) → i < length xs → e ≡ get_or xs i e → tree copy ≡ tree e
    → new ≡ followed_by sofar (more (tree copy) none)
    → (followed_by sofar (trees (drop i xs)) ≡ all) × (trees_size (trees (drop i xs)) ≤ trees_size all)
    → (followed_by new (trees (drop (i + 1) xs)) ≡ all) × (trees_size (trees (drop (i + 1) xs)) ≤ trees_size all)
copied_more xs i e copy sofar new all below read same is (rest, small) = (
  ap (λ fs. followed_by fs (trees (drop (i + 1) xs))) is ∙ followed_by_push sofar (trees (drop (i + 1) xs)) (tree copy)
      ∙ ap (λ d. followed_by sofar (more d (trees (drop (i + 1) xs)))) same ∙ sym (ap (followed_by sofar) cut) ∙ rest,
  smaller (trees_size (trees (drop (i + 1) xs))) (ap trees_size cut),
)
  where
    cut : trees (drop i xs) ≡ more (tree e) (trees (drop (i + 1) xs))
    cut = ap trees (drop_more xs i e below) ∙ ap (λ d. more (tree d) (trees (drop (i + 1) xs))) (sym read)

    smaller : (n : ℕ) → trees_size (trees (drop i xs)) ≡ size (tree e) + n → n ≤ trees_size all
    smaller n is = omega arith
