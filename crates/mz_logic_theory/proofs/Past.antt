-- What is left of a list of expressions behind a place.
use Rattle.std.proofs.Common.{ℕ, zero, suc, ◌≡◌, ◌<◌, ◌≤◌, ◌+◌, ◌∙◌, List, [], ◌∷◌, length, map, get_or, slice_get, Some, None, ap, refl, sym, subst, arith, le_of_suc-le-suc, not-suc-le-zero}
use Rattle.std.proofs.lemmas.Option.{none-some}
use Rattle.mz_logic_theory.specs.Tree.{Tree, Trees, app, none, more, listed, operand, past, size, trees_size}
use Rattle.mz_logic_theory.specs.View.{trees}
use Rattle.mz_logic_theory.proofs.Constructors.{no-trees}
use Rattle.mz_logic_theory.proofs.Instance.{one_at}

pub past-end : (es : Trees) (i : ℕ) → length (listed es) ≤ i → past i es ≡ none
past-end none zero end = refl
past-end none (suc i) end = refl
past-end (more e es) zero end = absurd (not-suc-le-zero end)
past-end (more e es) (suc i) end = past-end es i (le_of_suc-le-suc end)

next : (es : Trees) (i : ℕ) → past (suc i) es ≡ past (i + 1) es
next es i = ap (λ k. past k es) (let same : suc i ≡ i + 1 = omega arith in same)

mapped : (f : Tree → Tree) (es : List Tree) (i : ℕ) (d : Tree) → i < length es
    → past i (trees (map f es)) ≡ more (f (get_or es i d)) (past (suc i) (trees (map f es)))
mapped f [] i d below = absurd (not-suc-le-zero below)
mapped f (e ∷ es) zero d below = refl
mapped f (e ∷ es) (suc i) d below = mapped f es i d (le_of_suc-le-suc below)

-- the list of what expressions are under f
pub past-mapped : (f : Tree → Tree) (es : List Tree) (i : ℕ) (d : Tree) → i < length es
    → past i (trees (map f es)) ≡ more (f (get_or es i d)) (past (i + 1) (trees (map f es)))
past-mapped f es i d below = mapped f es i d below ∙ ap (more (f (get_or es i d))) (next (trees (map f es)) i)

pub length-mapped : (f : Tree → Tree) (es : List Tree) → length (listed (trees (map f es))) ≡ length es
length-mapped f [] = refl
length-mapped f (e ∷ es) = ap suc (length-mapped f es)

read : (es : Trees) (i : ℕ) (e : Tree) → slice_get (listed es) i ≡ Some e → past i es ≡ more e (past (suc i) es)
read none i e at = absurd (none-some _ at)
read (more d es) zero e at = ap (λ x. more x es) (one_at refl at)
read (more d es) (suc i) e at = read es i e at

-- what is read of a list is the first one of what is left
pub past-at : (es : Trees) (i : ℕ) (e : Tree) → slice_get (listed es) i ≡ Some e → past i es ≡ more e (past (i + 1) es)
past-at es i e at = read es i e at ∙ ap (more e) (next es i)

-- and back
pub at-past : (es fs : Trees) (i : ℕ) (e : Tree) → past i es ≡ more e fs → slice_get (listed es) i ≡ Some e
at-past none fs zero e is = absurd (no-trees e fs is)
at-past none fs (suc i) e is = absurd (no-trees e fs is)
at-past (more d es) fs zero e is = ap (λ x. slice_get (listed x) 0) is
at-past (more d es) fs (suc i) e is = at-past es fs i e is

pub operand-past : (es fs : Trees) (i : ℕ) (e : Tree) → past i es ≡ more e fs → operand es i ≡ e
operand-past none fs zero e is = absurd (no-trees e fs is)
operand-past none fs (suc i) e is = absurd (no-trees e fs is)
operand-past (more d es) fs zero e is = ap (λ x. operand x 0) is
operand-past (more d es) fs (suc i) e is = operand-past es fs i e is

pub none-past : (es : Trees) (i : ℕ) → length (listed es) ≤ i → slice_get (listed es) i ≡ None
none-past none i end = refl
none-past (more e es) zero end = absurd (not-suc-le-zero end)
none-past (more e es) (suc i) end = none-past es i (le_of_suc-le-suc end)

pub operand-none : (es : Trees) (i : ℕ) → length (listed es) ≤ i → operand es i ≡ app 0 none
operand-none none i end = refl
operand-none (more e es) zero end = absurd (not-suc-le-zero end)
operand-none (more e es) (suc i) end = operand-none es i (le_of_suc-le-suc end)

pub map-itself : (es : List Tree) → map (λ e. e) es ≡ es
map-itself [] = refl
map-itself (e ∷ es) = ap (λ fs. e ∷ fs) (map-itself es)

-- what is left isn't larger
pub size-past : (es : Trees) (i : ℕ) → trees_size (past i es) ≤ trees_size es
size-past es zero = omega arith
size-past none (suc i) = omega arith
size-past (more e es) (suc i) = let ih = size-past es i in omega (arith, ih)

-- the i-th one isn't larger than all
pub size-at : (es fs : Trees) (i : ℕ) (e : Tree) → past i es ≡ more e fs → size e ≤ trees_size es
size-at es fs i e is = let small = size-past es i in let same = ap trees_size is in omega (arith, small, same)

-- what holds of no expressions holds at the end
pub at-end : (F : Trees → Type 0) (es : Trees) (i : ℕ) → length (listed es) ≤ i → F none → F (past i es)
at-end F es i end holds = subst F (sym (past-end es i end)) holds
