-- Trees as a list of the code's expressions.
use Rattle.std.proofs.Common.{ℕ, zero, suc, ◌≡◌, ◌<◌, List, length, get_or, slice_get, Some, ap, arith, refl, sym, le_of_suc-le-suc, not-suc-le-zero}
use Rattle.std.proofs.lemmas.Option.{none-some}
use Rattle.mz_logic_theory.specs.Tree.{Tree, Trees, none, more, listed}
use Rattle.mz_logic_theory.specs.View.{trees}
use Rattle.mz_logic_theory.proofs.Instance.{one_at}

abbrev pub exprs_of : Trees → List Tree
exprs_of es = listed es

pub trees-exprs : (es : Trees) → trees (exprs_of es) ≡ es
trees-exprs none = refl
trees-exprs (more e es) = ap (more e) (trees-exprs es)

pub length-exprs : (es : Trees) → length (exprs_of es) ≡ length (listed es)
length-exprs es = refl

-- a place among so many trees is one in the list
pub exprs-within : (es : Trees) (i n : ℕ) → n ≡ length (listed es) → i < n → i < length (exprs_of es)
exprs-within es i n is below = omega (arith, is, below)

-- what is read of the trees stands in the list
pub expr-read : (es : Trees) (i : ℕ) (e : Tree) → slice_get (listed es) i ≡ Some e → e ≡ get_or (exprs_of es) i e
expr-read none i e at = absurd (none-some _ at)
expr-read (more d es) zero e at = sym (one_at refl at)
expr-read (more d es) (suc i) e at = expr-read es i e at

-- what stands in the list is read of the trees
pub expr-at : (es : Trees) (i : ℕ) → i < length (exprs_of es) → (e : Tree) × (slice_get (listed es) i ≡ Some e) × (e ≡ get_or (exprs_of es) i e)
expr-at none i below = absurd (not-suc-le-zero below)
expr-at (more d es) zero below = (d, refl, refl)
expr-at (more d es) (suc i) below = expr-at es i (le_of_suc-le-suc below)
