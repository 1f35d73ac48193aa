-- Trees are equal where their parts are, and a variable is no application.
use Rattle.std.proofs.Common.{◌≡◌, ◌+◌, ℕ, arith}
use Rattle.mz_logic_theory.specs.Tree.{Tree, Trees, var, app, none, more, followed_by, trees_size}

pub same-variable : (x y : ℕ) → var x ≡ var y → x ≡ y
same-variable x y e = cc

pub same-term : (t u : ℕ) (es fs : Trees) → app t es ≡ app u fs → t ≡ u
same-term t u es fs e = cc

pub same-operands : (t u : ℕ) (es fs : Trees) → app t es ≡ app u fs → es ≡ fs
same-operands t u es fs e = cc

pub same-first : (e f : Tree) (es fs : Trees) → more e es ≡ more f fs → e ≡ f
same-first e f es fs is = cc

pub same-rest : (e f : Tree) (es fs : Trees) → more e es ≡ more f fs → es ≡ fs
same-rest e f es fs is = cc

pub no-application : (x t : ℕ) (es : Trees) → var x ≡ app t es → ⊥
no-application x t es e = cc

pub no-trees : (e : Tree) (es : Trees) → none ≡ more e es → ⊥
no-trees e es is = cc

pub trees_size-followed : (es fs : Trees) → trees_size (followed_by es fs) ≡ trees_size es + trees_size fs
trees_size-followed none fs = omega arith
trees_size-followed (more e es) fs = omega (arith, trees_size-followed es fs)
