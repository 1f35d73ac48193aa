-- Paths of terms over an expression.
use Rattle.std.proofs.Common.{ℕ, List, [], ◌∷◌}
use Rattle.mz_logic_theory.specs.Tree.{Tree, app, none, more, under}
use Rattle.mz_logic_theory.specs.Signature.{Signature}
use Rattle.mz_logic_theory.specs.Legality.{InRange}

-- what stands under terms that are there is there
pub range-under : (sigs : List Signature) (n : ℕ) (ts : List ℕ) (e : Tree) → InRange sigs n (under ts e) → InRange sigs n e
range-under sigs n [] e there = there
range-under sigs n (t ∷ ts) e there = (range-under sigs n ts (app t (more e none)) there).2.0
