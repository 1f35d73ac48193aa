-- The conditions on names, constants and precedences by which each list of tokens has at most one tree.
use Rattle.std.specs.Prelude.{List, Contains, codes, ℕ}
use Rattle.mz_math_theory.specs.declared.notation.Notation.{Notation}
use Rattle.mz_math_theory.specs.Clear.{IsClear, LedBy, JoinedBy}
use Rattle.mz_math_theory.specs.Kept.{AreDistinct, OneTermEach}
use Rattle.mz_math_theory.specs.Grammar.{Words, IsVariable, IsNamed}

pub record IsReadable (ws : Words) : Type 0 where
  pub clear : IsClear ws.leading ws.infixes
  pub led : (k : Notation) → Contains ws.leading k → (w : List ℕ) × LedBy k w
  pub joined : (k : Notation) → Contains ws.infixes k → (w : List ℕ) × JoinedBy k w
  pub one_term_each : OneTermEach ws.names
  pub variables : AreDistinct ws.variables
  pub no_variable : IsVariable ws (codes "(") → ⊥
  pub no_term : IsNamed ws (codes "(") → ⊥
  pub no_leading : (k : Notation) → Contains ws.leading k → LedBy k (codes "(") → ⊥
  pub no_infix : (k : Notation) → Contains ws.infixes k → JoinedBy k (codes ")") → ⊥
