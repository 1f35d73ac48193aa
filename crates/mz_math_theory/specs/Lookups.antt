-- What the look-ups of a token answer.
use Rattle.std.specs.Prelude.{ℕ, List, Contains}
use Rattle.mz_math_theory.specs.declared.notation.Notation.{Notation}
use Rattle.mz_math_theory.specs.Clear.{JoinedBy}
use Rattle.mz_math_theory.specs.Grammar.{Words, IsVariable, IsLeading, IsTermName}

abbrev pub NoTermName : Words → List ℕ → Type 0
NoTermName ws w = (t n : ℕ) → IsTermName ws w t n → ⊥

abbrev pub NoVariable : Words → List ℕ → Type 0
NoVariable ws w = IsVariable ws w → ⊥

abbrev pub NoLeading : Words → List ℕ → Type 0
NoLeading ws w = IsLeading ws w → ⊥

abbrev pub NoInfix : Words → List ℕ → Type 0
NoInfix ws w = (k : Notation) → Contains ws.infixes k → JoinedBy k w → ⊥
