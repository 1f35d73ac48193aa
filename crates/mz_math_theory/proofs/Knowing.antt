-- Which tokens are known.
use Rattle.std.proofs.Common.{◌≡◌, ◌⊎◌, ℕ, List, inl, inr}
use Rattle.std.specs.Prelude.{codes}
use Rattle.mz_math_theory.specs.Clear.{HasConstant}
use Rattle.mz_math_theory.specs.Grammar.{Words, IsVariable, IsNamed, IsKnown}

pub known-last : (ws : Words) (w : List ℕ) → (IsVariable ws w → ⊥) → ((w ≡ codes "(") ⊎ (w ≡ codes ")") → ⊥) → ((q : ℕ) × (HasConstant ws.leading w q ⊎ HasConstant ws.infixes w q) → ⊥)
    → IsKnown ws w → IsNamed ws w
known-last ws w v p c (inl is) = absurd (v is)
known-last ws w v p c (inr (inl is)) = absurd (p (inl is))
known-last ws w v p c (inr (inr (inl is))) = absurd (p (inr is))
known-last ws w v p c (inr (inr (inr (inl has)))) = absurd (c has)
known-last ws w v p c (inr (inr (inr (inr is)))) = is

pub known-parenthesis : (ws : Words) (w : List ℕ) → (w ≡ codes "(") ⊎ (w ≡ codes ")") → IsKnown ws w
known-parenthesis ws w (inl is) = inr (inl is)
known-parenthesis ws w (inr is) = inr (inr (inl is))

pub known-constant : (ws : Words) (w : List ℕ) → (q : ℕ) × (HasConstant ws.leading w q ⊎ HasConstant ws.infixes w q) → IsKnown ws w
known-constant ws w has = inr (inr (inr (inl has)))

pub known-name : (ws : Words) (w : List ℕ) → IsNamed ws w → IsKnown ws w
known-name ws w is = inr (inr (inr (inr is)))
