-- Hypotheses that stand in groups: several names share one formula (mm0.md, section on axioms and theorems).
use Rattle.std.specs.Prelude.{ℕ, suc, ◌≡◌, ◌<◌, ◌-◌, ⊤, List, [], ◌∷◌, length}
use Rattle.mz_logic_theory.specs.Tree.{Trees, none, more, listed, followed_by, copies}

-- each formula, from the end of the one before up to its own
abbrev pub up_to : ℕ → Trees → List ℕ → Trees
up_to from none ends = none
up_to from (more e es) [] = none
up_to from (more e es) (end ∷ ends) = followed_by (copies (end - from) e) (up_to end es ends)

-- each end is above the one before
abbrev pub Rise : ℕ → List ℕ → Type 0
Rise from [] = ⊤
Rise from (end ∷ ends) = (from < end) × Rise end ends

-- so many formulas have ends
abbrev pub AreEnds : Trees → List ℕ → Type 0
AreEnds es ends = (length (listed es) ≡ length ends) × Rise 0 ends

-- hs has the formulas of es in order, each once or more
abbrev pub Repeats : Trees → Trees → Type 0
Repeats none hs = hs ≡ none
Repeats (more e es) hs = (n : ℕ) × (rest : Trees) × Repeats es rest × (hs ≡ followed_by (copies (suc n) e) rest)
