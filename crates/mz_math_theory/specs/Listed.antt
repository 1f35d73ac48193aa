-- Places of parameters one after another, and how the code keeps the elements of a notation: those of `prefix` as a
-- constant, and how many parameters stand behind it.
use Rattle.std.specs.Prelude.{◌≡◌, ◌<◌, ◌+◌, ◌++◌, ◌^◌, ◌⊎◌, ℕ, zero, suc, List, [], ◌∷◌, length}
use Rattle.mz_math_theory.specs.declared.notation.Element.{Element}
use Rattle.mz_math_theory.specs.declared.notation.Element.TheVariants.{Fixed as fixed, Slot as slot}
use Rattle.mz_math_theory.specs.declared.notation.ElementRef.{ElementRef}
use Rattle.mz_math_theory.specs.declared.notation.ElementRef.TheVariants as refs

-- the places from `from` on
abbrev pub slots : ℕ → ℕ → List Element
slots from zero = []
slots from (suc n) = slot from ∷ slots (from + 1) n

-- so many parameters may stand behind these elements: none, or any behind one constant alone
abbrev pub IsBehind : List Element → ℕ → Type 0
IsBehind xs n = ((n ≡ 0) ⊎ ((w : List ℕ) × (q : ℕ) × (xs ≡ fixed w q ∷ []))) × (length xs + n < 2 ^ 64)

-- the elements are these, and the first parameters behind them
abbrev pub AreListed : List Element → List Element → Type 0
AreListed es xs = (n : ℕ) × (es ≡ xs ++ slots 0 n) × IsBehind xs n

-- what stands at a place, as it is handed out
abbrev pub element : ElementRef → Element
element (refs.Fixed c q) = fixed c.now q
element (refs.Slot i) = slot i
