-- How the code notes the precedences of a notation's own constants: each constant with the precedence that it has first.
use Rattle.std.specs.Prelude.{◌≡◌, ◌≢◌, ◌↔◌, ◌⊎◌, ℕ, List, Bool, Some, MatchBool}
use Rattle.mz_math_theory.specs.declared.notation.Element.{Element}
use Rattle.mz_math_theory.specs.declared.notation.Element.TheVariants.{Fixed as fixed}
use Rattle.mz_lex.specs.Places.{place_of}

-- the precedences are those before and the element's; or the element is a constant that has another precedence before
abbrev pub IsLevelNoted : Bool → List (List ℕ × ℕ) → Element → List (List ℕ × ℕ) → Type 0
IsLevelNoted is old e new = MatchBool is ((w : List ℕ) (q : ℕ) → (place_of new w ≡ Some q) ↔ ((place_of old w ≡ Some q) ⊎ (e ≡ fixed w q)))
    ((w : List ℕ) × (q : ℕ) × (p : ℕ) × (e ≡ fixed w q) × (place_of old w ≡ Some p) × (p ≢ q))
