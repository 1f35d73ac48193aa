-- On which variables a type depends: those of its names, and their places (mm0.md, sections on terms, definitions,
-- axioms and theorems).
use Rattle.std.specs.Prelude.{◌≡◌, ◌⊎◌, ◌+◌, ⊤, ℕ, List, [], ◌∷◌, true, Option, Some, None, if◌then◌else◌}
use Rattle.mz_lex.specs.Lexemes.{Lexeme}
use Rattle.mz_spec_theory.specs.View.{Variable, is_among}

-- P holds of each
abbrev pub Every : {A : Type 0} → (A → Type 0) → List A → Type 0
Every P [] = ⊤
Every P (x ∷ xs) = P x × Every P xs

-- it has a name, which is this one
abbrev pub IsCalled : Option Lexeme → List ℕ → Type 0
IsCalled None text = ⊥
IsCalled (Some l) text = l.text ≡ text

-- one of these variables is bound and has the name
abbrev pub IsBoundAmong : List Variable → Lexeme → Type 0
IsBoundAmong [] l = ⊥
IsBoundAmong (v ∷ vs) l = ((v.is_bound ≡ true) × IsCalled v.name l.text) ⊎ IsBoundAmong vs l

-- the places of the parameters that are among the dependencies, counted from a place on: ascending, each once
abbrev pub dep_places : ℕ → List Variable → List Lexeme → List ℕ
dep_places i [] deps = []
dep_places i (v ∷ vs) deps = if is_among deps v.name then i ∷ dep_places (i + 1) vs deps else dep_places (i + 1) vs deps
