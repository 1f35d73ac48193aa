-- What is printed of the supports (this project's own).
use Rattle.std.specs.Prelude.{◌≡◌, ◌++◌, ℕ, List, Result, codes, flat_map}
use Rattle.mz_io.specs.Calls.{Call, IsWriting}
use Rattle.mz_spec_theory.specs.State.{Entry}
use Rattle.mz_spec_theory.specs.Spec.{SpecMakes}
use Rattle.mz_spec_theory.specs.Names.{name_at}
use Rattle.mz_axioms.specs.Lists.{TheoremSupport}

-- for each axiom a space and its name
abbrev pub axiom_names : List ℕ → List Entry → List ℕ → List ℕ
axiom_names text entries axioms = flat_map (λ a. codes " " ++ name_at text entries a) axioms

-- a theorem's name and a colon, the names of its axioms, and a newline
abbrev pub support_line : List ℕ → List Entry → TheoremSupport → List ℕ
support_line text entries s = name_at text entries s.theorem ++ codes ":" ++ axiom_names text entries s.axioms ++ codes "\n"

-- a line for each theorem
abbrev pub supports_text : List ℕ → List Entry → List TheoremSupport → List ℕ
supports_text text entries supports = flat_map (support_line text entries) supports

-- the text of the supports of a specification's theorems
abbrev pub IsTextOf : List ℕ → List TheoremSupport → List ℕ → Type 0
IsTextOf text supports line = (entries : List Entry) × SpecMakes text entries × (line ≡ supports_text text entries supports)

-- the text is written whole, or a prefix of it where the sink fails
abbrev pub IsPrinting : {T E : Type 0} → List ℕ → List TheoremSupport → Result T E → List Call → Type 0
IsPrinting text supports result calls = (line : List ℕ) × IsTextOf text supports line × IsWriting result line calls
