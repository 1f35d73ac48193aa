-- Where the terms, and the axioms and theorems, stand among the declarations.
use Rattle.std.specs.Prelude.{ℕ, suc, List, [], ◌∷◌}
use Rattle.mz_logic_theory.specs.Declaration.{Declaration, sort_decl, term_decl, assertion_decl}

-- the places of the terms in order; the first declaration's place is n
abbrev pub places_of_terms : ℕ → List Declaration → List ℕ
places_of_terms n [] = []
places_of_terms n (sort_decl _ ∷ ds) = places_of_terms (suc n) ds
places_of_terms n (term_decl _ ∷ ds) = n ∷ places_of_terms (suc n) ds
places_of_terms n (assertion_decl _ ∷ ds) = places_of_terms (suc n) ds

-- the same of the axioms and theorems
abbrev pub places_of_assertions : ℕ → List Declaration → List ℕ
places_of_assertions n [] = []
places_of_assertions n (sort_decl _ ∷ ds) = places_of_assertions (suc n) ds
places_of_assertions n (term_decl _ ∷ ds) = places_of_assertions (suc n) ds
places_of_assertions n (assertion_decl _ ∷ ds) = n ∷ places_of_assertions (suc n) ds
