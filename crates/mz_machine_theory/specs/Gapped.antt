-- Gapped theorems: those whose body leaves a gap or cites a gapped one. The others have derivations without gaps
-- (documents of the .mmb format, on proof streams and their command Sorry; Carneiro, the rules of derivation).
use Rattle.std.specs.Prelude.{◌≡◌, ℕ, ⊤, ◌<◌, ◌⊎◌, Bool, true, false, List, [], ◌∷◌, ◌++◌, length}
use Rattle.mz_logic_theory.specs.Declaration.{Declaration, sort_decl, term_decl, assertion_decl, assertions}
use Rattle.mz_logic_theory.specs.Derivations.{Derivation, CitesOnly, without_gaps}
use Rattle.mz_logic_theory.specs.LegalLists.{Statement, IsProvedBy}
use Rattle.mz_machine_theory.specs.Laws.{no_tables}
use Rattle.mz_machine_theory.specs.Lists.{Entry, a_sort, a_term, an_assertion, AreGood, SpellEntries}
use Rattle.mz_machine_theory.specs.Sound.{CitesWithin, GapsWithin}

-- the body leaves a gap, or cites an assertion with G
abbrev pub IsGappedBody : (ℕ → Type 0) → List ℕ → Type 0
IsGappedBody G bytes = GapsWithin (length bytes) bytes ⊎ ((T : ℕ) × CitesWithin (length bytes) bytes T × G T)

-- G, and the n-th assertion where it is the entry's and its body is gapped
abbrev pub gapped_with : (ℕ → Type 0) → ℕ → Entry → ℕ → Type 0
gapped_with G n (a_sort m) T = G T
gapped_with G n (a_term is_local row body) T = G T
gapped_with G n (an_assertion is_local true row body) T = G T
gapped_with G n (an_assertion is_local false row body) T = G T ⊎ ((T ≡ n) × IsGappedBody G body.bytes)

-- no gap, and no citation of an assertion with G
abbrev pub free_of : (ℕ → Type 0) → List Declaration → Derivation → Type 0
free_of G env d = CitesOnly (without_gaps (λ T. (T < length (assertions env)) × (G T → ⊥))) d

-- a theorem whose body isn't gapped has such a derivation
abbrev pub IsFreeUnlessGapped : (ℕ → Type 0) → List Declaration → Entry → Declaration → Type 0
IsFreeUnlessGapped G env (a_sort m) d = ⊤
IsFreeUnlessGapped G env (a_term is_local row body) d = ⊤
IsFreeUnlessGapped G env (an_assertion is_local without_proof row body) (sort_decl m) = ⊤
IsFreeUnlessGapped G env (an_assertion is_local without_proof row body) (term_decl t) = ⊤
IsFreeUnlessGapped G env (an_assertion is_local without_proof row body) (assertion_decl a) =
    a.is_axiom ≡ false → (IsGappedBody G body.bytes → ⊥) → IsProvedBy (free_of G) env a

-- each, G being the gapped ones before
abbrev pub AreFreeUnlessGapped : (ℕ → Type 0) → List Declaration → List Entry → List Statement → Type 0
AreFreeUnlessGapped G env [] ss = ⊤
AreFreeUnlessGapped G env (e ∷ es) [] = ⊤
AreFreeUnlessGapped G env (e ∷ es) (s ∷ ss) =
    IsFreeUnlessGapped G env e s.decl × AreFreeUnlessGapped (gapped_with G (length (assertions env)) e) (env ++ s.decl ∷ []) es ss

-- of good entries each theorem that isn't gapped has a derivation without gaps, over the statements before it, that
-- cites no gapped theorem
abbrev pub UngappedAreProved : Type 0
UngappedAreProved = (gaps : Bool) (es : List Entry) → AreGood gaps no_tables es → (ss : List Statement) → SpellEntries [] es ss
    → AreFreeUnlessGapped (λ T. ⊥) [] es ss
