-- A theorem that isn't gapped has a derivation without gaps that cites no gapped theorem.
use Rattle.std.proofs.Common.{ℕ, Bool, List, [], ◌∷◌, ◌++◌, length, subst, inl, inr}
use Rattle.std.specs.Prelude.{◌<◌}
use Rattle.mz_logic_theory.specs.Declaration.{Assertion, Declaration, sort_decl, term_decl, assertion_decl, assertions}
use Rattle.mz_logic_theory.specs.Derivations.{without_gaps}
use Rattle.mz_logic_theory.specs.LegalLists.{Statement, IsProvedBy}
use Rattle.mz_logic_theory.proofs.Offered.{cites_more}
use Rattle.mz_machine_theory.specs.Lists.{Entry, a_sort, a_term, an_assertion, ProvedByBody, ProvedByBodies}
use Rattle.mz_machine_theory.specs.Sound.{used_by, cites_as}
use Rattle.mz_machine_theory.specs.Gapped.{IsGappedBody, gapped_with, free_of, IsFreeUnlessGapped, AreFreeUnlessGapped, UngappedAreProved}
use Rattle.mz_machine_theory.proofs.Lists.{good-legal, one-list}

ungapped-body : (G : ℕ → Type 0) (gaps : Bool) (bytes : List ℕ) (env : List Declaration) (a : Assertion) → IsProvedBy (cites_as gaps bytes) env a → (IsGappedBody G bytes → ⊥) → IsProvedBy (free_of G) env a
ungapped-body G gaps bytes env a (dummies, are, (d, cites, derives)) not = (
  dummies,
  are,
  (
    d,
    cites_more (used_by gaps env bytes) (without_gaps (λ T. (T < length (assertions env)) × (G T → ⊥))) (λ T cited. (cited.1, λ gapped. not (inr (T, cited.0, gapped)))) (λ leaves. not (inl leaves.1)) d cites,
    derives,
  ),
)

by-entry : (G : ℕ → Type 0) (gaps : Bool) (env : List Declaration) (e : Entry) (d : Declaration) → ProvedByBody gaps env e d → IsFreeUnlessGapped G env e d
by-entry G gaps env (a_sort m) d proved = tt
by-entry G gaps env (a_term is_local row body) d proved = tt
by-entry G gaps env (an_assertion is_local without_proof row body) (sort_decl m) proved = tt
by-entry G gaps env (an_assertion is_local without_proof row body) (term_decl t) proved = tt
by-entry G gaps env (an_assertion is_local without_proof row body) (assertion_decl a) proved = λ theorem not. ungapped-body G gaps body.bytes env a (proved theorem) not

all-entries : (G : ℕ → Type 0) (gaps : Bool) (env : List Declaration) (es : List Entry) (ss : List Statement) → ProvedByBodies gaps env es ss → AreFreeUnlessGapped G env es ss
all-entries G gaps env [] ss proved = tt
all-entries G gaps env (e ∷ es) [] proved = tt
all-entries G gaps env (e ∷ es) (s ∷ ss) (proved, rest) =
    (by-entry G gaps env e s.decl proved, all-entries (gapped_with G (length (assertions env)) e) gaps (env ++ s.decl ∷ []) es ss rest)

pub ungapped-proved : UngappedAreProved
ungapped-proved gaps es good ss spells =
    let (ts, ts-spell, _, proved) = good-legal gaps es good in
    all-entries (λ T. ⊥) gaps [] es ss (subst (ProvedByBodies gaps [] es) (one-list es ts ss ts-spell spells) proved)
