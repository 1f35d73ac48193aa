-- What an environment keeps when a declaration is added.
use Rattle.std.proofs.Common.{ℕ, suc, ◌≡◌, ◌+◌, List, [], ◌∷◌, ◌++◌, map, length, sym, ap, ◌∙◌, subst, arith}
use Rattle.std.proofs.lemmas.List.{map-append, length-map}
use Rattle.mz_logic_theory.specs.Declaration.{Declaration, sort_decl, term_decl, assertion_decl, sorts}
use Rattle.mz_logic_theory.specs.Places.{places_of_terms, places_of_assertions}
use Rattle.mz_logic_theory.specs.Legality.{IsLegalDecl, IsLegalEnv}
use Rattle.mz_logic_theory.specs.DeclView.{declaration}
use Rattle.mz_logic_theory.specs.declared.decl.Decl.{Decl}
use Rattle.mz_logic_theory.specs.declared.binder.SortMods.{SortMods}
use Rattle.mz_logic_theory.proofs.Extend.{sorts-append}
use Rattle.mz_logic_theory.proofs.LegalIsRight.{legal_push}

places_of_terms-append : (n m : ℕ) (ds es : List Declaration) → m ≡ n + length ds
    → places_of_terms n (ds ++ es) ≡ places_of_terms n ds ++ places_of_terms m es
places_of_terms-append n m [] es is = ap (λ k. places_of_terms k es) (let e : n ≡ m = omega arith in e)
places_of_terms-append n m (sort_decl _ ∷ ds) es is = places_of_terms-append (suc n) m ds es (omega arith)
places_of_terms-append n m (term_decl _ ∷ ds) es is = ap (λ ps. n ∷ ps) (places_of_terms-append (suc n) m ds es (omega arith))
places_of_terms-append n m (assertion_decl _ ∷ ds) es is = places_of_terms-append (suc n) m ds es (omega arith)

places_of_assertions-append : (n m : ℕ) (ds es : List Declaration) → m ≡ n + length ds
    → places_of_assertions n (ds ++ es) ≡ places_of_assertions n ds ++ places_of_assertions m es
places_of_assertions-append n m [] es is = ap (λ k. places_of_assertions k es) (let e : n ≡ m = omega arith in e)
places_of_assertions-append n m (sort_decl _ ∷ ds) es is = places_of_assertions-append (suc n) m ds es (omega arith)
places_of_assertions-append n m (term_decl _ ∷ ds) es is = places_of_assertions-append (suc n) m ds es (omega arith)
places_of_assertions-append n m (assertion_decl _ ∷ ds) es is = ap (λ ps. n ∷ ps) (places_of_assertions-append (suc n) m ds es (omega arith))

-- what an environment keeps of its declarations: modifiers and places
abbrev pub Keeps : List Decl → List SortMods → List ℕ → List ℕ → Type 0
Keeps ds ms ts hs = IsLegalEnv (map declaration ds) × (ms ≡ sorts (map declaration ds))
    × (ts ≡ places_of_terms 0 (map declaration ds)) × (hs ≡ places_of_assertions 0 (map declaration ds))

pub kept_by_push : (old new : List Decl) (d : Decl) (env : List Declaration) (ms ns : List SortMods) (ts us hs gs : List ℕ)
    → env ≡ map declaration old → new ≡ old ++ d ∷ [] → IsLegalDecl env (declaration d) → Keeps old ms ts hs
    → ns ≡ ms ++ sorts (declaration d ∷ []) → us ≡ ts ++ places_of_terms (length old) (declaration d ∷ [])
    → gs ≡ hs ++ places_of_assertions (length old) (declaration d ∷ []) → Keeps new ns us gs
kept_by_push old new d env ms ns ts us hs gs env_is new_is legal_d (legal, ms_are, ts_are, hs_are) ns_are us_are gs_are = (
  subst IsLegalEnv (sym all) (legal_push (map declaration old) (declaration d) legal (subst (λ e. IsLegalDecl e (declaration d)) env_is legal_d)),
  ns_are ∙ ap (λ xs. xs ++ sorts (declaration d ∷ [])) ms_are ∙ sym (ap sorts all ∙ sorts-append (map declaration old) (declaration d ∷ [])),
  us_are ∙ ap (λ xs. xs ++ places_of_terms (length old) (declaration d ∷ [])) ts_are
      ∙ sym (ap (places_of_terms 0) all ∙ places_of_terms-append 0 (length old) (map declaration old) (declaration d ∷ []) many),
  gs_are ∙ ap (λ xs. xs ++ places_of_assertions (length old) (declaration d ∷ [])) hs_are
      ∙ sym (ap (places_of_assertions 0) all ∙ places_of_assertions-append 0 (length old) (map declaration old) (declaration d ∷ []) many),
)
  where
    all : map declaration new ≡ map declaration old ++ declaration d ∷ []
    all = ap (map declaration) new_is ∙ map-append declaration old (d ∷ [])

    many : length old ≡ 0 + length (map declaration old)
    many = let e = length-map old declaration in omega arith
