-- The statements are legal as stated.
use Rattle.std.proofs.Common.{ℕ, zero, suc, ◌≡◌, ◌++◌, true, false, true≢false, List, [], ◌∷◌, Some, None, refl, sym, ap, subst, codes}
use Rattle.std.specs.Prelude.{⊤, slice_get}
use Rattle.std.proofs.lemmas.Option.{none-some}
use Rattle.mz_logic_theory.specs.Tree.{var, more, none}
use Rattle.mz_logic_theory.specs.Declaration.{Declaration, sort_decl, term_decl, assertion_decl, sorts, signatures}
use Rattle.mz_logic_theory.specs.Sorts.{HasSort, HasProvable, AreProvable}
use Rattle.mz_logic_theory.specs.Legality.{IsLegalDecl}
use Rattle.mz_logic_theory.specs.LegalLists.{AreDummies}
use Rattle.mz_logic_theory.specs.Conversions.{GapsOnly}
use Rattle.mz_logic_theory.specs.Derivations.{Derivation, convert, no_derivs, Derives, IsGapFree, CitesOnly, without_gaps}
use Rattle.mz_logic_theory.specs.Examples.{wff, two, im, im_declared, y_and_q, ax_1, ax_mp}
use Rattle.mz_logic_theory.specs.declared.binder.Binder.{Binder}
use Rattle.mz_logic_theory.specs.declared.binder.SortMods.{SortMods}
use Rattle.mz_logic_theory.proofs.Offered.{one_at, terms_are_sorted, assertions_are_sorted, nothing_in}
use Rattle.mz_mmu_theory.specs.Statements.{Statement}
use Rattle.mz_mmu_theory.specs.Meaning.{derivation, LetsDerive, IsLegalAsStated, LegalAsStatedAfter, LegalAsStated}
use Rattle.mz_tool.proofs.Declarations.{all_declared, ax_gen, d, d_number, body_conversion, t_conversion, body_derivation, t_derivation}
use Rattle.mz_tool.proofs.Environment.{Stands, env_d, env_t, env_g, stands-next}
use Rattle.mz_tool.proofs.Sorted.{two-wff, params-wff, params-nat, unbound, im-sort, all-sort, claimed, result-sort, two-there, nat-there, no-claims}
use Rattle.mz_tool.proofs.Legal.{q-sort, d-legal, t-legal, g-legal, t-derives, g-derives}
use Rattle.mz_tool.proofs.Statements.{stated, head_declarations, head_then, body_proof, t_proof, g_proof, d_statement, t_statement, g_statement, numbered, sample_statements, body-means}

no-dummies : (ss : List SortMods) (ds : List Binder) → ds ≡ [] → AreDummies ss ds
no-dummies ss ds is i b at = absurd (none-some _ (subst (λ (bs : List Binder). slice_get bs i ≡ Some b) is at))

-- an axiom needs no proof
stays : {A : Type 0} → true ≡ false → A
stays is = absurd (true≢false is)

-- ---- the sorts, the terms and the axioms

abbrev pub env2 : List Declaration
env2 = sort_decl (record { 0 = 4 }) ∷ sort_decl (record { 0 = 0 }) ∷ []

abbrev pub env3 : List Declaration
env3 = env2 ++ term_decl im_declared ∷ []

abbrev pub env4 : List Declaration
env4 = env3 ++ term_decl all_declared ∷ []

abbrev pub env5 : List Declaration
env5 = env4 ++ assertion_decl ax_1 ∷ []

abbrev pub env6 : List Declaration
env6 = env5 ++ assertion_decl ax_mp ∷ []

im-legal : IsLegalDecl env2 (term_decl im_declared)
im-legal = (terms_are_sorted env2 im_declared).1 (two-there, params-wff (sorts env2) two two-wff, nothing_in _, result-sort, nothing_in _, tt)

all-legal : IsLegalDecl env3 (term_decl all_declared)
all-legal = (terms_are_sorted env3 all_declared).1 (nat-there, params-nat, nothing_in _, result-sort, nothing_in _, tt)

v0 : HasSort [] two (var 0) 0
v0 = (wff, refl, refl)

v1 : HasSort [] two (var 1) 0
v1 = (wff, refl, refl)

ax-1-legal : IsLegalDecl env4 (assertion_decl ax_1)
ax-1-legal =
    (assertions_are_sorted env4 ax_1).1 (
      two-there,
      params-wff (sorts env4) two two-wff,
      no-claims env4 two none refl,
      (0, im-sort (signatures env4) two refl (var 0) (im (var 1) (var 0)) v0 (im-sort (signatures env4) two refl (var 1) (var 0) v1 v0), claimed),
    )

ax-mp-legal : IsLegalDecl env5 (assertion_decl ax_mp)
ax-mp-legal = (assertions_are_sorted env5 ax_mp).1 (two-there, params-wff (sorts env5) two two-wff, claims, (0, v1, claimed))
  where
    claims : AreProvable env5 two (more (im (var 0) (var 1)) (more (var 0) none))
    claims zero e at = subst (HasProvable env5 two) (one_at refl at) (0, im-sort (signatures env5) two refl (var 0) (var 1) v0 v1, claimed)
    claims (suc zero) e at = subst (HasProvable env5 two) (one_at refl at) (0, v0, claimed)
    claims (suc (suc i)) e at = absurd (none-some _ at)

ax-gen-legal : IsLegalDecl env6 (assertion_decl ax_gen)
ax-gen-legal = (assertions_are_sorted env6 ax_gen).1 (nat-there, params-nat, claims, (0, all-sort (signatures env6) refl (var 1) q-sort, claimed))
  where
    claims : AreProvable env6 y_and_q (more (var 1) none)
    claims zero e at = subst (HasProvable env6 y_and_q) (one_at refl at) (0, q-sort, claimed)
    claims (suc i) e at = absurd (none-some _ at)

pub head-stands : Stands 0 head_declarations
head-stands = record {
  sorts_are = refl;
  im_at = refl;
  all_at = refl;
  ax_1_at = refl;
  ax_mp_at = refl;
  ax_gen_at = refl;
  many_terms = refl;
  many_assertions = refl;
  before = tt;
}

pub sort-stated : (env : List Declaration) (w : List ℕ) (m : SortMods) → IsLegalAsStated false env (stated w (sort_decl m) None)
sort-stated env w m = ((tt, (tt, (tt, (tt, (tt, (tt, (tt, (tt, tt)))))))), unbound false refl, tt)

pub im-stated : IsLegalAsStated false env2 (stated (codes "im") (term_decl im_declared) None)
im-stated = (im-legal, unbound false refl, tt)

pub all-stated : IsLegalAsStated false env3 (stated (codes "all") (term_decl all_declared) None)
all-stated = (all-legal, unbound false refl, tt)

pub ax-1-stated : IsLegalAsStated false env4 (stated (codes "ax_1") (assertion_decl ax_1) None)
ax-1-stated = (ax-1-legal, unbound false refl, stays)

pub ax-mp-stated : IsLegalAsStated false env5 (stated (codes "ax_mp") (assertion_decl ax_mp) None)
ax-mp-stated = (ax-mp-legal, unbound false refl, stays)

pub ax-gen-stated : IsLegalAsStated false env6 (stated (codes "ax_gen") (assertion_decl ax_gen) None)
ax-gen-stated = (ax-gen-legal, unbound false refl, stays)

head-legal : (rest : List Statement) → LegalAsStatedAfter false head_declarations rest → LegalAsStated false (head_then rest)
head-legal rest legal = (
  sort-stated [] (codes "wff") (record { 0 = 4 }),
  (
    sort-stated (sort_decl (record { 0 = 4 }) ∷ []) (codes "nat") (record { 0 = 0 }),
    (
      im-stated,
      (
        all-stated,
        (ax-1-stated, (ax-mp-stated, (ax-gen-stated, legal))),
      ),
    ),
  ),
)

-- ---- a definition and its theorems

pub body-lets : (env : List Declaration) (k : ℕ) → LetsDerive env (wff ∷ []) none no_derivs (body_proof k)
body-lets env zero = tt
body-lets env (suc j) = (tt, (tt, tt))

conversion-full : (k : ℕ) → GapsOnly ⊥ (body_conversion k)
conversion-full zero = (tt, ((tt, (tt, tt)), tt))
conversion-full (suc j) = (tt, ((tt, tt), tt))

body-full : (k : ℕ) → CitesOnly (without_gaps (λ T. ⊤)) (body_derivation k)
body-full zero = (tt, tt)
body-full (suc j) = (tt, ((tt, tt), ((tt, tt), tt)))

module _ (k : ℕ) (env : List Declaration) (is : Stands k env) where
  pub d-stated : IsLegalAsStated false env (d_statement k)
  d-stated = (d-legal k env is, unbound false refl, tt)

  t-means : t_derivation k ≡ derivation no_derivs (t_proof k)
  t-means = ap (λ (x : Derivation). convert (d (d_number k) (var 0)) (t_conversion k) x) (sym (body-means k))

  pub t-stated : IsLegalAsStated false (env_d env k) (t_statement k)
  t-stated = (
    t-legal k env is,
    unbound false refl,
    λ _. (
      no-dummies (sorts (env_d env k)) [] refl,
      (
        t_proof k,
        refl,
        (
          subst (λ (x : Derivation). Derives (env_d env k) (wff ∷ []) none x (d (d_number k) (var 0))) t-means (t-derives k env is),
          body-lets (env_d env k) k,
          subst IsGapFree t-means (conversion-full k, body-full k),
        ),
      ),
    ),
  )

  pub g-stated : IsLegalAsStated false (env_t env k) (g_statement k)
  g-stated = (g-legal k env is, unbound false refl, λ _. (no-dummies (sorts (env_t env k)) [] refl, (g_proof k, refl, (g-derives k env is, (tt, tt), (tt, ((tt, tt), tt))))))

numbered-legal : (k m : ℕ) (env : List Declaration) → Stands k env → LegalAsStatedAfter false env (numbered k m)
numbered-legal k zero env is = tt
numbered-legal k (suc m) env is = (d-stated k env is, (t-stated k env is, (g-stated k env is, numbered-legal (suc k) m (env_g env k) (stands-next k env is))))

pub sample-legal : (n : ℕ) → LegalAsStated false (sample_statements n)
sample-legal n = head-legal (numbered 0 n) (numbered-legal 0 n head_declarations head-stands)
