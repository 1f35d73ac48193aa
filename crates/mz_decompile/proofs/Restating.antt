-- The statements of a pair that is accepted can be restated.
use Rattle.std.proofs.Common.{◌≡◌, ℕ, suc, Bool, true, false, List, [], ◌∷◌, ◌++◌, length, get_or, Option, Some, None, refl, sym, ap, subst}
use Rattle.std.specs.Prelude.{if◌then◌else◌, codes, decimal}
use Rattle.mz_logic_theory.specs.Declaration.{Declaration, sort_decl, term_decl, assertion_decl}
use Rattle.mz_logic_theory.specs.LegalLists.{Statement as Marked}
use Rattle.mz_logic_theory.specs.Legality.{IsLegalEnv}
use Rattle.mz_logic_theory.specs.declared.binder.Binder.{Binder}
use Rattle.mz_mmu_theory.specs.Proof.{Proof}
use Rattle.mz_mmu_theory.specs.Statements.{Statement}
use Rattle.mz_layout_tables.specs.Tables.{list_at}
use Rattle.mz_machine_theory.specs.MachineState.{Declares}
use Rattle.mz_layout_tables.specs.Heads.{body_bytes}
use Rattle.mz_machine_theory.specs.FileRows.{taken_by, rows_taken}
use Rattle.mz_binary_theory.specs.Chains.{IsGoodStatement, GoodTo}
use Rattle.mz_binary_theory.specs.Standards.{strict_standard}
use Rattle.mz_trace.specs.Laws.{BodiesMakeProofs}
use Rattle.mz_trace.specs.Traces.{under_lets}
use Rattle.mz_mmu_theory.specs.DeclaredNames.{prefix_beside}
use Rattle.mz_decompile_text.specs.Names.{declared_names, statement_names}
use Rattle.mz_decompile.specs.Restated.{IsProofMade, IsRestated, AreRestated}
use Rattle.mz_decompile.specs.Laws.{AcceptedAreRestated}
use Rattle.mz_decompile.proofs.Theorems.{next_heading, IsProofBy, theorem-runs, one-more}

-- there are as many names as statements
pub names-many : (names : List (List ℕ)) (prefix : List ℕ) (k number : ℕ) (ss : List Marked) → length (statement_names names prefix k number ss) ≡ length ss
names-many names prefix k number [] = refl
names-many names prefix k number (s ∷ ss) = go s.is_local (names-many names prefix k (suc number) ss) (names-many names prefix (suc k) (suc number) ss)
  where
    here : List ℕ
    here = prefix ++ (codes "l" ++ decimal number)

    go : (b : Bool) → length (statement_names names prefix k (suc number) ss) ≡ length ss → length (statement_names names prefix (suc k) (suc number) ss) ≡ length ss
        → length (if b then here ∷ statement_names names prefix k (suc number) ss else get_or names k [] ∷ statement_names names prefix (suc k) (suc number) ss) ≡ suc (length ss)
    go true e f = ap suc e
    go false e f = ap suc f

module _ (law : BodiesMakeProofs) (file : List ℕ) where
  -- a proof for each declaration, with its dummies
  proof-made : (env : List Declaration) (at : ℕ) (s : Marked) (next : ℕ) (good : IsGoodStatement strict_standard file env at s next) (d : Declaration) → s.decl ≡ d
      → (dummies : List Binder) × (proof : Option Proof) × IsProofMade file env good.spelled.body next d dummies proof
  proof-made env at s next good (sort_decl m) is = ([], None, (refl, refl))
  proof-made env at s next good (term_decl t) is = ([], None, (refl, refl))
  proof-made env at s next good (assertion_decl a) is = go a.is_axiom refl
    where
      go : (b : Bool) → a.is_axiom ≡ b → (dummies : List Binder) × (proof : Option Proof) × IsProofMade file env good.spelled.body next (assertion_decl a) dummies proof
      go true marked = ([], None, subst (λ b. IsProofBy file env good.spelled.body next b [] None) (sym marked) (refl, refl))
      go false unmarked =
          let runs = theorem-runs file env at s next a good is unmarked in
          let (dummies, lets, root, made) = law (rows_taken file (taken_by env)) (next_heading file env) good.spelled.body (body_bytes file good.spelled.body next) refl runs.runs in
          (dummies, Some (under_lets lets root), subst (λ b. IsProofBy file env good.spelled.body next b dummies (Some (under_lets lets root))) (sym unmarked) (lets, root, refl, made))

  one-restated : (env : List Declaration) (at : ℕ) (s : Marked) (next : ℕ) (name : List ℕ) → IsGoodStatement strict_standard file env at s next
      → (t : Statement) × IsRestated file env at s next name t
  one-restated env at s next name good =
      let (dummies, proof, made) = proof-made env at s next good s.decl refl in (
        record { is_local = s.is_local; name = name; decl = s.decl; dummies = dummies; proof = proof },
        record { code = good.spelled.code; body = good.spelled.body; stands = good.spelled.stands; mark = refl; named = refl; declares = refl; proof = made },
      )

  all-restated : (env : List Declaration) (from : ℕ) (ss : List Marked) (env' : List Declaration) (to : ℕ) (names : List (List ℕ)) → length names ≡ length ss
      → GoodTo strict_standard file env from ss env' to
      → IsLegalEnv env → Declares (rows_taken file (taken_by env)) env → (ts : List Statement) × AreRestated file env from ss names ts
  all-restated env from [] env' to [] many chain legal declares = ([], tt)
  all-restated env from [] env' to (name ∷ names) many chain legal declares = absurd cc
  all-restated env from (s ∷ ss) env' to [] many chain legal declares = absurd cc
  all-restated env from (s ∷ ss) env' to (name ∷ names) many (next, good, rest) legal declares =
      let (more-legal, more-declared) = one-more file env from s next good legal declares in
      let (t, is) = one-restated env from s next name good in
      let (ts, are) = all-restated (env ++ s.decl ∷ []) next ss env' to names (let e : length names ≡ length ss = cc in e) rest more-legal more-declared in
      (t ∷ ts, (next, is, are))

pub accepted-restated : BodiesMakeProofs → AcceptedAreRestated
accepted-restated law spec bin accepts =
    let (entries, makes, declared) = accepts.is_spec in
    let names = declared_names spec entries in
    let prefix = prefix_beside names in
    let good = accepts.is_good in
    let (ts, are) = all-restated law bin [] (list_at bin) accepts.statements good.env good.to (statement_names names prefix 0 1 accepts.statements) (names-many names prefix 0 1 accepts.statements)
    good.statements tt (record { sorts_are = refl; terms_are = tt; thms_are = tt }) in
    (prefix, ts, record { accepts = accepts; entries = entries; makes = makes; beside = refl; restated = are })
