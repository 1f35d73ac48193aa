-- What is stated of one good statement: its proof, its names' numbers and its bound variables.
use Rattle.std.proofs.Common.{◌≡◌, ◌≤◌, ◌+◌, ◌-◌, ◌∙◌, ℕ, Bool, true, false, List, [], length, drop, Option, None, refl, sym, ap, subst, arith, length-append, length-take, length-drop}
use Rattle.mz_logic_theory.specs.Declaration.{dummies_of, Declaration, sort_decl, term_decl, assertion_decl, Term, Assertion, sorts}
use Rattle.mz_logic_theory.specs.Legality.{IsLegalEnv}
use Rattle.mz_logic_theory.specs.LegalLists.{Statement as Marked}
use Rattle.mz_logic_theory.specs.declared.binder.Binder.{Binder}
use Rattle.mz_mmu_theory.specs.Gaps.{SomeLeavesOnly}
use Rattle.mz_mmu_theory.specs.Proof.{Proof}
use Rattle.mz_mmu_theory.specs.Meaning.{IsProvedAsStated}
use Rattle.mz_mmu_theory.specs.Weight.{params_of, dummy_count}
use Rattle.mz_machine_theory.specs.MachineState.{Declares}
use Rattle.mz_machine_theory.specs.Premises.{bound_count}
use Rattle.mz_layout_tables.specs.Heads.{body_bytes}
use Rattle.mz_machine_theory.specs.FileRows.{taken_by, rows_taken}
use Rattle.mz_binary_theory.specs.Chains.{IsGoodStatement}
use Rattle.mz_binary_theory.specs.Standards.{strict_standard}
use Rattle.mz_trace.specs.Laws.{MadeProofsProve}
use Rattle.mz_trace.specs.Traces.{under_lets}
use Rattle.mz_decompile_text.specs.Phrasable.{HasProofIfTheorem, IsWithin}
use Rattle.mz_decompile.specs.Laws.{AreBytes}
use Rattle.mz_decompile.specs.Restated.{IsProofMade}
use Rattle.mz_decompile.proofs.Lets.{made-sees}
use Rattle.mz_decompile.proofs.FewBound.{theorem-few}
use Rattle.mz_decompile.proofs.Theorems.{next_heading, IsProofBy, theorem-runs}
use Rattle.mz_decompile.proofs.Rows.{IsModest, good-modest}

-- the proof proves it, leaves no gap, and there are names for all of it; and few variables are bound
pub record IsStated (n : ℕ) (env : List Declaration) (d : Declaration) (dummies : List Binder) (proof : Option Proof) : Type 0 where
  pub proved : IsProvedAsStated false env d dummies proof
  pub finished : SomeLeavesOnly ⊥ proof
  pub within : IsWithin n d dummies proof
  pub few_params : length (params_of d) ≤ 65535
  pub few_bound : bound_count (params_of d) + dummy_count d + length dummies ≤ 55

body-short : (file : List ℕ) (body next : ℕ) → length (body_bytes file body next) ≤ length file
body-short file body next = omega (arith, length-take (next - body) (drop body file), length-drop body file)

none-leaves : (proof : Option Proof) → proof ≡ None → SomeLeavesOnly ⊥ proof
none-leaves proof is = subst (SomeLeavesOnly ⊥) (sym is) tt

module _ (law : MadeProofsProve) (file : List ℕ) (bytes : AreBytes file) (n : ℕ) (room : 65590 ≤ n) (small : length file ≤ n)
    (env : List Declaration) (legal : IsLegalEnv env) (declares : Declares (rows_taken file (taken_by env)) env) where
  term-stated : (d : Term) (dummies : List Binder) (proof : Option Proof) → IsModest (length file) (term_decl d) → (dummies ≡ []) × (proof ≡ None)
      → IsStated n env (term_decl d) dummies proof
  term-stated d dummies proof (few, bound, ascend, result, form) (no_dummies, no_proof) = record {
    proved = tt;
    finished = none-leaves proof no_proof;
    within = (omega (arith, few, bound, length-append d.signature.params (dummies_of d.form), room), ascend, result, form, no_dummies, no_proof);
    few_params = few;
    few_bound = omega (arith, bound, ap length no_dummies);
  }

  axiom-stated : (a : Assertion) (dummies : List Binder) (proof : Option Proof) → a.is_axiom ≡ true → IsModest (length file) (assertion_decl a)
      → (dummies ≡ []) × (proof ≡ None) → IsStated n env (assertion_decl a) dummies proof
  axiom-stated a dummies proof is (few, bound, ascend, hyps) (no_dummies, no_proof) = record {
    proved = λ theorem. absurd (let bad : true ≡ false = sym is ∙ theorem in cc);
    finished = none-leaves proof no_proof;
    within = (
      omega (arith, few, length-append a.params dummies, ap length no_dummies, room),
      omega (arith, hyps, small),
      ascend,
      subst (HasProofIfTheorem n a.is_axiom dummies) (sym no_proof) (is, no_dummies),
    );
    few_params = few;
    few_bound = omega (arith, bound, ap length no_dummies);
  }

  module _ (at : ℕ) (s : Marked) (next : ℕ) (good : IsGoodStatement strict_standard file env at s next) where
    theorem-stated : (a : Assertion) (dummies : List Binder) (proof : Option Proof) → s.decl ≡ assertion_decl a → a.is_axiom ≡ false → IsModest (length file) (assertion_decl a)
        → IsProofBy file env good.spelled.body next false dummies proof → IsStated n env (assertion_decl a) dummies proof
    theorem-stated a dummies proof is theorem (few, bound, ascend, hyps) (lets, root, proof-is, made) =
        let runs = theorem-runs file env at s next a good is theorem in
        let h = next_heading file env in
        let body = body_bytes file good.spelled.body next in
        let params : h.params ≡ a.params = runs.spells.0 in
        let (are, proves) = law (rows_taken file (taken_by env)) env legal declares h good.spelled.body body refl runs.params runs.runs a theorem runs.spells dummies lets root made in
        let (sees, leaves) = made-sees (rows_taken file (taken_by env)) h body dummies lets root made n (omega (arith, body-short file good.spelled.body next, small)) in
        let most = theorem-few (rows_taken file (taken_by env)) h body (sorts env) dummies lets root made are (subst (λ (bs : List Binder). bound_count bs ≤ 55) (sym params) bound) in
        let all : bound_count a.params + length dummies ≤ 55 = subst (λ (bs : List Binder). bound_count bs + length dummies ≤ 55) params most in
        record {
          proved = λ _. (are, (under_lets lets root, proof-is, proves));
          finished = subst (SomeLeavesOnly ⊥) (sym proof-is) leaves;
          within = (
            omega (arith, few, length-append a.params dummies, all, room),
            omega (arith, hyps, small),
            ascend,
            subst (HasProofIfTheorem n a.is_axiom dummies) (sym proof-is) (theorem, sees),
          );
          few_params = few;
          few_bound = omega (arith, all);
        }

    pub stated : (dummies : List Binder) (proof : Option Proof) → IsProofMade file env good.spelled.body next s.decl dummies proof → IsStated n env s.decl dummies proof
    stated dummies proof made = go s.decl refl made (good-modest file env declares at s next good bytes)
      where
        go : (d : Declaration) → s.decl ≡ d → IsProofMade file env good.spelled.body next d dummies proof → IsModest (length file) d → IsStated n env d dummies proof
        go (sort_decl m) is (no_dummies, no_proof) modest = record {
          proved = tt;
          finished = none-leaves proof no_proof;
          within = (modest, no_dummies, no_proof);
          few_params = omega arith;
          few_bound = omega (arith, ap length no_dummies);
        }
        go (term_decl d) is h modest = term-stated d dummies proof modest h
        go (assertion_decl a) is h modest = by a.is_axiom refl
          where
            by : (b : Bool) → a.is_axiom ≡ b → IsStated n env (assertion_decl a) dummies proof
            by true marked = axiom-stated a dummies proof marked modest (subst (λ b. IsProofBy file env good.spelled.body next b dummies proof) marked h)
            by false unmarked = theorem-stated a dummies proof is unmarked modest (subst (λ b. IsProofBy file env good.spelled.body next b dummies proof) unmarked h)
