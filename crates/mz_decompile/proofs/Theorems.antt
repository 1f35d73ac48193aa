-- The body of a theorem of a good file runs for the heading of its row.
use Rattle.std.proofs.Common.{◌≡◌, ◌⊎◌, ℕ, Bool, false, List, [], ◌∷◌, ◌++◌, length, Option, Some, None, refl, subst, inl, inr}
use Rattle.mz_base.specs.Checks.{AllHold}
use Rattle.mz_cmd.specs.declared.code.StatementCode.TheVariants as codes
use Rattle.mz_cmd.specs.declared.statement.StmtAt.{StmtAt}
use Rattle.mz_cmd.specs.declared.statement.StmtFault.{StmtFault}
use Rattle.std.specs.Prelude.{Result, MatchBool}
use Rattle.mz_cmd.specs.Codes.{statement_code}
use Rattle.mz_logic_theory.specs.Declaration.{Assertion, Declaration, assertion_decl, sorts, signatures, assertions}
use Rattle.mz_logic_theory.specs.Legality.{IsLegalEnv}
use Rattle.mz_logic_theory.specs.LegalLists.{Statement}
use Rattle.mz_logic_theory.specs.declared.binder.Binder.{Binder}
use Rattle.mz_mmu_theory.specs.Proof.{Proof}
use Rattle.mz_trace.specs.Traces.{under_lets, Made}
use Rattle.mz_machine_theory.specs.Profile.{strict}
use Rattle.mz_machine_theory.specs.Spells.{SpellsThm}
use Rattle.mz_machine_theory.specs.MachineState.{Heading, Declares}
use Rattle.mz_machine_theory.specs.Bodies.{Runs}
use Rattle.mz_machine_theory.specs.Sound.{AreRowParams, thm_row}
use Rattle.mz_layout_tables.specs.Heads.{body_bytes}
use Rattle.mz_machine_theory.specs.FileRows.{taken_by, rows_taken}
use Rattle.mz_machine_theory.specs.Headings.{heading_of}
use Rattle.mz_binary_theory.specs.Checking.{checks_of, kind_checks}
use Rattle.mz_binary_theory.specs.Chains.{IsGoodStatement}
use Rattle.mz_binary_theory.specs.Spelling.{IsKindOf, SpellsRow}
use Rattle.mz_binary_theory.specs.Standards.{strict_standard}
use Rattle.mz_binary_theory.proofs.Offered.{entry-good, well-chain}

-- the heading of the next theorem's row
abbrev pub next_heading : List ℕ → List Declaration → Heading
next_heading file env = heading_of file 0x06 (length (assertions env))

-- what is asked of a proof, by whether an axiom or a theorem stands there
abbrev pub IsProofBy : List ℕ → List Declaration → ℕ → ℕ → Bool → List Binder → Option Proof → Type 0
IsProofBy file env body next b dummies proof = MatchBool b
    ((dummies ≡ []) × (proof ≡ None))
    ((lets : List Proof) × (root : Proof) × (proof ≡ Some (under_lets lets root))
    × Made (rows_taken file (taken_by env)) (next_heading file env) (body_bytes file body next) dummies lets root)

-- its parameters are right, its body runs, and its row spells the theorem
pub record RunsAs (file : List ℕ) (env : List Declaration) (body next : ℕ) (a : Assertion) : Type 0 where
  pub params : AreRowParams (sorts env) (next_heading file env).params
  pub runs : Runs strict (rows_taken file (taken_by env)) (next_heading file env) body (body_bytes file body next)
  pub spells : SpellsThm (signatures env) (thm_row (next_heading file env)) a

-- both codes of a theorem ask the same
pub theorem-asked : (file : List ℕ) (env : List Declaration) (at code body next : ℕ) → (code ≡ 0x06) ⊎ (code ≡ 0x0E)
    → AllHold (kind_checks strict_standard file (taken_by env) at body next (statement_code code))
    → AllHold (kind_checks strict_standard file (taken_by env) at body next (Some codes.Theorem))
theorem-asked file env at code body next (inl is) all = subst (λ (c : ℕ). AllHold (kind_checks strict_standard file (taken_by env) at body next (statement_code c))) is all
theorem-asked file env at code body next (inr is) all = subst (λ (c : ℕ). AllHold (kind_checks strict_standard file (taken_by env) at body next (statement_code c))) is all

pub theorem-runs : (file : List ℕ) (env : List Declaration) (at : ℕ) (s : Statement) (next : ℕ) (a : Assertion) (good : IsGoodStatement strict_standard file env at s next) → s.decl ≡ assertion_decl a → a.is_axiom ≡ false
    → RunsAs file env good.spelled.body next a
theorem-runs file env at s next a good is theorem =
    let kind : IsKindOf good.spelled.code (assertion_decl a) = subst (IsKindOf good.spelled.code) is good.spelled.kind.0 in
    let row : SpellsRow file env (assertion_decl a) = subst (SpellsRow file env) is good.spelled.row in
    let asked = theorem-asked file env at good.spelled.code good.spelled.body next
    (subst (λ b. MatchBool b (good.spelled.code ≡ 0x02) ((good.spelled.code ≡ 0x06) ⊎ (good.spelled.code ≡ 0x0E))) theorem kind)
    (subst (λ (r : Result StmtAt StmtFault). AllHold (checks_of strict_standard file (taken_by env) at r)) good.spelled.stands good.passes) in
    let entry = entry-good strict_standard file (taken_by env) at good.spelled.body next codes.Theorem asked in
    record { params = entry.1; runs = entry.2; spells = row.1 }

-- what is declared stays legal, and the rows declare it
pub one-more : (file : List ℕ) (env : List Declaration) (at : ℕ) (s : Statement) (next : ℕ) → IsGoodStatement strict_standard file env at s next → IsLegalEnv env
    → Declares (rows_taken file (taken_by env)) env
    → IsLegalEnv (env ++ s.decl ∷ []) × Declares (rows_taken file (taken_by (env ++ s.decl ∷ []))) (env ++ s.decl ∷ [])
one-more file env at s next good legal declares =
    well-chain strict_standard file env at (s ∷ []) (env ++ s.decl ∷ []) next (next, good, (refl, refl)) legal declares
