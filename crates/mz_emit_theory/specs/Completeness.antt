-- Every legal axiom, theorem and definition has steps that make what it says.
use Rattle.std.specs.Prelude.{◌≡◌, ℕ, ◌≤◌, Bool, List, [], ◌∷◌, ◌++◌, Ok}
use Rattle.mz_cmd.specs.declared.code.ProofCode.{ProofCode}
use Rattle.mz_logic_theory.specs.Tree.{Tree, listed}
use Rattle.mz_logic_theory.specs.Declaration.{defined, Term, Assertion, Declaration, term_decl, assertion_decl, sorts, signatures}
use Rattle.mz_logic_theory.specs.Legality.{IsLegalDecl, IsLegalEnv}
use Rattle.mz_logic_theory.specs.Derivations.{Derivation, Derives}
use Rattle.mz_logic_theory.specs.LegalLists.{AreDummies, allowed_with}
use Rattle.mz_logic_theory.specs.declared.binder.Binder.{Binder}
use Rattle.mz_machine_theory.specs.Streams.{of_assertion}
use Rattle.mz_machine_theory.specs.Spells.{Text}
use Rattle.mz_machine_theory.specs.Profile.{plain, Item, expr, proof}
use Rattle.mz_machine_theory.specs.MachineState.{RowsBefore, State, is_theorem, Heading, Declares}
use Rattle.mz_machine_theory.specs.Premises.{bound_count}
use Rattle.mz_machine_theory.specs.ProofMachine.{proof_end}
use Rattle.mz_machine_theory.specs.Bodies.{body_start}
use Rattle.mz_emit_theory.specs.SymbolicState.{Work, work_start}
use Rattle.mz_emit_theory.specs.Steps.{Steps, run_commands}
use Rattle.mz_emit_theory.specs.AlphaEquivalence.{IsSameEnv}

-- steps from the parameters on that leave this item and these hypotheses
abbrev pub HasSteps : Bool → List Declaration → List Binder → List Binder → Item Tree → List Tree → Type 0
HasSteps gaps env params ctx x hyps = (cs : List (ProofCode × ℕ)) × (w : Work) × Steps gaps env ctx (work_start params) cs w × (w.stack ≡ x ∷ []) × (w.hyps ≡ hyps)

abbrev pub LegalAxiomsHaveSteps : Type 0
LegalAxiomsHaveSteps = (gaps : Bool) (env : List Declaration) (a : Assertion) → IsLegalDecl env (assertion_decl a) → HasSteps gaps env a.params (a.params ++ []) (expr a.conclusion) (listed a.hyps)

abbrev pub LegalDefinitionsHaveSteps : Type 0
LegalDefinitionsHaveSteps = (gaps : Bool) (env : List Declaration) (d : Term) (dummies : List Binder) (body : Tree) → d.form ≡ defined dummies body → IsLegalDecl env (term_decl d)
    → HasSteps gaps env d.signature.params (d.signature.params ++ dummies) (expr body) []

-- a theorem by each derivation that is allowed: without gaps, or where they are let through by any
abbrev pub LegalTheoremsHaveSteps : Type 0
LegalTheoremsHaveSteps = (gaps : Bool) (env : List Declaration) → IsLegalEnv env → (a : Assertion) → IsLegalDecl env (assertion_decl a)
    → (dummies : List Binder) → AreDummies (sorts env) dummies → (d : Derivation) → allowed_with gaps env d → Derives env (a.params ++ dummies) a.hyps d a.conclusion
    → HasSteps gaps env a.params (a.params ++ dummies) (proof a.conclusion) (listed a.hyps)

-- so over rows that declare the environment, a row that spells a legal theorem has commands that run and end well
abbrev pub LegalTheoremsRun : Type 0
LegalTheoremsRun = (gaps : Bool) (tables : RowsBefore) (env env' : List Declaration) → Declares tables env' → IsSameEnv env env' → IsLegalEnv env
    → (a : Assertion) → IsLegalDecl env (assertion_decl a) → (dummies : List Binder) → AreDummies (sorts env) dummies → bound_count (a.params ++ dummies) ≤ 55
    → (d : Derivation) → allowed_with gaps env d → Derives env (a.params ++ dummies) a.hyps d a.conclusion
    → (h : Heading) → h.kind ≡ is_theorem → h.params ≡ a.params → Text of_assertion (signatures env) a.params h.stream a.hyps a.conclusion []
    → (at : ℕ) → (cs : List (ProofCode × ℕ)) × (last : State Tree) × (run_commands (plain gaps) tables at cs (body_start (plain gaps) h) ≡ Ok last) × (proof_end (plain gaps) tables h last ≡ Ok last)
