-- What is promised of the bodies that are written: they are bodies of their statements.
use Rattle.std.specs.Prelude.{ℕ, ◌≡◌, ◌<◌, ◌≤◌, ◌^◌, ⊤, Bool, List, [], ◌∷◌, ◌++◌, length, slice_get, Some}
use Rattle.mz_cmd.specs.declared.code.ProofCode.{ProofCode}
use Rattle.mz_logic_theory.specs.Tree.{Tree}
use Rattle.mz_logic_theory.specs.Declaration.{Declaration, sorts, signatures}
use Rattle.mz_logic_theory.specs.Modifiers.{MayBeDummySort}
use Rattle.mz_logic_theory.specs.Sorts.{HasProvable}
use Rattle.mz_logic_theory.specs.declared.binder.Binder.{Binder}
use Rattle.mz_machine_theory.specs.Sorted.{Sorted}
use Rattle.mz_machine_theory.specs.Spells.{dummy_of}
use Rattle.mz_machine_theory.specs.MachineState.{is_axiom, is_theorem, is_definition}
use Rattle.mz_machine_theory.specs.Premises.{bound_count}
use Rattle.mz_mmu_theory.specs.Proof.{Proof}
use Rattle.mz_emit_theory.specs.SharedBodies.{IsSharedBody}
use Rattle.mz_emit_theory.specs.Endings.{spelled_body}
use Rattle.mz_emit_theory.specs.Claims.{proved, IsSound}
use Rattle.mz_emit_theory.specs.BodyWriting.{definition_written, axiom_written, theorem_written}

-- behind the first n variables stand dummies, of sorts that may have some
abbrev pub AreDummiesBehind : List Declaration → ℕ → List Binder → Type 0
AreDummiesBehind env n ctx = (x : ℕ) (b : Binder) → slice_get ctx x ≡ Some b → n ≤ x → (b ≡ dummy_of b.sort) × MayBeDummySort (sorts env) b.sort

-- each operand takes four bytes at most
abbrev pub TakeFourBytes : List (ProofCode × ℕ) → Type 0
TakeFourBytes [] = ⊤
TakeFourBytes (c ∷ cs) = (c.1 < 2 ^ 32) × TakeFourBytes cs

-- what is written for an expression that has a sort is a body of a definition, which builds no application twice
abbrev pub DefinitionsAreWritten : Type 0
DefinitionsAreWritten = (gaps : Bool) (env : List Declaration) (params dummies : List Binder) (e : Tree)
    → bound_count (params ++ dummies) ≤ 55 → AreDummiesBehind env (length params) (params ++ dummies) → Sorted (signatures env) (params ++ dummies) e
    → TakeFourBytes (definition_written params dummies e).commands
    → IsSharedBody gaps env is_definition params dummies e [] (spelled_body (definition_written params dummies e).commands)

-- for hypotheses and a conclusion one of an axiom
abbrev pub AxiomsAreWritten : Type 0
AxiomsAreWritten = (gaps : Bool) (env : List Declaration) (params dummies : List Binder) (hyps : List Tree) (e : Tree)
    → bound_count (params ++ dummies) ≤ 55 → AreDummiesBehind env (length params) (params ++ dummies)
    → ((k : ℕ) (h : Tree) → slice_get hyps k ≡ Some h → HasProvable env (params ++ dummies) h) → Sorted (signatures env) (params ++ dummies) e
    → TakeFourBytes (axiom_written params dummies hyps e).commands
    → IsSharedBody gaps env is_axiom params dummies e hyps (spelled_body (axiom_written params dummies hyps e).commands)

-- and for a sound proof one of a theorem, which has these hypotheses and what is proved
abbrev pub TheoremsAreWritten : Type 0
TheoremsAreWritten = (gaps : Bool) (env : List Declaration) (params dummies : List Binder) (hyps : List Tree) (p : Proof)
    → bound_count (params ++ dummies) ≤ 55 → AreDummiesBehind env (length params) (params ++ dummies)
    → ((k : ℕ) (e : Tree) → slice_get hyps k ≡ Some e → HasProvable env (params ++ dummies) e)
    → IsSound gaps env (params ++ dummies) hyps [] p → TakeFourBytes (theorem_written env params dummies hyps p).commands
    → IsSharedBody gaps env is_theorem params dummies (proved env hyps [] p) hyps (spelled_body (theorem_written env params dummies hyps p).commands)
