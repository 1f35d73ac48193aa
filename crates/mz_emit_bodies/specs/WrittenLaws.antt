-- What is promised of the bodies that are written, as functions of what they are written of: what they use, how long they
-- are, and that their operands take four bytes at most (this project's own promises; the commands are the .mmb format's).
use Rattle.std.specs.Prelude.{ℕ, ◌≡◌, ◌≤◌, ◌+◌, ◌*◌, ◌^◌, Bool, List, [], ◌++◌, length, slice_get, Some}
use Rattle.mz_logic_theory.specs.Tree.{Tree, Trees, listed, size, trees_size}
use Rattle.mz_logic_theory.specs.Declaration.{Declaration, signatures, assertions}
use Rattle.mz_logic_theory.specs.Sorts.{HasProvable}
use Rattle.mz_logic_theory.specs.declared.binder.Binder.{Binder}
use Rattle.mz_machine_theory.specs.Sorted.{Sorted}
use Rattle.mz_machine_theory.specs.MachineState.{is_theorem}
use Rattle.mz_machine_theory.specs.Premises.{bound_count}
use Rattle.mz_mmu_theory.specs.Proof.{Proof}
use Rattle.mz_emit_theory.specs.Claims.{proved, IsSound}
use Rattle.mz_emit_theory.specs.Endings.{spelled_body}
use Rattle.mz_emit_theory.specs.StreamLaws.{IsSmall}
use Rattle.mz_emit_theory.specs.Uses.{Use, uses, commands_use, IsBodyUsing}
use Rattle.mz_emit_theory.specs.Weights.{proof_weight}
use Rattle.mz_emit_theory.specs.BodyWriting.{definition_written, axiom_written, theorem_written}
use Rattle.mz_emit_bodies.specs.Laws.{AreDummiesBehind, TakeFourBytes}

-- ---- what is used

-- the commands of a theorem's body use just what its proof uses: the assertions that it cites, and a gap where it has
-- one, in lets that are named alone
abbrev pub TheoremsUseWhatProofsUse : Type 0
TheoremsUseWhatProofsUse = (u : Use) (env : List Declaration) (params dummies : List Binder) (hyps : List Tree) (p : Proof)
    → commands_use u (theorem_written env params dummies hyps p).commands ≡ uses u [] p

-- so what is written for a sound proof is a body of its theorem that uses what the proof does
abbrev pub TheoremBodiesUse : Type 0
TheoremBodiesUse = (gaps : Bool) (env : List Declaration) (params dummies : List Binder) (hyps : List Tree) (p : Proof)
    → bound_count (params ++ dummies) ≤ 55 → AreDummiesBehind env (length params) (params ++ dummies)
    → ((k : ℕ) (e : Tree) → slice_get hyps k ≡ Some e → HasProvable env (params ++ dummies) e)
    → IsSound gaps env (params ++ dummies) hyps [] p → TakeFourBytes (theorem_written env params dummies hyps p).commands
    → IsBodyUsing gaps env is_theorem params dummies (proved env hyps [] p) hyps (spelled_body (theorem_written env params dummies hyps p).commands) (λ u. uses u [] p)

-- ---- how long they are

-- a body has at most six bytes for each node of what it makes and for each unit of its proof's weight, and the one of END
abbrev pub DefinitionsAreShort : Type 0
DefinitionsAreShort = (params dummies : List Binder) (e : Tree) → length (spelled_body (definition_written params dummies e).commands) ≤ 6 * size e + 1

abbrev pub AxiomsAreShort : Type 0
AxiomsAreShort = (params dummies : List Binder) (hyps : Trees) (e : Tree)
    → length (spelled_body (axiom_written params dummies (listed hyps) e).commands) ≤ 6 * (trees_size hyps + size e) + 1

abbrev pub TheoremsAreShort : Type 0
TheoremsAreShort = (env : List Declaration) (params dummies : List Binder) (hyps : Trees) (p : Proof)
    → length (spelled_body (theorem_written env params dummies (listed hyps) p).commands) ≤ 6 * (trees_size hyps + proof_weight env p) + 1

-- ---- operands of four bytes

-- where the tables are of the format's size and the text isn't too heavy, the operands take four bytes at most: those of
-- what is written for an expression that has a sort
abbrev pub DefinitionsTakeFourBytes : Type 0
DefinitionsTakeFourBytes = (env : List Declaration) (params dummies : List Binder) (e : Tree)
    → IsSmall (signatures env) (params ++ dummies) → length (assertions env) ≤ 2 ^ 32
    → AreDummiesBehind env (length params) (params ++ dummies) → Sorted (signatures env) (params ++ dummies) e
    → length params + 6 * size e ≤ 2 ^ 32 → TakeFourBytes (definition_written params dummies e).commands

-- for hypotheses and a conclusion
abbrev pub AxiomsTakeFourBytes : Type 0
AxiomsTakeFourBytes = (env : List Declaration) (params dummies : List Binder) (hyps : Trees) (e : Tree)
    → IsSmall (signatures env) (params ++ dummies) → length (assertions env) ≤ 2 ^ 32
    → AreDummiesBehind env (length params) (params ++ dummies)
    → ((k : ℕ) (h : Tree) → slice_get (listed hyps) k ≡ Some h → HasProvable env (params ++ dummies) h) → Sorted (signatures env) (params ++ dummies) e
    → length params + 6 * (trees_size hyps + size e) ≤ 2 ^ 32 → TakeFourBytes (axiom_written params dummies (listed hyps) e).commands

-- and for a sound proof
abbrev pub TheoremsTakeFourBytes : Type 0
TheoremsTakeFourBytes = (gaps : Bool) (env : List Declaration) (params dummies : List Binder) (hyps : Trees) (p : Proof)
    → IsSmall (signatures env) (params ++ dummies) → length (assertions env) ≤ 2 ^ 32
    → AreDummiesBehind env (length params) (params ++ dummies)
    → ((k : ℕ) (h : Tree) → slice_get (listed hyps) k ≡ Some h → HasProvable env (params ++ dummies) h)
    → IsSound gaps env (params ++ dummies) (listed hyps) [] p
    → length params + 6 * (trees_size hyps + proof_weight env p) ≤ 2 ^ 32 → TakeFourBytes (theorem_written env params dummies (listed hyps) p).commands
