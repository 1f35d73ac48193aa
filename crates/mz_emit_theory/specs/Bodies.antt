-- A statement's body: commands, in their bytes, that make what the statement says (the .mmb format, on proof streams).
use Rattle.std.specs.Prelude.{◌≡◌, ◌≤◌, ◌++◌, ℕ, Bool, List, [], ◌∷◌}
use Rattle.mz_cmd.specs.declared.code.ProofCode.{ProofCode}
use Rattle.mz_logic_theory.specs.Tree.{Tree}
use Rattle.mz_logic_theory.specs.Declaration.{Declaration}
use Rattle.mz_logic_theory.specs.declared.binder.Binder.{Binder}
use Rattle.mz_machine_theory.specs.Profile.{plain, Item, expr, proof}
use Rattle.mz_machine_theory.specs.Premises.{bound_count}
use Rattle.mz_machine_theory.specs.MachineState.{Kind, is_axiom, is_theorem, is_definition}
use Rattle.mz_emit_theory.specs.Endings.{spelled_body, MayStand}
use Rattle.mz_emit_theory.specs.Steps.{Steps}
use Rattle.mz_emit_theory.specs.SymbolicState.{Work, work_start}

-- what stands on the stack in the end, by the body's kind
abbrev pub last_item : Kind → Tree → Item Tree
last_item is_theorem e = proof e
last_item is_axiom e = expr e
last_item is_definition e = expr e

-- the bytes are commands, in their shortest spellings, whose steps over the parameters and these dummies leave e and
-- these hypotheses; gaps are let through or not
pub record IsBody (gaps : Bool) (env : List Declaration) (kind : Kind) (params dummies : List Binder) (e : Tree) (hyps : List Tree) (bytes : List ℕ) : Type 0 where
  pub few : bound_count (params ++ dummies) ≤ 55
  pub commands : List (ProofCode × ℕ)
  pub work : Work
  pub spelled : bytes ≡ spelled_body commands
  pub may_stand : MayStand (plain gaps) kind commands
  pub steps : Steps gaps env (params ++ dummies) (work_start params) commands work
  pub stack : work.stack ≡ last_item kind e ∷ []
  pub assumed : work.hyps ≡ hyps
