-- What is promised of right steps.
use Rattle.std.specs.Prelude.{◌≡◌, ℕ, Bool, ◌<◌, ◌≤◌, ⊤, List, [], ◌∷◌, ◌++◌, length, slice_get, Contains, Some, Ok}
use Rattle.mz_cmd.specs.declared.code.ProofCode.{ProofCode}
use Rattle.mz_logic_theory.specs.Tree.{Tree}
use Rattle.mz_logic_theory.specs.Signature.{Signature}
use Rattle.mz_logic_theory.specs.Declaration.{Declaration, signatures}
use Rattle.mz_logic_theory.specs.Variables.{Occurs}
use Rattle.mz_logic_theory.specs.declared.binder.Binder.{Binder}
use Rattle.mz_machine_theory.specs.Sorted.{Sorted}
use Rattle.mz_machine_theory.specs.Profile.{plain, Profile, Item, expr, proof, obligation, conversion}
use Rattle.mz_machine_theory.specs.MachineState.{RowsBefore, State, Heading, Declares}
use Rattle.mz_machine_theory.specs.Premises.{bound_count}
use Rattle.mz_machine_theory.specs.ProofMachine.{proof_end}
use Rattle.mz_machine_theory.specs.Bodies.{body_start, body_run, Runs}
use Rattle.mz_emit_theory.specs.SymbolicState.{Work, work_start, machine, name_in}
use Rattle.mz_emit_theory.specs.Steps.{Steps, run_commands}
use Rattle.mz_emit_theory.specs.AlphaEquivalence.{IsSameEnv}
use Rattle.mz_emit_theory.specs.Endings.{Ends, spelled_body, MayStand}

-- the expression has a sort, and its variables are met
abbrev pub IsRightTree : List Signature → List Binder → List ℕ → Tree → Type 0
IsRightTree sigs ctx met e = Sorted sigs ctx e × ((y : ℕ) → Occurs y e → Contains met y)

abbrev pub IsRightItem : List Signature → List Binder → List ℕ → Item Tree → Type 0
IsRightItem sigs ctx met (expr e) = IsRightTree sigs ctx met e
IsRightItem sigs ctx met (proof e) = IsRightTree sigs ctx met e
IsRightItem sigs ctx met (obligation l r) = IsRightTree sigs ctx met l × IsRightTree sigs ctx met r
IsRightItem sigs ctx met (conversion l r) = IsRightTree sigs ctx met l × IsRightTree sigs ctx met r

abbrev pub AreRightItems : List Signature → List Binder → List ℕ → List (Item Tree) → Type 0
AreRightItems sigs ctx met [] = ⊤
AreRightItems sigs ctx met (x ∷ xs) = IsRightItem sigs ctx met x × AreRightItems sigs ctx met xs

abbrev pub AreRightTrees : List Signature → List Binder → List ℕ → List Tree → Type 0
AreRightTrees sigs ctx met [] = ⊤
AreRightTrees sigs ctx met (e ∷ es) = IsRightTree sigs ctx met e × AreRightTrees sigs ctx met es

-- the first n variables are met, under their own names
abbrev pub OwnNames : ℕ → List ℕ → Type 0
OwnNames n met = (x : ℕ) → x < n → Contains met x × (name_in met x ≡ x)

-- variables of the context depend on the first n alone
abbrev pub DependOnFirst : ℕ → List Binder → Type 0
DependOnFirst n ctx = (y : ℕ) (b : Binder) (z : ℕ) → slice_get ctx y ≡ Some b → Contains b.deps z → z < n

-- no variable is met twice
abbrev pub AreOnce : List ℕ → Type 0
AreOnce [] = ⊤
AreOnce (x ∷ xs) = (Contains xs x → ⊥) × AreOnce xs

-- all that is made is right, and the n parameters keep their names
pub record IsRight (sigs : List Signature) (n : ℕ) (ctx : List Binder) (w : Work) : Type 0 where
  pub own : OwnNames n w.met
  pub once : AreOnce w.met
  pub inside : (x : ℕ) → Contains w.met x → x < length ctx
  pub heap : AreRightItems sigs ctx w.met w.heap
  pub stack : AreRightItems sigs ctx w.met w.stack
  pub hyps : AreRightTrees sigs ctx w.met w.hyps

-- right steps run, and what they make is right
abbrev pub RightStepsRun : Bool → Type 0
RightStepsRun gaps = (tables : RowsBefore) (env env' : List Declaration) → Declares tables env' → IsSameEnv env env'
    → (n : ℕ) (ctx : List Binder) → DependOnFirst n ctx → bound_count ctx ≤ 55
    → (at : ℕ) (cs : List (ProofCode × ℕ)) (w w' : Work) → IsRight (signatures env) n ctx w → Steps gaps env ctx w cs w'
    → (run_commands (plain gaps) tables at cs (machine ctx w) ≡ Ok (machine ctx w')) × IsRight (signatures env) n ctx w'

-- where the steps have made what the row spells, the END is good
abbrev pub RightEndsEnd : Bool → Type 0
RightEndsEnd gaps = (tables : RowsBefore) (env env' : List Declaration) → Declares tables env' → IsSameEnv env env'
    → (h : Heading) (dummies : List Binder) → DependOnFirst (length h.params) (h.params ++ dummies)
    → (w : Work) → IsRight (signatures env) (length h.params) (h.params ++ dummies) w → Ends env (h.params ++ dummies) h w
    → proof_end (plain gaps) tables h (machine (h.params ++ dummies) w) ≡ Ok (machine (h.params ++ dummies) w)

-- the bytes of commands run as the commands do
abbrev pub BodiesRunAsCommands : Profile → Type 0
BodiesRunAsCommands P = (tables : RowsBefore) (h : Heading) (at : ℕ) (cs : List (ProofCode × ℕ)) (last : State P.T) → MayStand P h.kind cs
    → run_commands P tables at cs (body_start P h) ≡ Ok last → proof_end P tables h last ≡ Ok last → body_run P tables h at (spelled_body cs) ≡ Ok last

-- a body whose steps, from the parameters on, make what its row spells runs
abbrev pub RightBodiesRun : Bool → Type 0
RightBodiesRun gaps = (tables : RowsBefore) (env env' : List Declaration) → Declares tables env' → IsSameEnv env env'
    → (h : Heading) (dummies : List Binder) → DependOnFirst (length h.params) (h.params ++ dummies) → bound_count (h.params ++ dummies) ≤ 55
    → (at : ℕ) (cs : List (ProofCode × ℕ)) (w : Work) → MayStand (plain gaps) h.kind cs
    → Steps gaps env (h.params ++ dummies) (work_start h.params) cs w → Ends env (h.params ++ dummies) h w → Runs (plain gaps) tables h at (spelled_body cs)
