-- A whole body: its commands one after another, up to its END (the .mmb format, the proof machine).
use Rattle.std.specs.Prelude.{◌≡◌, ℕ, zero, suc, ◌+◌, Bool, true, false, ◌==◌, not, if◌then◌else◌, List, [], ◌∷◌, length, drop, map, Option, Some, None, Result, Ok, Err}
use Rattle.mz_base.specs.Checks.{Checks, nothing, demand}
use Rattle.mz_cmd.specs.declared.rule.K.{K}
use Rattle.mz_cmd.specs.declared.rule.K.TheVariants as k
use Rattle.mz_cmd.specs.declared.command.Cmd.{Cmd}
use Rattle.mz_cmd.specs.declared.command.CmdFault.{CmdFault}
use Rattle.mz_cmd.specs.declared.code.ProofCode.{ProofCode}
use Rattle.mz_cmd.specs.declared.code.ProofCode.TheVariants as code
use Rattle.mz_cmd.specs.Codes.{proof_code}
use Rattle.mz_cmd.specs.Reading.{first_command}
use Rattle.mz_machine_theory.specs.Steps.{◌>>=◌, ◌>>◌, need, at_place, Turn, over, goes_on, follow, goes_to, if_read}
use Rattle.mz_machine_theory.specs.Profile.{Profile, expr}
use Rattle.mz_machine_theory.specs.UnifyMachine.{Matching, is_empty, unify_steps}
use Rattle.mz_machine_theory.specs.MachineState.{RowsBefore, signatures_in, State, Kind, is_axiom, is_theorem, is_definition, Heading}
use Rattle.mz_machine_theory.specs.ProofMachine.{citation, unfolding_of, proof_step, own_variables, ends_with, proof_end}

-- ---- commands of a body

-- the kinds of bodies in which a command stands
abbrev pub in_assertions : Kind → Bool
in_assertions is_theorem = true
in_assertions is_axiom = true
in_assertions is_definition = false

abbrev pub in_theorems : Kind → Bool
in_theorems is_theorem = true
in_theorems is_axiom = false
in_theorems is_definition = false

abbrev pub stands_in : Profile → Kind → ProofCode → Bool
stands_in P kind code.Term = true
stands_in P kind code.TermSave = true
stands_in P kind code.Ref = true
stands_in P kind code.Dummy = true
stands_in P kind code.Save = true
stands_in P kind code.Hyp = in_assertions kind
stands_in P is_theorem code.ConvRef = not P.portable
stands_in P kind code.ConvRef = false
stands_in P kind c = in_theorems kind

-- what the first command of a body is
pub data BodyCommand : Type 0 where
  ends : BodyCommand
  proves : ProofCode → ℕ → BodyCommand

abbrev pub if_allowed : Profile → Kind → ℕ → Option ProofCode → Option BodyCommand
if_allowed P kind value None = None
if_allowed P kind value (Some c) = if stands_in P kind c then Some (proves c value) else None

abbrev pub body_command : Profile → Kind → ℕ → ℕ → Option BodyCommand
body_command P kind byte value = if byte == 0x00 then Some ends else if_allowed P kind value (proof_code byte)

-- ---- the run

-- the command at a place, of this length, before the rest of the body: its row, or the END that ends it
abbrev pub body_turn_by : (P : Profile) → RowsBefore → Heading → ℕ → ℕ → List ℕ → State P.T → Option BodyCommand → Result (Turn (State P.T)) K
body_turn_by P tables h at len rest st None = Err k.Command
body_turn_by P tables h at len rest st (Some ends) = need (is_empty rest) k.StatementLength >> proof_end P tables h st >>= λ s. Ok (over s)
body_turn_by P tables h at len rest st (Some (proves c value)) = proof_step P tables at c value st >>= λ s. Ok (goes_on len s)

abbrev pub body_turn : (P : Profile) → RowsBefore → Heading → ℕ → List ℕ → State P.T → Result Cmd CmdFault → Result (Turn (State P.T)) K
body_turn P tables h at bytes st (Err _) = Err k.Command
body_turn P tables h at bytes st (Ok c) = body_turn_by P tables h at c.len (drop c.len bytes) st (body_command P h.kind c.code c.value)

-- Runs what is left of a body from a place on: n bounds its commands, of which each takes a byte.
unfoldable pub body_from : (P : Profile) → RowsBefore → Heading → ℕ → ℕ → List ℕ → State P.T → Result (State P.T) (ℕ × K)
body_from P tables h zero at bytes st = Err (at, k.Command)
body_from P tables h (suc n) at bytes st =
    follow (at_place at (body_turn P tables h at bytes st (first_command bytes)))
    (λ len s. body_from P tables h n (at + len) (drop len bytes) s)

-- at first the parameters are in the heap
abbrev pub body_start : (P : Profile) → Heading → State P.T
body_start P h = record { ctx = h.params; heap = map expr (own_variables P 0 h.params); stack = []; hyps = [] }

abbrev pub body_run : (P : Profile) → RowsBefore → Heading → ℕ → List ℕ → Result (State P.T) (ℕ × K)
body_run P tables h at bytes = body_from P tables h (length bytes) at bytes (body_start P h)

-- the body, whose bytes begin at a place, runs to its END
abbrev pub Runs : Profile → RowsBefore → Heading → ℕ → List ℕ → Type 0
Runs P tables h at bytes = (last : State P.T) × (body_run P tables h at bytes ≡ Ok last)

-- or a rule fails at the place of a command, all before it having run
abbrev pub Stops : Profile → RowsBefore → Heading → ℕ → List ℕ → ℕ → K → Type 0
Stops P tables h at bytes place rule = body_run P tables h at bytes ≡ Err (place, rule)

-- what a run asks: nothing fails where it is through, and else its rule at its place
abbrev pub checks_of : {A R : Type 0} → Result A R → Checks R
checks_of (Ok x) = nothing
checks_of (Err r) = demand r ⊥

-- the body as ordered checks
abbrev pub body_checks : Profile → RowsBefore → Heading → ℕ → List ℕ → Checks (ℕ × K)
body_checks P tables h at bytes = checks_of (body_run P tables h at bytes)

-- ---- the steps of a run

-- the commands executed by what is matched, if it comes to that
abbrev pub match_steps : (P : Profile) → RowsBefore → State P.T → Result (Matching P.T) K → ℕ
match_steps P tables st (Err f) = 0
match_steps P tables st (Ok m) = unify_steps P (signatures_in tables) st.ctx m

abbrev pub fst_of : {A B C : Type 0} → Result (A × B × C) K → Result A K
fst_of r = r >>= λ p. Ok p.0

-- the unify commands executed in the row of a command
abbrev pub row_steps : (P : Profile) → RowsBefore → ProofCode → ℕ → State P.T → ℕ
row_steps P tables code.Thm t st = match_steps P tables st (citation P tables t st)
row_steps P tables code.ThmSave t st = match_steps P tables st (citation P tables t st)
row_steps P tables code.Unfold t st = match_steps P tables st (fst_of (unfolding_of P tables st))
row_steps P tables c t st = 0

-- A command that is read is executed, one of another kind of body too; but an END that doesn't end the
-- statement isn't.
abbrev pub command_steps : (P : Profile) → RowsBefore → Heading → List ℕ → State P.T → Option BodyCommand → ℕ
command_steps P tables h rest st None = 1
command_steps P tables h rest st (Some (proves c value)) = suc (row_steps P tables c value st)
command_steps P tables h [] st (Some ends) = suc (match_steps P tables st (ends_with P tables h st))
command_steps P tables h (b ∷ bs) st (Some ends) = 0

unfoldable pub body_steps_from : (P : Profile) → RowsBefore → Heading → ℕ → ℕ → List ℕ → State P.T → ℕ
body_steps_from P tables h zero at bytes st = 0
body_steps_from P tables h (suc n) at bytes st =
    if_read (first_command bytes) (λ c.
    command_steps P tables h (drop c.len bytes) st (body_command P h.kind c.code c.value)
    + goes_to (body_turn P tables h at bytes st (Ok c)) (λ len s. body_steps_from P tables h n (at + len) (drop len bytes) s))

-- the proof and unify commands executed in a body
abbrev pub body_steps : (P : Profile) → RowsBefore → Heading → ℕ → List ℕ → ℕ
body_steps P tables h at bytes = body_steps_from P tables h (length bytes) at bytes (body_start P h)
