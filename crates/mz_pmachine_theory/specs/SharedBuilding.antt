-- What a body makes, and bodies that make each application once: these run by identity (this project's own; the commands
-- are the .mmb format's).
use Rattle.std.specs.Prelude.{◌≡◌, ℕ, zero, suc, ◌+◌, ⊤, true, List, [], ◌∷◌, ◌++◌, length, drop, Option, Some, None, Result, Ok, Err, slice_get}
use Rattle.mz_cmd.specs.declared.rule.K.{K}
use Rattle.mz_cmd.specs.declared.command.Cmd.{Cmd}
use Rattle.mz_cmd.specs.declared.command.CmdFault.{CmdFault}
use Rattle.mz_cmd.specs.declared.code.ProofCode.{ProofCode}
use Rattle.mz_cmd.specs.declared.code.ProofCode.TheVariants as code
use Rattle.mz_cmd.specs.Reading.{first_command}
use Rattle.mz_logic_theory.specs.Tree.{Tree, Trees, var, app, none, more}
use Rattle.mz_machine_theory.specs.Steps.{Turn, over, goes_on}
use Rattle.mz_machine_theory.specs.Profile.{Profile, strict}
use Rattle.mz_machine_theory.specs.MachineState.{RowsBefore, State, Heading}
use Rattle.mz_machine_theory.specs.ProofMachine.{built}
use Rattle.mz_machine_theory.specs.Bodies.{BodyCommand, ends, proves, body_command, body_turn, body_start}
use Rattle.mz_pmachine_theory.specs.NodeIdentity.{Numbered, Operands, a_variable, an_application, no_more, one_more}

-- The standard machine with all that the machine by identity asks beyond it but the numbers: Unfold has its three items, a
-- conversion is referred to by Ref, and a dummy is kept apart from what is saved.
abbrev pub portable_trees : Profile
portable_trees = record strict { portable = true }

-- ---- what is made

-- each with the place of its command
abbrev pub made_of : {T U : Type 0} → ℕ → Result (T × U) K → List (ℕ × T)
made_of at (Ok p) = (at, p.0) ∷ []
made_of at (Err rule) = []

-- in the row of a command, before it
abbrev pub row_makes : (P : Profile) → RowsBefore → ℕ → ProofCode → ℕ → State P.T → List (ℕ × P.T)
row_makes P tables at code.Term t st = made_of at (built P tables at t st)
row_makes P tables at code.TermSave t st = made_of at (built P tables at t st)
row_makes P tables at c t st = []

abbrev pub command_makes : (P : Profile) → RowsBefore → ℕ → State P.T → Option BodyCommand → List (ℕ × P.T)
command_makes P tables at st None = []
command_makes P tables at st (Some ends) = []
command_makes P tables at st (Some (proves c value)) = row_makes P tables at c value st

abbrev pub first_makes : (P : Profile) → RowsBefore → Heading → ℕ → State P.T → Result Cmd CmdFault → List (ℕ × P.T)
first_makes P tables h at st (Err f) = []
first_makes P tables h at st (Ok c) = command_makes P tables at st (body_command P h.kind c.code c.value)

-- what comes after a turn that goes on
abbrev pub and_then : {S A F : Type 0} → Result (Turn S) F → (ℕ → S → List A) → List A
and_then (Err f) rest = []
and_then (Ok (over s)) rest = []
and_then (Ok (goes_on len s)) rest = rest len s

-- in what is left of a body, as far as it runs
unfoldable pub makes_from : (P : Profile) → RowsBefore → Heading → ℕ → ℕ → List ℕ → State P.T → List (ℕ × P.T)
makes_from P tables h zero at bytes st = []
makes_from P tables h (suc n) at bytes st =
    first_makes P tables h at st (first_command bytes)
    ++ and_then (body_turn P tables h at bytes st (first_command bytes)) (λ len s. makes_from P tables h n (at + len) (drop len bytes) s)

abbrev pub body_makes : (P : Profile) → RowsBefore → Heading → ℕ → List ℕ → List (ℕ × P.T)
body_makes P tables h at bytes = makes_from P tables h (length bytes) at bytes (body_start P h)

-- no application is made by two commands
abbrev pub MadeOnce : List (ℕ × Tree) → Type 0
MadeOnce made = (i j p q : ℕ) (e : Tree) → slice_get made i ≡ Some (p, e) → slice_get made j ≡ Some (q, e) → p ≡ q

-- ---- numbers

-- the expression in which each application has the number that g gives it
abbrev mutual
  pub numbered : (Tree → ℕ) → Tree → Numbered
  numbered g (var x) = a_variable x
  numbered g (app t es) = an_application (g (app t es)) t (all_numbered g es)

  pub all_numbered : (Tree → ℕ) → Trees → Operands
  all_numbered g none = no_more
  all_numbered g (more e es) = one_more (numbered g e) (all_numbered g es)

-- g gives each application the place at which it was made
abbrev pub AreNumbered : (Tree → ℕ) → List (ℕ × Tree) → Type 0
AreNumbered g [] = ⊤
AreNumbered g (m ∷ made) = (g m.1 ≡ m.0) × AreNumbered g made
