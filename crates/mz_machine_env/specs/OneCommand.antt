-- One command of a body, in any machine (the .mmb format, the proof machine).
use Rattle.std.specs.Prelude.{ℕ, suc, Option, Some, None, Result, Err}
use Rattle.mz_cmd.specs.declared.rule.K.{K}
use Rattle.mz_cmd.specs.declared.rule.K.TheVariants as k
use Rattle.mz_machine_theory.specs.Profile.{Profile}
use Rattle.mz_machine_theory.specs.MachineState.{RowsBefore, State}
use Rattle.mz_machine_theory.specs.ProofMachine.{proof_step}
use Rattle.mz_machine_theory.specs.Bodies.{BodyCommand, ends, proves, row_steps}

-- the row of a command other than END; one that is not of this body has none
abbrev pub row_in : (P : Profile) → RowsBefore → ℕ → State P.T → Option BodyCommand → Result (State P.T) K
row_in P tables at st None = Err k.Command
row_in P tables at st (Some ends) = Err k.Command
row_in P tables at st (Some (proves c value)) = proof_step P tables at c value st

-- it and the unify commands that it executes
abbrev pub steps_in : (P : Profile) → RowsBefore → State P.T → Option BodyCommand → ℕ
steps_in P tables st None = 1
steps_in P tables st (Some ends) = 1
steps_in P tables st (Some (proves c value)) = suc (row_steps P tables c value st)
