-- Codes of commands.
use Rattle.std.proofs.Common.{◌≡◌, ℕ, false, refl}
use Rattle.mz_cmd.specs.declared.code.ProofCode.TheVariants as code
use Rattle.mz_machine_theory.specs.MachineState.{RowsBefore, State, Kind, is_axiom, is_theorem, is_definition}
use Rattle.mz_machine_theory.specs.Bodies.{row_steps, stands_in}
use Rattle.mz_machine_theory.specs.Profile.{Profile}
use Rattle.mz_pmachine.specs.declared.command.Keeping.{Keeping}
use Rattle.mz_pmachine.specs.declared.command.Keeping.TheVariants as keeping
use Rattle.mz_pmachine.specs.OverNodes.{code_of_keeping}
use Rattle.mz_pmachine_theory.specs.NodeIdentity.{portable}

-- a reference to a conversion by a command of its own stands in no body
pub no_conv_ref : (kind : Kind) → stands_in portable kind code.ConvRef ≡ false
no_conv_ref is_axiom = refl
no_conv_ref is_theorem = refl
no_conv_ref is_definition = refl

-- a command over the heap runs no stream
pub keeping-steps : (P : Profile) (tables : RowsBefore) (k : Keeping) (n : ℕ) (st : State P.T) → row_steps P tables (code_of_keeping k) n st ≡ 0
keeping-steps P tables keeping.Ref n st = refl
keeping-steps P tables keeping.Dummy n st = refl
keeping-steps P tables keeping.Hyp n st = refl
keeping-steps P tables keeping.Save n st = refl
