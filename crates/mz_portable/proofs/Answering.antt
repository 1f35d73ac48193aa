-- What the run of a body comes to, on the machine by identity.
use Rattle.std.proofs.Common.{◌≡◌, ℕ, true, false, List}
use Rattle.mz_machine_theory.specs.Bodies.{body_run}
use Rattle.mz_machine_theory.specs.MachineState.{RowsBefore, Heading}
use Rattle.mz_machine.specs.declared.body.BodyChecked.{BodyChecked}
use Rattle.mz_machine.specs.declared.body.BodyChecked.TheVariants.{Good, Refused, Mem}
use Rattle.mz_binary_theory.specs.Standards.{run_by}
use Rattle.mz_pmachine_theory.specs.NodeIdentity.{portable}
use Rattle.mz_pmachine_theory.specs.FilesByIdentity.{portable_standard}
use Rattle.mz_pmachine_theory.proofs.Offered.{runs-by-standard, stops-by-standard}
use Rattle.mz_pmachine.specs.BodyAnswers.{IsBodyRun as IsRunByIdentity}
use Rattle.mz_binary.specs.BodyRuns.{IsBodyRun}

module _ (tables : RowsBefore) (h : Heading) (at : ℕ) (bytes : List ℕ) where
  pub by-identity : (b : BodyChecked) → IsRunByIdentity h (body_run portable tables h at bytes) b → IsBodyRun portable_standard bytes (run_by portable_standard tables h at bytes) b
  by-identity (Good end) (last, is, counts) =
      let (other, runs) = runs-by-standard tables h at bytes last is in
      (other, runs, λ lets. absurd (let bad : false ≡ true = lets in cc))
  by-identity (Refused at' rule) is = stops-by-standard tables h at bytes (at', rule) is
  by-identity Mem is = tt
