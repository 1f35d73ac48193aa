-- The standard by identity: the run of a body comes to what the machine by identity comes to.
use Rattle.std.proofs.Common.{◌≡◌, ◌∙◌, ℕ, List, Result, Ok, Err, refl, ap}
use Rattle.mz_base.specs.Checks.{AllHold}
use Rattle.mz_cmd.specs.declared.rule.K.{K}
use Rattle.mz_logic_theory.specs.Tree.{Tree}
use Rattle.mz_machine_theory.specs.Profile.{strict}
use Rattle.mz_machine_theory.specs.Steps.{◌>>◌}
use Rattle.mz_machine_theory.specs.MachineState.{RowsBefore, State, Heading}
use Rattle.mz_machine_theory.specs.Bodies.{Runs, body_run, checks_of}
use Rattle.mz_binary_theory.specs.Standards.{checks_by, run_by}
use Rattle.mz_pmachine_theory.specs.NodeIdentity.{Numbered, portable}
use Rattle.mz_pmachine_theory.specs.FilesByIdentity.{passes, portable_standard}
use Rattle.mz_pmachine_theory.specs.Laws.{StandardIsByIdentity}
use Rattle.mz_pmachine_theory.proofs.ByTable.{bodies-strict}

module _ (tables : RowsBefore) (h : Heading) (at : ℕ) (bytes : List ℕ) where
  -- what runs by identity runs by the standard, to a state of the standard machine
  pub runs-by-standard : (last : State Numbered) → body_run portable tables h at bytes ≡ Ok last → (other : State Tree) × (run_by portable_standard tables h at bytes ≡ Ok other)
  runs-by-standard last is =
      let (other, runs) = bodies-strict tables h at bytes (last, is) in
      (other, ap (λ (r : Result (State Numbered) (ℕ × K)). passes r >> body_run strict tables h at bytes) is ∙ runs)

  -- and what stops stops so
  pub stops-by-standard : (f : ℕ × K) → body_run portable tables h at bytes ≡ Err f → run_by portable_standard tables h at bytes ≡ Err f
  stops-by-standard f is = ap (λ (r : Result (State Numbered) (ℕ × K)). passes r >> body_run strict tables h at bytes) is

  held : (r : Result (State Tree) (ℕ × K)) (other : State Tree) → r ≡ Ok other → AllHold (checks_of r)
  held (Ok x) other is = tt
  held (Err f) other is = absurd cc

  pub holds-by-standard : Runs portable tables h at bytes → AllHold (checks_by portable_standard tables h at bytes)
  holds-by-standard (last, is) =
      let (other, runs) = runs-by-standard last is in
      held (run_by portable_standard tables h at bytes) other runs

  pub standard-is : (r : Result (State Numbered) (ℕ × K)) → body_run portable tables h at bytes ≡ r → passes (run_by portable_standard tables h at bytes) ≡ passes r
  standard-is (Ok last) is = let (other, runs) = runs-by-standard last is in ap passes runs
  standard-is (Err f) is = ap passes (stops-by-standard f is)

pub standard-by-identity : StandardIsByIdentity
standard-by-identity tables h at bytes = standard-is tables h at bytes (body_run portable tables h at bytes) refl
