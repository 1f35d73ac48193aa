-- A body whose steps make what its row spells runs, in its bytes.
use Rattle.std.proofs.Common.{◌≡◌, Bool, List, ◌++◌, length, Ok, subst}
use Rattle.mz_logic_theory.specs.Tree.{Tree}
use Rattle.mz_logic_theory.specs.Declaration.{signatures}
use Rattle.mz_logic_theory.specs.declared.binder.Binder.{Binder}
use Rattle.mz_machine_theory.specs.MachineState.{State}
use Rattle.mz_emit_theory.specs.SymbolicState.{work_start, machine}
use Rattle.mz_emit_theory.specs.Steps.{run_commands}
use Rattle.mz_machine_theory.specs.Profile.{plain}
use Rattle.mz_emit_theory.specs.BodyLaws.{RightBodiesRun}
use Rattle.mz_emit_theory.proofs.Running.{steps-run}
use Rattle.mz_emit_theory.proofs.Ending.{ends-end}
use Rattle.mz_emit_theory.proofs.Bytes.{body-from-run}
use Rattle.mz_emit_theory.proofs.Starting.{start-right, start-machine}

pub bodies-run : (gaps : Bool) → RightBodiesRun gaps
bodies-run gaps tables env env' declares same h dummies first few at cs w stand steps ends =
    let ctx : List Binder = h.params ++ dummies in
    let (ran, right) = steps-run gaps tables env env' declares same (length h.params) ctx first few at cs (work_start h.params) w (start-right (signatures env) h.params dummies) steps in (
      machine ctx w,
      body-from-run (plain gaps) tables h at cs (machine ctx w) stand (subst (λ (z : State Tree). run_commands (plain gaps) tables at cs z ≡ Ok (machine ctx w)) (start-machine h dummies) ran)
          (ends-end gaps tables env env' declares same h dummies first w right ends),
    )
