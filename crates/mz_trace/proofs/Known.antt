-- What is known of a stage is known of the next one, and before the first command.
use Rattle.std.proofs.Common.{◌≡◌, ℕ, false, List, Ok, sym, subst}
use Rattle.mz_cmd.specs.declared.code.ProofCode.{ProofCode}
use Rattle.mz_logic_theory.specs.Tree.{Tree}
use Rattle.mz_logic_theory.specs.declared.binder.Binder.{Binder}
use Rattle.mz_machine_theory.specs.Profile.{strict}
use Rattle.mz_machine_theory.specs.MachineState.{RowsBefore, State, Heading}
use Rattle.mz_machine_theory.specs.Bodies.{body_start}
use Rattle.mz_machine_theory.specs.ProofMachine.{proof_step}
use Rattle.mz_machine_theory.specs.Invariant.{Fact}
use Rattle.mz_machine_theory.proofs.Offered.{keeps, start-fact}
use Rattle.mz_trace.specs.Commands.{Stage, state_of, anything, IsKnown}

pub known-kept : (tables : RowsBefore) (params : List Binder) (c : ProofCode) (n : ℕ) (s s' : Stage) → IsKnown tables params s
    → proof_step strict tables 0 c n (state_of params s) ≡ Ok (state_of params s') → IsKnown tables params s'
known-kept tables params c n s s' known row env declares full front' =
    let (front, keep) = keeps anything tables env declares params full false 0 c n (state_of params s) (state_of params s') ((λ is there. tt), λ is on. tt) row front' in
    keep (known env declares full front)

pub known-start : (tables : RowsBefore) (h : Heading) (s : Stage) → state_of h.params s ≡ body_start strict h → IsKnown tables h.params s
known-start tables h s is env declares full front =
    subst (λ (st : State Tree). Fact anything env h.params full st) (sym is) (start-fact false tables h anything env declares full)
