-- Legal theorems have bodies that run: the laws together.
use Rattle.std.proofs.Common.{◌≡◌, List, [], ◌++◌, length, ◌≤◌, Ok, sym, ap, subst, ◌∙◌}
use Rattle.mz_logic_theory.specs.Tree.{Tree, Trees}
use Rattle.mz_logic_theory.specs.Declaration.{sorts, signatures}
use Rattle.mz_logic_theory.specs.Legality.{AreParams}
use Rattle.mz_logic_theory.specs.declared.binder.Binder.{Binder}
use Rattle.mz_logic_theory.proofs.Offered.{assertions_are_sorted}
use Rattle.mz_machine_theory.specs.Streams.{of_assertion}
use Rattle.mz_machine_theory.specs.Spells.{trees_of, Text}
use Rattle.mz_machine_theory.proofs.Offered.{trees_of-listed}
use Rattle.mz_machine_theory.specs.MachineState.{State, Kind}
use Rattle.mz_machine_theory.specs.Premises.{bound_count}
use Rattle.mz_emit_theory.specs.SymbolicState.{work_start, machine}
use Rattle.mz_emit_theory.specs.Steps.{Steps, run_commands}
use Rattle.mz_machine_theory.specs.Profile.{plain}
use Rattle.mz_emit_theory.specs.Endings.{IsEnding, Ends}
use Rattle.mz_emit_theory.specs.BodyLaws.{DependOnFirst}
use Rattle.mz_emit_theory.specs.Completeness.{LegalTheoremsRun}
use Rattle.mz_emit_theory.proofs.Running.{steps-run}
use Rattle.mz_emit_theory.proofs.Ending.{ends-end}
use Rattle.mz_emit_theory.proofs.Starting.{start-right, start-machine}
use Rattle.mz_emit_theory.proofs.Joining.{contexts-depend}
use Rattle.mz_emit_theory.proofs.Reaching.{theorems-have-steps}

pub theorems-run : LegalTheoremsRun
theorems-run gaps tables env env' declares same legal a is-legal dummies are-dummies few d allowed derives h kind-is params-are text at =
    let ps : List Binder = h.params in
    let ctx : List Binder = ps ++ dummies in
    let (cs, w, steps, stack, hyps) = theorems-have-steps gaps env legal a is-legal dummies are-dummies d allowed derives in
    let (_, params-right, _, _) = (assertions_are_sorted env a).0 is-legal in
    let first : DependOnFirst (length ps) ctx = contexts-depend (sorts env) ps dummies (subst (AreParams (sorts env)) (sym params-are) params-right) (λ k b b-at. (are-dummies k b b-at).0.1) in
    let steps' : Steps gaps env ctx (work_start ps) cs w = subst (λ (z : List Binder). Steps gaps env (z ++ dummies) (work_start z) cs w) (sym params-are) steps in
    let text' : Text of_assertion (signatures env) ps h.stream (trees_of w.hyps) a.conclusion [] =
    subst (λ (z : List Binder). Text of_assertion (signatures env) z h.stream (trees_of w.hyps) a.conclusion []) (sym params-are)
    (subst (λ (z : Trees). Text of_assertion (signatures env) a.params h.stream z a.conclusion []) (sym (ap trees_of hyps ∙ trees_of-listed a.hyps)) text) in
    let ends : Ends env ctx h w = (a.conclusion, subst (λ (z : Kind). IsEnding env ctx h w z a.conclusion) (sym kind-is) (stack, text')) in
    let (ran, right) = steps-run gaps tables env env' declares same (length ps) ctx first (subst (λ (z : List Binder). bound_count (z ++ dummies) ≤ 55) (sym params-are) few) at cs (work_start ps) w (start-right (signatures env) ps dummies) steps' in (
      cs,
      machine ctx w,
      subst (λ (z : State Tree). run_commands (plain gaps) tables at cs z ≡ Ok (machine ctx w)) (start-machine h dummies) ran,
      ends-end gaps tables env env' declares same h dummies first w right ends,
    )
