-- Beside a body that runs something is made, command by command.
use Rattle.std.proofs.Common.{◌≡◌, ℕ, zero, suc, ◌+◌, List, [], ◌∷◌, drop, map, Option, Some, None, Result, Ok, Err, refl, sym, ap, subst, ◌∙◌}
use Rattle.mz_cmd.specs.declared.rule.K.{K}
use Rattle.mz_cmd.specs.declared.rule.K.TheVariants as k
use Rattle.mz_cmd.specs.declared.command.Cmd.{Cmd}
use Rattle.mz_cmd.specs.declared.command.CmdFault.{CmdFault}
use Rattle.mz_cmd.specs.declared.code.ProofCode.{ProofCode}
use Rattle.mz_cmd.specs.declared.code.ProofCode.TheVariants as code
use Rattle.mz_cmd.specs.Reading.{first_command}
use Rattle.mz_logic_theory.specs.Tree.{Tree}
use Rattle.mz_logic_theory.specs.declared.binder.Binder.{Binder}
use Rattle.mz_mmu_theory.specs.Proof.{Proof}
use Rattle.mz_machine_theory.specs.Steps.{◌>>◌, need, at_place, Turn, over, goes_on, follow}
use Rattle.mz_machine_theory.specs.Profile.{strict, expr}
use Rattle.mz_machine_theory.specs.UnifyMachine.{is_empty}
use Rattle.mz_machine_theory.proofs.Offered.{from_bind, from_need, place-ok, taken, taken-is, from_follow}
use Rattle.mz_machine_theory.specs.MachineState.{RowsBefore, State, Heading, Pairwise}
use Rattle.mz_machine_theory.specs.ProofMachine.{built, proof_step, own_variables, ends_with, matched_by, proof_end}
use Rattle.mz_machine_theory.specs.Bodies.{BodyCommand, ends, proves, body_command, body_turn_by, body_turn, body_from}
use Rattle.mz_trace.specs.OneHoleContexts.{expression}
use Rattle.mz_trace.specs.Traces.{Trace, traced, trace_turn, trace_command, trace_from}
use Rattle.mz_trace.proofs.Following.{to_bind}
use Rattle.mz_trace.proofs.Standing.{Asked, EachIs, Is}

-- over trees a row is the same at each place
row-anywhere : (tables : RowsBefore) (at : ℕ) (c : ProofCode) (n : ℕ) (st : State Tree) → proof_step strict tables 0 c n st ≡ proof_step strict tables at c n st
unfolding proof_step built
row-anywhere tables at code.Term n st = refl
row-anywhere tables at _ n st = refl

end-is : (tables : RowsBefore) (h : Heading) (st s : State Tree) → proof_end strict tables h st ≡ Ok s → st ≡ s
unfolding proof_end
end-is tables h st s done =
    from_bind (ends_with strict tables h st) _ s done λ m _ e1.
    from_bind (matched_by strict tables st.ctx m) _ s e1 λ u _ e2. taken-is st s e2

-- what each command keeps
module _ (tables : RowsBefore) (h : Heading) (Kept : State Tree → Trace → Type 0)
    (step : (at : ℕ) (c : ProofCode) (n : ℕ) (st : State Tree) (tr : Trace) (st' : State Tree)
    → proof_step strict tables at c n st ≡ Ok st' → Kept st tr → (tr' : Trace) × (traced tables c n st tr ≡ Ok tr') × Kept st' tr') where
  -- the same turn is taken beside
  abbrev Turned : State Tree → Trace → Result (Turn (State Tree × Trace)) K → Turn (State Tree) → Type 0
  Turned st tr r (over s) = (r ≡ Ok (over (st, tr))) × (st ≡ s) × (proof_end strict tables h st ≡ Ok s)
  Turned st tr r (goes_on len s) = (tr' : Trace) × (r ≡ Ok (goes_on len (s, tr'))) × Kept s tr'

  turned : (at len : ℕ) (rest : List ℕ) (st : State Tree) (tr : Trace) (t : Turn (State Tree)) (o : Option BodyCommand) → body_turn_by strict tables h at len rest st o ≡ Ok t → Kept st tr
      → Turned st tr (trace_turn tables h len (st, tr) o) t
  turned at len rest st tr t None e kept = absurd cc
  turned at len rest st tr t (Some ends) e kept =
      from_bind (need (is_empty rest) k.StatementLength >> proof_end strict tables h st) _ t e λ s both e1.
      from_need (is_empty rest) k.StatementLength _ s both λ _ done.
      subst (Turned st tr (Ok (over (st, tr)))) (taken-is (over s) t e1) (refl, end-is tables h st s done, done)
  turned at len rest st tr t (Some (proves c n)) e kept =
      from_bind (proof_step strict tables at c n st) _ t e λ s row e1.
      let (tr', made, kept') = step at c n st tr s row kept in
      subst (Turned st tr (trace_turn tables h len (st, tr) (Some (proves c n)))) (taken-is (goes_on len s) t e1)
      (tr', to_bind (proof_step strict tables 0 c n st) _ s (row-anywhere tables at c n st ∙ row) ∙ to_bind (traced tables c n st tr) _ tr' made, kept')

  commanded : (at : ℕ) (bytes : List ℕ) (st : State Tree) (tr : Trace) (t : Turn (State Tree)) (r : Result Cmd CmdFault) → body_turn strict tables h at bytes st r ≡ Ok t → Kept st tr
      → Turned st tr (trace_command tables h (st, tr) r) t
  commanded at bytes st tr t (Err f) e kept = absurd cc
  commanded at bytes st tr t (Ok c) e kept = turned at c.len (drop c.len bytes) st tr t (body_command strict h.kind c.code c.value) e kept

  -- to the END, which ends the statement
  pub body-traced : (n at : ℕ) (bytes : List ℕ) (st : State Tree) (tr : Trace) (last : State Tree) → body_from strict tables h n at bytes st ≡ Ok last → Kept st tr
      → (tr' : Trace) × (trace_from tables h n bytes (st, tr) ≡ Ok (last, tr')) × Kept last tr' × (proof_end strict tables h last ≡ Ok last)
  unfolding body_from trace_from
  body-traced zero at bytes st tr last e kept = absurd cc
  body-traced (suc n) at bytes st tr last e kept =
      let turn = body_turn strict tables h at bytes st (first_command bytes) in
      from_follow (at_place at turn) _ last e
      (λ s is s-is.
      let (beside, same, done) = commanded at bytes st tr (over s) (first_command bytes) (place-ok at turn (over s) is) kept in
      let last-is : st ≡ last = same ∙ s-is in (
        tr,
        ap (λ (z : Result (Turn (State Tree × Trace)) K). follow z (λ len next. trace_from tables h n (drop len bytes) next)) beside ∙ ap (λ (z : State Tree). Ok (z, tr)) last-is,
        subst (λ (z : State Tree). Kept z tr) last-is kept,
        subst (λ (z : State Tree). proof_end strict tables h z ≡ Ok z) last-is (done ∙ ap taken (sym same)),
      ))
      (λ len s is rest.
      let (next, beside, kept') = commanded at bytes st tr (goes_on len s) (first_command bytes) (place-ok at turn (goes_on len s) is) kept in
      let (tr', later, kept-last, done) = body-traced n (at + len) (drop len bytes) s next last rest kept' in
      (tr', ap (λ (z : Result (Turn (State Tree × Trace)) K). follow z (λ l x. trace_from tables h n (drop l bytes) x)) beside ∙ later, kept-last, done))

-- ---- the start

pub start-stands : (A : Asked) (hyps : List Tree) (lets : List Proof) (i : ℕ) (ps : List Binder) → EachIs A (own_variables strict i ps)
    → Pairwise (Is A hyps lets) (map expr (own_variables strict i ps)) (map (λ b. expression) ps)
start-stands A hyps lets i [] h = tt
start-stands A hyps lets i (p ∷ ps) (e, h) = (e, start-stands A hyps lets (suc i) ps h)
