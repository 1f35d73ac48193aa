-- A command on the items that are written out, said of the whole stack.
use Rattle.std.proofs.Common.{◌≡◌, ◌≤◌, ◌<◌, ◌+◌, ◌^◌, ℕ, List, length, Option, Result, Ok, Err, refl, ap, subst}
use Rattle.std.specs.Prelude.{reverse, OnOk}
use Rattle.mz_cmd.specs.declared.rule.K.{K}
use Rattle.mz_cmd.specs.declared.code.ProofCode.{ProofCode}
use Rattle.mz_store.specs.declared.item.Id.{Id}
use Rattle.mz_store.specs.declared.item.Item.{Item as Kept}
use Rattle.mz_logic_theory.specs.Signature.{Signature}
use Rattle.mz_unify.specs.declared.stop.Stop.{Stop}
use Rattle.mz_unify.specs.declared.stop.Stop.TheVariants.{Rule, Mem}
use Rattle.mz_machine_theory.specs.MachineState.{RowsBefore, State}
use Rattle.mz_machine_theory.specs.ProofMachine.{proof_step}
use Rattle.mz_machine_theory.specs.Bodies.{row_steps}
use Rattle.mz_machine.specs.OverStore.{Gives}
use Rattle.mz_machine.specs.OpenEquations.{asked_by, AsksNoMore, AreOpen, AreSettled, opened_on, whole_stack}
use Rattle.mz_machine.specs.declared.equations.Equation.{Equation}
use Rattle.mz_machine.proofs.Offered.{AreKept, StoodOn, WholeAfter, asks-back, settled-row, settled-steps, the-same}
use Rattle.mz_pmachine_theory.specs.NodeIdentity.{Numbered, operand_list, portable}
use Rattle.mz_pmachine_unify.specs.Numbering.{Numbering, AreIn, KeepsIds, operands_of}
use Rattle.mz_pmachine_unify.specs.Stored.{AreItemsIn, items_at}
use Rattle.mz_pmachine_unify.proofs.Offered.{still-in}
use Rattle.mz_pmachine.specs.OpenNodes.{of_nodes, whole_state, Proceeds}
use Rattle.mz_pmachine.specs.OverNodes.{state_at, with_stack, Grows}
use Rattle.mz_pmachine.proofs.TermResults.{expr-kept}

-- nodes that grow keep what their ids stand for
ids-kept : (s s' : Numbering) → KeepsIds s s' → AreKept (of_nodes s) (of_nodes s')
ids-kept s s' keeps i inside = (still-in s s' keeps i.0 inside, ap (λ (e : Numbered). operand_list (operands_of e)) (expr-kept s s' keeps i.0 inside))

module _ (tables : RowsBefore) (s : Numbering) (heap stack : List Kept) (hyps : List Id) (es : List Equation) (settled : AreSettled (of_nodes s) (reverse es) (items_at s stack))
    (c : ProofCode) (n : ℕ) (asks : AsksNoMore es (asked_by tables c n) (length (items_at s stack))) where
  abbrev st : State Numbered
  st = state_at s heap stack hyps

  abbrev whole : State Numbered
  whole = whole_state s heap es stack hyps

  -- what is refused is refused
  pub whole-refused : (at : ℕ) (d : K) → proof_step portable tables at c n st ≡ Err d → proof_step portable tables at c n whole ≡ Err d
  whole-refused at d is =
      subst (λ (r : Result (State Numbered) K). WholeAfter portable tables st (of_nodes s) (of_nodes s) (the-same (of_nodes s)) (reverse es) (items_at s stack) r (proof_step portable tables at c n whole)) is
      (settled-row portable tables st (of_nodes s) (of_nodes s) (the-same (of_nodes s)) (reverse es) (items_at s stack) settled at c n (asks-back es (asked_by tables c n) (length (items_at s stack)) asks))

  pub whole-count : row_steps portable tables c n whole ≡ row_steps portable tables c n st
  whole-count = settled-steps portable tables st (of_nodes s) (of_nodes s) (the-same (of_nodes s)) (reverse es) (items_at s stack) settled c n (asks-back es (asked_by tables c n) (length (items_at s stack)) asks)

  -- what goes through goes through, up to what was opened
  module _ (s' : Numbering) (keeps : KeepsIds s s') (heap' stack' : List Kept) (hyps' : List Id) (o : Option (Id × Id)) (stood : StoodOn o (items_at s stack) (items_at s' stack')) where
    pub whole-through : (at : ℕ) → proof_step portable tables at c n st ≡ Ok (with_stack (state_at s' heap' stack' hyps') (opened_on (of_nodes s') o (items_at s' stack')))
        → AreOpen (of_nodes s') (reverse es) (items_at s' stack')
        × (proof_step portable tables at c n whole ≡ Ok (with_stack (state_at s' heap' stack' hyps') (opened_on (of_nodes s') o (whole_stack (of_nodes s') (reverse es) (items_at s' stack')))))
    whole-through at is =
        subst (λ (r : Result (State Numbered) K). WholeAfter portable tables st (of_nodes s) (of_nodes s') (ids-kept s s' keeps) (reverse es) (items_at s stack) r (proof_step portable tables at c n whole)) is
        (settled-row portable tables st (of_nodes s) (of_nodes s') (ids-kept s s' keeps) (reverse es) (items_at s stack) settled at c n (asks-back es (asked_by tables c n) (length (items_at s stack)) asks))
        o (items_at s' stack') refl stood

-- ---- what holds behind a command

module _ (sigs : List Signature) (at : ℕ) (s s' : Numbering) (grows : Grows sigs s s') (heap' : List Kept) (heap_in : AreItemsIn s' heap') (hyps' : List Id) (hyps_in : AreIn s' hyps') (few : length hyps' < 2 ^ 32) (next : s'.next ≤ at + 1) where
  pub proceeds : (row : Result (State Numbered) K) {A : Type 0} (result : Result A Stop) (es' : List Equation) (stack' : List Kept) → OnOk result (AreItemsIn s' stack' × AreSettled (of_nodes s') (reverse es') (items_at s' stack'))
      → Gives row result (λ _. whole_state s' heap' es' stack' hyps') → Proceeds sigs at row s s' heap' es' stack' hyps' result
  proceeds row (Ok x) es' stack' done is = record { grows = grows; heap_in = heap_in; stack_in = done.0; hyps_in = hyps_in; few_hyps = few; settled = done.1; next = next; row_is = is }
  proceeds row (Err (Rule k)) es' stack' done is = is
  proceeds row (Err Mem) es' stack' done is = tt
