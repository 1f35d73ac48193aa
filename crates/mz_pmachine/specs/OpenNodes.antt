-- Equations that Cong has opened, over nodes: the whole stack, and a command on it.
use Rattle.std.specs.Prelude.{◌≡◌, ℕ, ◌<◌, ◌^◌, ◌+◌, ◌≤◌, List, length, reverse, MatchResult, Result, Ok, Err}
use Rattle.mz_cmd.specs.declared.rule.K.{K}
use Rattle.mz_logic_theory.specs.Signature.{Signature}
use Rattle.mz_store.specs.declared.item.Id.{Id}
use Rattle.mz_store.specs.declared.item.Item.{Item as Kept}
use Rattle.mz_unify.specs.Rows.{StopsBy}
use Rattle.mz_unify.specs.declared.stop.Stop.{Stop}
use Rattle.mz_machine_theory.specs.MachineState.{State}
use Rattle.mz_machine.specs.OpenEquations.{Expressions, whole_stack, AreSettled}
use Rattle.mz_machine.specs.declared.equations.Equation.{Equation}
use Rattle.mz_pmachine_theory.specs.NodeIdentity.{Numbered, operand_list}
use Rattle.mz_pmachine_unify.specs.Numbering.{Numbering, AreIn, IsIn, expr_of, operands_of}
use Rattle.mz_pmachine_unify.specs.Stored.{AreItemsIn, items_at}
use Rattle.mz_pmachine.specs.OverNodes.{Grows, state_at, with_stack}

-- what the ids of nodes stand for
abbrev pub of_nodes : Numbering → Expressions Numbered
of_nodes s = record { is_in = λ i. IsIn s i; operands = λ i. operand_list (operands_of (expr_of s i.0)) }

-- the state for which the written items and the open equations stand
abbrev pub whole_state : Numbering → (heap : List Kept) → (equations : List Equation) → (stack : List Kept) → (hyps : List Id) → State Numbered
whole_state s heap equations stack hyps = with_stack (state_at s heap stack hyps) (whole_stack (of_nodes s) (reverse equations) (items_at s stack))

-- where a command at a place goes through
pub record GoesThrough (sigs : List Signature) (at : ℕ) (row : Result (State Numbered) K) (s s' : Numbering) (heap' : List Kept) (equations' : List Equation) (stack' : List Kept) (hyps' : List Id) : Type 0 where
  pub grows : Grows sigs s s'
  pub heap_in : AreItemsIn s' heap'
  pub stack_in : AreItemsIn s' stack'
  pub hyps_in : AreIn s' hyps'
  pub few_hyps : length hyps' < 2 ^ 32
  pub settled : AreSettled (of_nodes s') (reverse equations') (items_at s' stack')
  pub next : s'.next ≤ at + 1
  pub row_is : row ≡ Ok (whole_state s' heap' equations' stack' hyps')

-- or it is refused by the row's rule; out of memory says nothing
abbrev pub Proceeds : {A : Type 0} → List Signature → (at : ℕ) → (row : Result (State Numbered) K) → (s s' : Numbering) → (heap' : List Kept) → (equations' : List Equation) → (stack' : List Kept) → (hyps' : List Id) → Result A Stop → Type 0
Proceeds sigs at row s s' heap' equations' stack' hyps' result = MatchResult result (λ _. GoesThrough sigs at row s s' heap' equations' stack' hyps') (λ stop. StopsBy stop (λ k. row ≡ Err k))
