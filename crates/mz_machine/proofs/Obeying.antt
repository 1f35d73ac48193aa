-- A command's own row, as that of the command with its code in a body.
use Rattle.std.proofs.Common.{◌≡◌, ◌+◌, ℕ, Bool, false, true, List, Option, Some, None, Result, subst}
use Rattle.std.specs.Prelude.{IsTrue, ◌&&◌}
use Rattle.mz_logic_theory.specs.Tree.{Tree}
use Rattle.mz_logic_theory.specs.Signature.{Signature}
use Rattle.mz_cmd.specs.declared.code.ProofCode.{ProofCode}
use Rattle.mz_cmd.specs.declared.code.ProofCode.TheVariants as code
use Rattle.mz_store.specs.Sharing.{Sharing}
use Rattle.mz_store.specs.declared.item.Id.{Id}
use Rattle.mz_store.specs.declared.item.Item.{Item as Kept}
use Rattle.mz_machine_theory.specs.Profile.{plain, strict, draft}
use Rattle.mz_unify.specs.declared.stop.Stop.{Stop}
use Rattle.mz_machine_theory.specs.MachineState.{RowsBefore, State, Kind}
use Rattle.mz_machine_theory.specs.ProofMachine.{proof_step}
use Rattle.mz_machine_theory.specs.Bodies.{BodyCommand, proves, body_command, row_steps}
use Rattle.mz_machine.specs.Steps.{is_sorry, row_by, steps_by, takes_none, TakesNone}
use Rattle.mz_machine.specs.Executing.{Counts, Executes}
use Rattle.mz_machine.proofs.Executed.{OpensNone, executes-so, none-executes, one-step}
use Rattle.mz_machine.proofs.GapRows.{stands-here, its-row, its-gap, its-steps}

module _ (gaps : Bool) (tables : RowsBefore) (kind : Kind) (byte value : ℕ) (c : ProofCode) (here : body_command strict kind byte value ≡ Some (proves c value)) (st : State Tree) where
  abbrev u : Option BodyCommand
  u = body_command (plain gaps) kind byte value

  pub takes-here : TakesNone st u → IsTrue (takes_none c value st)
  takes-here none = subst (TakesNone st) (stands-here gaps tables kind byte value c here) none

  module _ (sigs : List Signature) (takes : Type 0) (fewer : IsTrue (takes_none c value st) → takes) (s s' : Sharing) (heap' stack stack' : List Kept) (hyps' : List Id) (scratch scratch' : ℕ) where
    pub obeys-none : {A : Type 0} → (gaps && is_sorry (Some c)) ≡ false → (answer : Result A Stop) (result : Result (Option (Id × Id)) Stop) → OpensNone answer result
        → Executes sigs (λ at. proof_step strict tables at c value st) takes s s' heap' stack stack' hyps' scratch scratch' (λ (_ : A). None) answer
        → Executes sigs (λ at. row_by gaps tables at st u) (TakesNone st u) s s' heap' stack stack' hyps' scratch scratch' (λ o. o) result
    obeys-none other answer result is h =
        none-executes sigs (λ at. proof_step strict tables at c value st) (λ at. row_by gaps tables at st u) takes (TakesNone st u) (λ at. its-row gaps tables kind byte value c here at st other) (λ none. fewer (takes-here none))
        s s' heap' stack stack' hyps' scratch scratch' answer result is h

    pub obeys-gap : {A : Type 0} → (gaps && is_sorry (Some c)) ≡ true → (answer : Result A Stop) (result : Result (Option (Id × Id)) Stop) → OpensNone answer result
        → Executes sigs (λ at. proof_step draft tables at code.Sorry value st) takes s s' heap' stack stack' hyps' scratch scratch' (λ (_ : A). None) answer
        → Executes sigs (λ at. row_by gaps tables at st u) (TakesNone st u) s s' heap' stack stack' hyps' scratch scratch' (λ o. o) result
    obeys-gap gap answer result is h =
        none-executes sigs (λ at. proof_step draft tables at code.Sorry value st) (λ at. row_by gaps tables at st u) takes (TakesNone st u) (λ at. its-gap gaps tables kind byte value c here at st gap) (λ none. fewer (takes-here none))
        s s' heap' stack stack' hyps' scratch scratch' answer result is h

    pub obeys : (gaps && is_sorry (Some c)) ≡ false → (result : Result (Option (Id × Id)) Stop) → Executes sigs (λ at. proof_step strict tables at c value st) takes s s' heap' stack stack' hyps' scratch scratch' (λ o. o) result
        → Executes sigs (λ at. row_by gaps tables at st u) (TakesNone st u) s s' heap' stack stack' hyps' scratch scratch' (λ o. o) result
    obeys other result h =
        executes-so sigs (λ at. proof_step strict tables at c value st) (λ at. row_by gaps tables at st u) takes (TakesNone st u) (λ at. its-row gaps tables kind byte value c here at st other) (λ none. fewer (takes-here none))
        s s' heap' stack stack' hyps' scratch scratch' result h

  pub obeys-counts : {A : Type 0} (result : Result A Stop) (old ticked new most : ℕ) → ticked ≡ old + 1 → Counts result ticked new (row_steps strict tables c value st) most → Counts result old new (steps_by gaps tables st u) (1 + most)
  obeys-counts result old ticked new most one h = one-step result old ticked new (row_steps strict tables c value st) (steps_by gaps tables st u) most one (its-steps gaps tables kind byte value c here st) h
