-- A reference, told before it is known what else the command may be.
use Rattle.std.proofs.Common.{◌≡◌, ℕ, Bool, true, false, ◌-◌, List, [], ◌∷◌, length, length-drop, take, drop, Option, Some, None, Result, Ok, refl, ap, subst, sym, ◌∙◌, arith}
use Rattle.std.specs.Prelude.{IsTrue, ◌&&◌, ◌||◌, reverse}
use Rattle.std.proofs.lemmas.List.{take_all}
use Rattle.mz_cmd.specs.Codes.{proof_code}
use Rattle.mz_cmd.specs.Reading.{first_command}
use Rattle.mz_cmd.specs.declared.command.Cmd.{Cmd}
use Rattle.mz_cmd.specs.declared.code.ProofCode.{ProofCode}
use Rattle.mz_cmd.specs.declared.code.ProofCode.TheVariants as code
use Rattle.mz_store.specs.Sharing.{Sharing}
use Rattle.mz_store.specs.declared.item.Id.{Id}
use Rattle.mz_store.specs.declared.item.Item.{Item as Kept}
use Rattle.mz_machine_theory.specs.Profile.{plain, strict}
use Rattle.mz_unify.specs.Stored.{items_at}
use Rattle.mz_logic_theory.specs.Tree.{Tree}
use Rattle.mz_machine_theory.specs.MachineState.{RowsBefore, State, Kind, is_axiom, is_theorem, is_definition}
use Rattle.mz_machine_theory.specs.Bodies.{body_command, proves, BodyCommand}
use Rattle.mz_machine.specs.OpenEquations.{asked_by, AsksNoMore}
use Rattle.mz_machine.specs.Steps.{is_sorry, steps_by, row_by, takes_none, TakesNone}
use Rattle.mz_machine.specs.declared.equations.Equation.{Equation}
use Rattle.mz_base.specs.Gaps.{gaps_of}
use Rattle.mz_cmd.specs.declared.rule.K.{K}
use Rattle.mz_unify.specs.declared.stop.Stop.{Stop}
use Rattle.mz_machine_theory.specs.ProofMachine.{proof_step}
use Rattle.mz_machine_env.specs.Before.{signatures_of, tables_of}
use Rattle.mz_machine_env.specs.OwnRow.{kind_of}
use Rattle.mz_machine.specs.Executing.{Executes}
use Rattle.mz_machine.specs.OverStore.{state_at}
use Rattle.mz_machine.specs.declared.machine.Parts.{Parts}
use Rattle.mz_machine.specs.declared.machine.Setting.{Setting}
use Rattle.mz_machine.proofs.Executed.{OpensNone}
use Rattle.mz_machine.proofs.Obeying.{obeys-none}
use Rattle.mz_machine.proofs.GapRows.{stands-here, its-steps}
use Rattle.mz_machine.proofs.Proceeding.{AsksWithin}

-- it stands in each body
pub stands : (kind : Kind) (place : ℕ) → body_command strict kind 0x12 place ≡ Some (proves code.Ref place)
stands is_axiom place = refl
stands is_theorem place = refl
stands is_definition place = refl

-- it leaves no gap
pub no-gap : (gaps : Bool) → (gaps && is_sorry (Some code.Ref)) ≡ false
no-gap true = refl
no-gap false = refl

pub still : (b : Bool) → b ≡ (b || is_sorry (proof_code 0x12))
still true = refl
still false = refl

-- it asks for no items
asks-none : (es : List Equation) (n : ℕ) → AsksNoMore es 0 n
asks-none [] n = tt
asks-none (e ∷ es) n = omega arith

-- what stands at the front of the rest of the bytes stands at the place
pub read-at : (bytes : List ℕ) (at : ℕ) (c : Cmd) → first_command (take (length bytes - at) (drop at bytes)) ≡ Ok c → first_command (drop at bytes) ≡ Ok c
read-at bytes at c is = ap first_command (sym (take_all (length bytes - at) (drop at bytes) (omega (arith, length-drop at bytes)))) ∙ is

module _ (gaps : Bool) (tables : RowsBefore) (kind : Kind) (place : ℕ) where
  pub asks : (s : Sharing) (heap stack : List Kept) (hyps : List Id) (es : List Equation) → AsksWithin gaps tables s heap stack hyps es (body_command (plain gaps) kind 0x12 place)
  asks s heap stack hyps es c n is =
      let here : Some (proves code.Ref place) ≡ Some (proves c n) = sym (stands-here gaps tables kind 0x12 place code.Ref (stands kind place)) ∙ is in
      let same : code.Ref ≡ c = cc in
      subst (λ (k : ProofCode). AsksNoMore (reverse es) (asked_by tables k n) (length (items_at s stack))) same (asks-none (reverse es) (length (items_at s stack)))

  -- it counts one step
  pub counts-one : (st : State Tree) → steps_by gaps tables st (body_command (plain gaps) kind 0x12 place) ≡ 1
  counts-one st = its-steps gaps tables kind 0x12 place code.Ref (stands kind place) st

-- what the rows of the heap say of it, over the parts of a machine
module _ (t : Setting) (p : Parts) (place : ℕ) (s' : Sharing) (heap' stack' : List Kept) (hyps' : List Id) (scratch' : ℕ) where
  abbrev u : Option BodyCommand
  u = body_command (plain (gaps_of t.mode)) (kind_of t.kind) 0x12 place

  abbrev st : State Tree
  st = state_at p.store p.heap.items p.stack.items p.hyps.items

  abbrev row : ℕ → Result (State Tree) K
  row = λ at. row_by (gaps_of t.mode) (tables_of t.env) at st u

  pub refers : {A : Type 0} (answer : Result A Stop) (result r : Result (Option (Id × Id)) Stop) → OpensNone answer result → result ≡ r
      → Executes (signatures_of t.env) (λ at. proof_step strict (tables_of t.env) at code.Ref place st) (IsTrue (takes_none code.Ref place st)) p.store s' heap' p.stack.items stack' hyps' p.stack.cap scratch' (λ (_ : A). None) answer
      → Executes (signatures_of t.env) row (TakesNone st u) p.store s' heap' p.stack.items stack' hyps' p.stack.cap scratch' (λ o. o) r
  refers answer result r none is h =
      subst (λ (x : Result (Option (Id × Id)) Stop). Executes (signatures_of t.env) row (TakesNone st u) p.store s' heap' p.stack.items stack' hyps' p.stack.cap scratch' (λ o. o) x) is
      (obeys-none (gaps_of t.mode) (tables_of t.env) (kind_of t.kind) 0x12 place code.Ref (stands (kind_of t.kind) place) st (signatures_of t.env) (IsTrue (takes_none code.Ref place st)) (λ x. x) p.store s' heap' p.stack.items stack' hyps' p.stack.cap scratch' (no-gap (gaps_of t.mode)) answer result none h)
