-- What a command does to the parts of a body, and what stops it.
use Rattle.std.specs.Prelude.{◌≡◌, ◌≤◌, ◌<◌, ◌^◌, ◌+◌, ℕ, List, length, reverse, MatchResult, Option, None, Result, Ok, Err}
use Rattle.mz_cmd.specs.declared.rule.K.{K}
use Rattle.mz_logic_theory.specs.Tree.{Tree}
use Rattle.mz_logic_theory.specs.Signature.{Signature}
use Rattle.mz_store.specs.Sharing.{Sharing, AreIn, IsOver}
use Rattle.mz_store.specs.declared.item.Id.{Id}
use Rattle.mz_store.specs.declared.item.Item.{Item as Kept}
use Rattle.mz_unify.specs.Stored.{AreItemsIn, items_at}
use Rattle.mz_unify.specs.declared.stop.Stop.{Stop}
use Rattle.mz_unify.specs.declared.stop.Stop.TheVariants.{Rule, Mem}
use Rattle.mz_machine_theory.specs.MachineState.{State}
use Rattle.mz_machine.specs.OverStore.{Grows, UnlessMem}
use Rattle.mz_machine.specs.OpenEquations.{stored, AreSettled, IsOpenedBy, opened_state, whole_state}
use Rattle.mz_machine.specs.declared.equations.Equation.{Equation}

-- the store is over these signatures, and has what the items name
pub record IsReady (sigs : List Signature) (s : Sharing) (heap stack : List Kept) : Type 0 where
  pub over : IsOver sigs s
  pub heap_in : AreItemsIn s heap
  pub stack_in : AreItemsIn s stack

-- and the hypotheses, of which there are fewer than 2^32
abbrev pub AreHyps : Sharing → List Id → Type 0
AreHyps s hyps = AreIn s hyps × (length hyps < 2 ^ 32)

-- a rule stops what the row refuses by it; out of memory comes only where memory is taken
abbrev pub StopsAs : (row : ℕ → Result (State Tree) K) → (takes_none : Type 0) → Stop → Type 0
StopsAs row takes_none (Rule k) = (at : ℕ) → row at ≡ Err k
StopsAs row takes_none Mem = takes_none → ⊥

-- out of memory alone, and only where this doesn't hold
abbrev pub WantsUnless : Type 0 → Stop → Type 0
WantsUnless P (Rule k) = ⊥
WantsUnless P Mem = P → ⊥

-- where a command goes through, with the equation that it opens; what takes no memory opens none, and leaves the stack its room
pub record GoesThrough (sigs : List Signature) (row : ℕ → Result (State Tree) K) (takes_none : Type 0) (s s' : Sharing) (heap' stack stack' : List Kept) (hyps' : List Id) (scratch scratch' : ℕ) (opened : Option (Id × Id)) : Type 0 where
  pub grows : Grows sigs s s'
  pub heap_in : AreItemsIn s' heap'
  pub stack_in : AreItemsIn s' stack'
  pub hyps_in : AreHyps s' hyps'
  pub opens : IsOpenedBy s' opened stack stack'
  pub row_is : (at : ℕ) → row at ≡ Ok (opened_state s' heap' opened stack' hyps')
  pub no_more : takes_none → (opened ≡ None) × (scratch ≤ scratch')

abbrev pub Executes : {A : Type 0} → List Signature → (row : ℕ → Result (State Tree) K) → (takes_none : Type 0) → (s s' : Sharing) → (heap' stack stack' : List Kept) → (hyps' : List Id) → (scratch scratch' : ℕ) → (A → Option (Id × Id)) → Result A Stop → Type 0
Executes sigs row takes_none s s' heap' stack stack' hyps' scratch scratch' opened result = MatchResult result (λ x. GoesThrough sigs row takes_none s s' heap' stack stack' hyps' scratch scratch' (opened x)) (StopsAs row takes_none)

-- the same over all that stands on the stack
pub record Proceeds (sigs : List Signature) (row : ℕ → Result (State Tree) K) (s s' : Sharing) (heap' : List Kept) (equations' : List Equation) (stack' : List Kept) (hyps' : List Id) : Type 0 where
  pub grows : Grows sigs s s'
  pub heap_in : AreItemsIn s' heap'
  pub stack_in : AreItemsIn s' stack'
  pub hyps_in : AreHyps s' hyps'
  pub settled : AreSettled (stored s') (reverse equations') (items_at s' stack')
  pub row_is : (at : ℕ) → row at ≡ Ok (whole_state s' heap' equations' stack' hyps')

-- so many steps are counted, but where memory runs out; never more than these
abbrev pub Counts : {A : Type 0} → Result A Stop → (old new count most : ℕ) → Type 0
Counts result old new count most = UnlessMem result (new ≡ old + count) × (new ≤ old + most)
