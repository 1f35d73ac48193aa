-- One command over a store: how the code's state stands for the machine's.
use Rattle.std.specs.Prelude.{◌≡◌, ℕ, ⊤, ◌⊎◌, List, [], ◌∷◌, ◌++◌, reverse, MatchResult, Some, Result, Ok, Err}
use Rattle.mz_cmd.specs.declared.rule.K.{K}
use Rattle.mz_cmd.specs.Reading.{first_command}
use Rattle.mz_logic_theory.specs.Tree.{Tree}
use Rattle.mz_logic_theory.specs.Variables.{InV}
use Rattle.mz_logic_theory.specs.declared.binder.Binder.{Binder}
use Rattle.mz_store.specs.Bits.{Tells, bound_vars}
use Rattle.mz_store.specs.Sharing.{Sharing}
use Rattle.mz_store.specs.declared.item.Id.{Id}
use Rattle.mz_store.specs.declared.item.Item.{Item as Kept}
use Rattle.mz_machine_theory.specs.Streams.{UnifyCommand, u_term, u_term_save, u_ref, u_dummy, u_hyp, u_end, unify_command}
use Rattle.mz_machine_theory.specs.UnifyMachine.{UnifyMode as Mode, kind_of, in_definition, UnifyState}
use Rattle.mz_unify.specs.Stored.{trees_at, stack_at, items_at}
use Rattle.mz_unify.specs.declared.unified.Unified.{Unified}
use Rattle.mz_unify.specs.declared.unified.Unified.TheVariants as said
use Rattle.mz_unify.specs.declared.unified.Unified.TheVariants.{Refused}
use Rattle.mz_unify.specs.declared.command.Command.{Command}
use Rattle.mz_unify.specs.declared.command.Command.TheVariants.{Term, TermSave, Ref, Dummy, Hyp, End}
use Rattle.mz_unify.specs.declared.stop.Stop.{Stop}
use Rattle.mz_unify.specs.declared.stop.Stop.TheVariants.{Rule, Mem}

abbrev pub command_of : Command → UnifyCommand
command_of (Term t) = u_term t
command_of (TermSave t) = u_term_save t
command_of (Ref i) = u_ref i
command_of (Dummy s) = u_dummy s
command_of Hyp = u_hyp
command_of End = u_end

-- it stands at the front of the bytes, in streams of the mode, and takes so many of them
abbrev pub IsNext : Mode → List ℕ → Command → ℕ → Type 0
IsNext mode bytes command len =
    (code value : ℕ) × (first_command bytes ≡ Ok (record { code = code; value = value; len = len })) × (unify_command (kind_of mode) code value ≡ Some (command_of command))

-- where a rule stops the command, it is one of which this holds; out of memory says nothing
abbrev pub StopsBy : Stop → (K → Type 0) → Type 0
StopsBy (Rule k) P = P k
StopsBy Mem P = ⊤

-- x is in V of one of these
abbrev pub InAnyV : List Binder → List Tree → ℕ → Type 0
InAnyV ctx [] x = ⊥
InAnyV ctx (e ∷ es) x = InV ctx x e ⊎ InAnyV ctx es x

-- the word names the variables of all of these
abbrev pub TellsAny : List Binder → ℕ → List Tree → Type 0
TellsAny ctx word es = Tells (bound_vars ctx) word (InAnyV ctx es)

-- the word names the variables of all of these, where the stream may meet dummies
abbrev pub TellsFor : Mode → List Binder → ℕ → List Tree → Type 0
TellsFor mode ctx word es = mode ≡ in_definition → TellsAny ctx word es

-- the stack of all targets: what is left of an application's operands, the first one on top, and the others
abbrev pub all_targets : List Id → List Id → List Id
all_targets front others = others ++ reverse front

-- the machine's state: what a dummy is kept apart from has no ids, only the word of its variables
abbrev pub state_at : Sharing → List Id → List Tree → List Id → List Kept → UnifyState Tree
state_at s heap apart targets hyps = record { heap = trees_at s heap; apart = apart; targets = stack_at s targets; items = items_at s hyps }

-- the state with other targets
abbrev pub with_targets : {T : Type 0} → UnifyState T → List T → UnifyState T
with_targets st es = record st { targets = es }

-- a row that goes through leads to the state, and one that a rule stops is refused by it
abbrev pub IsRow : {T A : Type 0} → Result (UnifyState T) K → Result A Stop → (A → UnifyState T) → Type 0
IsRow row result after = MatchResult result (λ x. row ≡ Ok (after x)) (λ stop. StopsBy stop (λ k. row ≡ Err k))

-- what is said where a command at this place is stopped
abbrev pub stopped_at : ℕ → Stop → Unified
stopped_at at (Rule k) = Refused at k
stopped_at at Mem = said.Mem

-- the command goes on whose stream ran to its end; else it is stopped as the stream was
abbrev pub gone_through : Unified → Result (Unit {0}) Stop
gone_through (said.Done taken) = Ok tt
gone_through (Refused at k) = Err (Rule k)
gone_through said.Mem = Err Mem
