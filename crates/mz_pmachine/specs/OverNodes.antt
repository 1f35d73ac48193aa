-- The proof machine over nodes: expressions are ids, and a state is that of the expressions, numbers and all.
use Rattle.std.specs.Prelude.{◌≡◌, ℕ, ◌<◌, ◌^◌, List, ◌++◌, length, map, All as Every, Result, Ok}
use Rattle.mz_cmd.specs.declared.rule.K.{K}
use Rattle.mz_cmd.specs.declared.code.ProofCode.{ProofCode}
use Rattle.mz_cmd.specs.declared.code.ProofCode.TheVariants as code
use Rattle.mz_logic_theory.specs.Signature.{Signature}
use Rattle.mz_logic_theory.specs.Legality.{IsDummy}
use Rattle.mz_logic_theory.specs.declared.binder.Binder.{Binder}
use Rattle.mz_store.specs.declared.item.Id.{Id}
use Rattle.mz_store.specs.declared.item.Item.{Item as Kept}
use Rattle.mz_machine_theory.specs.Steps.{◌>>=◌}
use Rattle.mz_machine_theory.specs.Profile.{Item}
use Rattle.mz_machine_theory.specs.MachineState.{State, signatures_in}
use Rattle.mz_machine_theory.specs.Premises.{pop_expr, pop_sides}
use Rattle.mz_machine_env.specs.OwnRow.{MayRun, mode_for}
use Rattle.mz_machine_theory.specs.Headings.{kind_at, heading_of}
use Rattle.mz_machine_env.specs.Before.{tables_before}
use Rattle.mz_machine_env.specs.CommandCodes.{code_of_making, code_of_converting}
use Rattle.mz_machine.specs.OverStore.{IsContextOf}
use Rattle.mz_layout_tables.specs.declared.rows_so_far.Rows.{Rows}
use Rattle.mz_pmachine_theory.specs.NodeIdentity.{Numbered, a_variable, portable}
use Rattle.mz_pmachine_unify.specs.Numbering.{Numbering, expr_of, IsIn, AreIn, IsOver, KeepsIds}
use Rattle.mz_pmachine_unify.specs.Stored.{exprs_at, item_at, items_at, AreItemsIn}
use Rattle.mz_pmachine.specs.declared.command.Keeping.{Keeping}
use Rattle.mz_pmachine.specs.declared.command.Keeping.TheVariants as keeping
use Rattle.mz_pmachine.specs.declared.command.Command.{Command}
use Rattle.mz_pmachine.specs.declared.command.Command.TheVariants.{Makes, Keeps, Converts}

-- ---- states

-- the items of the heap, in order
abbrev pub heap_at : Numbering → List Kept → List (Item Numbered)
heap_at s xs = map (item_at s) xs

-- the state; the top of the stack is its last item
abbrev pub state_at : Numbering → (heap stack : List Kept) → List Id → State Numbered
state_at s heap stack hyps = record { ctx = s.context; heap = heap_at s heap; stack = items_at s stack; hyps = exprs_at s hyps }

-- the state with another stack
abbrev pub with_stack : State Numbered → List (Item Numbered) → State Numbered
with_stack st xs = record st { stack = xs }

-- what an unfolding takes: what is unfolded to, the sides of the obligation, and the items below
abbrev pub pop_unfolding : List (Item Numbered) → Result (Numbered × Numbered × Numbered × List (Item Numbered)) K
pop_unfolding xs = pop_expr xs >>= λ e. (pop_sides portable e.1 >>= λ o. Ok (e.0, o.0, o.1, o.2))

-- ---- commands

abbrev pub code_of_keeping : Keeping → ProofCode
code_of_keeping keeping.Ref = code.Ref
code_of_keeping keeping.Dummy = code.Dummy
code_of_keeping keeping.Hyp = code.Hyp
code_of_keeping keeping.Save = code.Save

abbrev pub code_of : Command → ProofCode
code_of (Makes c) = code_of_making c
code_of (Keeps c) = code_of_keeping c
code_of (Converts c) = code_of_converting c

-- ---- the nodes under a command

-- the ids are kept, with at most one more; what is kept with each is right as before, and new variables are dummies
pub record Grows (sigs : List Signature) (s s' : Numbering) : Type 0 where
  pub keeps : KeepsIds s s'
  pub over : IsOver sigs s'
  pub mode : s'.mode ≡ s.mode
  pub context : (more : List Binder) × (s'.context ≡ s.context ++ more) × Every IsDummy more

-- the ids below n are variables, the i-th the variable i
abbrev pub AreFirst : Numbering → ℕ → Type 0
AreFirst s n = (i : ℕ) → i < n → IsIn s i × (expr_of s i ≡ a_variable i)

-- what holds of a machine between two commands
pub record IsUnderway (file : List ℕ) (kind row : ℕ) (before : Rows) (s : Numbering) (heap stack : List Kept) (hyps : List Id) : Type 0 where
  pub may_run : MayRun file kind row before
  pub over : IsOver (signatures_in (tables_before file before)) s
  pub mode : s.mode ≡ mode_for (kind_at kind)
  pub context : IsContextOf (heading_of file kind row).params s.context
  pub params : AreFirst s (length (heading_of file kind row).params)
  pub heap_in : AreItemsIn s heap
  pub stack_in : AreItemsIn s stack
  pub hyps_in : AreIn s hyps
  pub few_hyps : length hyps < 2 ^ 32
