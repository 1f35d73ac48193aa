-- The proof machine over a store: expressions are ids, and a state is that of their trees.
use Rattle.std.specs.Prelude.{◌≡◌, ℕ, ⊤, Bool, true, false, ◌<◌, ◌^◌, List, [], ◌∷◌, ◌++◌, length, map, All as Every, MatchResult, Result, Ok, Err}
use Rattle.mz_cmd.specs.declared.rule.K.{K}
use Rattle.mz_cmd.specs.declared.rule.K.TheVariants as k
use Rattle.mz_logic_theory.specs.Tree.{Tree, var}
use Rattle.mz_logic_theory.specs.Signature.{Signature}
use Rattle.mz_logic_theory.specs.Legality.{IsDummy}
use Rattle.mz_logic_theory.specs.declared.binder.Binder.{Binder}
use Rattle.mz_store.specs.Sharing.{Sharing, tree_of, IsIn, AreIn, IsOver, KeepsIds}
use Rattle.mz_store.specs.declared.item.Id.{Id}
use Rattle.mz_store.specs.declared.item.Item.{Item as Kept}
use Rattle.mz_store.specs.declared.item.Item.TheVariants.{Expr}
use Rattle.mz_machine_theory.specs.Profile.{Item, strict}
use Rattle.mz_unify.specs.Stored.{trees_at, item_at, items_at, AreItemsIn}
use Rattle.mz_machine_theory.specs.MachineState.{State, signatures_in}
use Rattle.mz_machine_env.specs.OwnRow.{MayRun, mode_for}
use Rattle.mz_machine_theory.specs.Headings.{kind_at, heading_of}
use Rattle.mz_machine_env.specs.Before.{tables_before}
use Rattle.mz_machine_env.specs.CommandCodes.{code_of_making, code_of_converting}
use Rattle.mz_machine_theory.specs.Steps.{◌>>=◌}
use Rattle.mz_machine_theory.specs.Premises.{pop_expr, pop_sides}
use Rattle.mz_cmd.specs.declared.code.ProofCode.{ProofCode}
use Rattle.mz_cmd.specs.declared.code.ProofCode.TheVariants as code
use Rattle.mz_machine_env.specs.declared.command.Making.{Making}
use Rattle.mz_machine_env.specs.declared.command.Making.TheVariants as making
use Rattle.mz_machine.specs.declared.command.Keeping.{Keeping}
use Rattle.mz_machine.specs.declared.command.Keeping.TheVariants as keeping
use Rattle.mz_machine.specs.declared.command.Command.{Command}
use Rattle.mz_machine.specs.declared.command.Command.TheVariants.{Makes, Keeps, Converts}
use Rattle.mz_unify.specs.declared.stop.Stop.{Stop}
use Rattle.mz_unify.specs.declared.stop.Stop.TheVariants.{Mem}
use Rattle.mz_unify.specs.Rows.{StopsBy}
use Rattle.mz_layout_tables.specs.declared.rows_so_far.Rows.{Rows}

-- ---- states

-- the items of the heap, in order
abbrev pub heap_at : Sharing → List Kept → List (Item Tree)
heap_at s xs = map (item_at s) xs

-- the state; the top of the stack is its last item
abbrev pub state_at : Sharing → (heap stack : List Kept) → List Id → State Tree
state_at s heap stack hyps = record { ctx = s.context; heap = heap_at s heap; stack = items_at s stack; hyps = trees_at s hyps }

-- the state with another stack
abbrev pub with_stack : State Tree → List (Item Tree) → State Tree
with_stack st xs = record st { stack = xs }

-- what an unfolding takes: what is unfolded to, the sides of the obligation, and the items below
abbrev pub pop_unfolding : List (Item Tree) → Result (Tree × Tree × Tree × List (Item Tree)) K
pop_unfolding xs = pop_expr xs >>= λ e. (pop_sides strict e.1 >>= λ o. Ok (e.0, o.0, o.1, o.2))

-- what items are as expressions
abbrev pub exprs_of : List Kept → Result (List Id) K
exprs_of [] = Ok []
exprs_of (Expr i ∷ xs) = exprs_of xs >>= λ is. Ok (i ∷ is)
exprs_of (_ ∷ xs) = Err k.Kind

-- ---- commands

-- an axiom or a theorem is cited
abbrev pub cites : Making → Bool
cites making.Term = false
cites making.TermSave = false
cites making.Thm = true
cites making.ThmSave = true

abbrev pub code_of_keeping : Keeping → ProofCode
code_of_keeping keeping.Ref = code.Ref
code_of_keeping keeping.ConvRef = code.ConvRef
code_of_keeping keeping.Dummy = code.Dummy
code_of_keeping keeping.Hyp = code.Hyp
code_of_keeping keeping.Save = code.Save

abbrev pub code_of : Command → ProofCode
code_of (Makes c) = code_of_making c
code_of (Keeps c) = code_of_keeping c
code_of (Converts c) = code_of_converting c

-- it stands in theorems alone
abbrev pub for_theorems : Command → Bool
for_theorems (Makes c) = cites c
for_theorems (Keeps c) = false
for_theorems (Converts c) = true

-- ---- answers

-- what goes through gives what is computed, and what a rule stops is refused by it
abbrev pub Gives : {A B : Type 0} → Result B K → Result A Stop → (A → B) → Type 0
Gives r result value = MatchResult result (λ x. r ≡ Ok (value x)) (λ stop. StopsBy stop (λ k. r ≡ Err k))

-- the same of what takes no memory
abbrev pub GivesRule : {A B : Type 0} → Result B K → Result A K → (A → B) → Type 0
GivesRule r result value = MatchResult result (λ x. r ≡ Ok (value x)) (λ k. r ≡ Err k)

-- it isn't out of memory
abbrev pub NeverWants : {A : Type 0} → Result A Stop → Type 0
NeverWants result = MatchResult result (λ _. ⊤) (λ stop. stop ≡ Mem → ⊥)

-- it isn't out of memory, and this holds; or it is
abbrev pub UnlessMem : {A : Type 0} → Result A Stop → Type 0 → Type 0
UnlessMem result P = MatchResult result (λ _. P) (λ stop. StopsBy stop (λ _. P))

-- ---- the store under a command

-- the ids are kept, with at most one more; what is kept with each is right as before, and new variables are dummies
pub record Grows (sigs : List Signature) (s s' : Sharing) : Type 0 where
  pub keeps : KeepsIds s s'
  pub over : IsOver sigs s'
  pub mode : s'.mode ≡ s.mode
  pub context : (more : List Binder) × (s'.context ≡ s.context ++ more) × Every IsDummy more

-- the ids below n are variables, the i-th the variable i
abbrev pub AreFirst : Sharing → ℕ → Type 0
AreFirst s n = (i : ℕ) → i < n → IsIn s i × (tree_of s i ≡ var i)

-- the parameters, followed by dummies
abbrev pub IsContextOf : List Binder → List Binder → Type 0
IsContextOf params ctx = (dummies : List Binder) × (ctx ≡ params ++ dummies) × Every IsDummy dummies

-- what holds of a machine between two commands
pub record IsUnderway (file : List ℕ) (kind row : ℕ) (before : Rows) (s : Sharing) (heap stack : List Kept) (hyps : List Id) : Type 0 where
  pub may_run : MayRun file kind row before
  pub over : IsOver (signatures_in (tables_before file before)) s
  pub mode : s.mode ≡ mode_for (kind_at kind)
  pub context : IsContextOf (heading_of file kind row).params s.context
  pub params : AreFirst s (length (heading_of file kind row).params)
  pub heap_in : AreItemsIn s heap
  pub stack_in : AreItemsIn s stack
  pub hyps_in : AreIn s hyps
  pub few_hyps : length hyps < 2 ^ 32
