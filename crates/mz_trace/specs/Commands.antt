-- What a command makes of what is made so far: the machine's next state, and the parts beside it.
use Rattle.std.specs.Prelude.{◌≡◌, ◌<◌, ◌≤◌, ◌+◌, ℕ, zero, suc, ⊤, List, ◌++◌, ◌∷◌, [], length, map, reverse, drop, Option, Some, None, Ok}
use Rattle.mz_cmd.specs.declared.code.ProofCode.{ProofCode}
use Rattle.mz_logic_theory.specs.Tree.{Tree}
use Rattle.mz_logic_theory.specs.Declaration.{Declaration}
use Rattle.mz_logic_theory.specs.Derivations.{Uses as MayUse}
use Rattle.mz_logic_theory.specs.declared.binder.Binder.{Binder}
use Rattle.mz_machine_theory.specs.Profile.{strict}
use Rattle.mz_machine_theory.specs.Spells.{dummy_of}
use Rattle.mz_machine_theory.specs.MachineState.{RowsBefore, State, Declares}
use Rattle.mz_machine_theory.specs.Invariant.{IsFront, Fact}
use Rattle.mz_machine_theory.specs.ProofMachine.{proof_step}
use Rattle.mz_machine_env.specs.Before.{AreWithin, tables_before}
use Rattle.mz_layout_tables.specs.declared.rows_so_far.Rows.{Rows}
use Rattle.mz_logic_theory.specs.Signature.{Signature}
use Rattle.mz_layout_tables.specs.Tables.{term_row, thm_row, term_count, thm_count}
use Rattle.mz_machine_theory.specs.UnifyMachine.{in_citation, in_definition, Matching, UnifyState, unify}
use Rattle.mz_trace.specs.OneHoleContexts.{paid}
use Rattle.mz_trace.specs.Traces.{Trace, stacked, traced, variables_in}
use Rattle.mz_trace.specs.Nodes.{Value, values, expressions_at, expression_at, conversion_at, proof_at, HaveParts, IsExpression, AreExpressions, AreProofs, IsConversion, Applies, Uses}
use Rattle.mz_trace.specs.Entries.{item_at, part_at, items_at, parts_at, AreItems, IsStack, IsWaiting, exprs_onto, proofs_onto, HasExprs, HasProofs}
use Rattle.mz_trace.specs.Sharing.{nodes_for}
use Rattle.mz_trace.specs.declared.node.RunNode.{RunNode}
use Rattle.mz_trace.specs.declared.node.RunNode.TheVariants as node
use Rattle.mz_trace.specs.declared.entry.Item.{Item}
use Rattle.mz_trace.specs.declared.entry.Item.TheVariants.{Expr, Proof}
use Rattle.mz_trace.specs.declared.entry.Entry.TheVariants.{Held, Owed, ForProof, ForTurned, ForOperand, ForUnfolded, ForCut}
use Rattle.mz_trace.specs.declared.entry.Entry.{Entry}
use Rattle.mz_trace.specs.declared.state.Making.{Making}

-- ---- what is made so far

-- its nodes, the heap, the stack with its top first, the hypotheses, the proofs with names, how many variables there are,
-- and the sorts of the dummies
pub record Stage : Type 0 where
  pub nodes : List RunNode
  pub heap : List Item
  pub stack : List Entry
  pub hyps : List ℕ
  pub lets : List ℕ
  pub variables : ℕ
  pub dummies : List ℕ

abbrev pub stage_of : Making → Stage
stage_of m = record {
  nodes = m.nodes.items;
  heap = m.heap.items;
  stack = reverse m.stack.items;
  hyps = m.hyps.items;
  lets = m.lets.items;
  variables = m.variables;
  dummies = m.dummies.items;
}

abbrev pub with_stack : Stage → List Entry → Stage
with_stack s xs = record s { stack = xs }

abbrev pub with_node : Stage → RunNode → Stage
with_node s n = record s { nodes = s.nodes ++ n ∷ [] }

abbrev pub values_in : Stage → List Value
values_in s = values s.nodes

-- the parameters, and the dummies behind them
abbrev pub context_of : List Binder → Stage → List Binder
context_of params s = params ++ map dummy_of s.dummies

abbrev pub state_by : List Value → List Binder → Stage → State Tree
state_by vs params s = record {
  ctx = context_of params s;
  heap = map (item_at vs) s.heap;
  stack = items_at vs s.stack;
  hyps = expressions_at vs s.hyps;
}

abbrev pub trace_by : List Value → Stage → Trace
trace_by vs s = record {
  heap = map (part_at vs) s.heap;
  stack = parts_at vs s.stack;
  lets = map (proof_at vs) s.lets;
}

abbrev pub state_of : List Binder → Stage → State Tree
state_of params s = state_by (values_in s) params s

abbrev pub trace_of : Stage → Trace
trace_of s = trace_by (values_in s) s

-- what is named is there, but on the stack
pub record IsHeld (tables : RowsBefore) (params : List Binder) (s : Stage) : Type 0 where
  pub nodes : HaveParts tables s.nodes
  pub heap : AreItems (values_in s) s.heap
  pub hyps : AreExpressions (values_in s) s.hyps
  pub lets : AreProofs (values_in s) s.lets
  pub variables : s.variables ≡ length (context_of params s)

-- what is named is there
abbrev pub IsMade : RowsBefore → List Binder → Stage → Type 0
IsMade tables params s = IsHeld tables params s × IsStack tables (values_in s) s.stack

-- the same where what is owed was taken from the stack
abbrev pub IsMadeBelow : RowsBefore → List Binder → Stage → Type 0
IsMadeBelow tables params s = IsHeld tables params s × IsWaiting tables (values_in s) s.stack

-- ---- how many nodes there are

-- what waits on the stack makes a node each when it is paid, but for a cut
abbrev pub unmade : List Entry → ℕ
unmade [] = 0
unmade (Held x ∷ xs) = unmade xs
unmade (Owed l r ∷ xs) = unmade xs
unmade (ForProof e p ∷ xs) = suc (unmade xs)
unmade (ForTurned ∷ xs) = suc (unmade xs)
unmade (ForOperand t done left ∷ xs) = suc (unmade xs)
unmade (ForUnfolded t e es ys ∷ xs) = suc (unmade xs)
unmade (ForCut l r ∷ xs) = unmade xs

-- the nodes that are made, and those that will be of what waits
abbrev pub size_of : Stage → ℕ
size_of s = length s.nodes + unmade s.stack

-- ---- one command

-- nothing is asked of derivations here
abbrev pub anything : MayUse
anything = record { cites = λ T. ⊤; gaps = ⊤ }

-- these are rows of the file
abbrev pub IsOfFile : List ℕ → RowsBefore → Type 0
IsOfFile file tables = (rows : Rows) × AreWithin file rows × (tables ≡ tables_before file rows)

-- the state has its fact, whatever the rows declare and however the context goes on
abbrev pub IsKnown : RowsBefore → List Binder → Stage → Type 0
IsKnown tables params s = (env : List Declaration) → Declares tables env → (full : List Binder)
    → IsFront (context_of params s) full → Fact anything env params full (state_of params s)

-- what is known of a stage before a command: nothing, or this
abbrev pub Known : Type 1
Known = RowsBefore → List Binder → Stage → Type 0

abbrev pub IsRead : List ℕ → Known
IsRead file tables params s = IsOfFile file tables × IsKnown tables params s

abbrev pub IsAny : Known
IsAny tables params s = ⊤

-- the command goes through, over such rows
abbrev pub Goes : Known → ProofCode → ℕ → Stage → Type 0
Goes Q c n s = (tables : RowsBefore) × (params : List Binder) × (st : State Tree)
    × Q tables params s × IsMade tables params s × (proof_step strict tables 0 c n (state_of params s) ≡ Ok st)

-- it leads from s to s'
abbrev pub Leads : Known → ProofCode → ℕ → Stage → Stage → Type 0
Leads Q c n s s' = (tables : RowsBefore) (params : List Binder) (st : State Tree)
    → Q tables params s → IsMade tables params s → proof_step strict tables 0 c n (state_of params s) ≡ Ok st
    → IsMade tables params s' × (st ≡ state_of params s') × (traced tables c n (state_of params s) (trace_of s) ≡ Ok (trace_of s'))
    × (size_of s' ≤ size_of s + nodes_for c)

-- ---- parts of commands

-- one variable more, which is in the heap
abbrev pub with_variable : Stage → Stage
with_variable s = record s { nodes = s.nodes ++ node.Var s.variables ∷ []; heap = s.heap ++ Expr (length s.nodes) ∷ []; variables = s.variables + 1 }

-- an item in the heap
abbrev pub with_kept : Stage → Item → Stage
with_kept s x = record s { heap = s.heap ++ x ∷ [] }

abbrev pub on_stack : Stage → Entry → Stage
on_stack s x = record s { stack = x ∷ s.stack }

-- the proof gets the next name, by which it stands in the heap and on the stack
abbrev pub with_name : Stage → (claim proof : ℕ) → Stage
with_name s e p = record s {
  nodes = s.nodes ++ node.Let (length s.lets) ∷ [];
  heap = s.heap ++ Proof e (length s.nodes) ∷ [];
  stack = Held (Proof e (length s.nodes)) ∷ s.stack;
  lets = s.lets ++ p ∷ [];
}

-- the operands on top make way for an application, whose node is the last one
pub record IsBuilt (file : List ℕ) (t : ℕ) (s s' : Stage) (made : ℕ) : Type 0 where
  pub node : RunNode
  pub operands : List ℕ
  pub applies : Applies (Some node) t operands
  pub many : length operands ≡ length (term_row file t).words.params
  pub taken : s.stack ≡ exprs_onto (reverse operands) s'.stack
  pub stage : s' ≡ with_stack (with_node s node) s'.stack
  pub last : made ≡ length s.nodes

-- so many hypotheses are taken wherever the stream runs in a citation
abbrev pub TakesHyps : List ℕ → ℕ → Type 0
TakesHyps stream n = (sigs : List Signature) (ctx : List Binder) (m : Matching Tree) (u : UnifyState Tree)
    → m.mode ≡ in_citation → m.stream ≡ stream → unify strict sigs ctx m ≡ Ok u → length m.items ≡ length u.items + n

-- it runs in one
abbrev pub RunsInCitation : List ℕ → Type 0
RunsInCitation stream = (sigs : List Signature) × (ctx : List Binder) × (m : Matching Tree) × (u : UnifyState Tree)
    × (m.mode ≡ in_citation) × (m.stream ≡ stream) × (unify strict sigs ctx m ≡ Ok u)

-- a citation's operands, and the proofs below them, make way for it
pub record IsCited (file : List ℕ) (t : ℕ) (s s' : Stage) (claim made : ℕ) : Type 0 where
  pub node : RunNode
  pub operands : List ℕ
  pub proofs : List (ℕ × ℕ)
  pub parts : List ℕ
  pub uses : Uses (Some node) t claim operands parts
  pub parts_are : map (λ p. p.1) proofs ≡ reverse parts
  pub many : length operands ≡ length (thm_row file t).params
  pub hyps : TakesHyps (drop (thm_row file t).stream_at file) (length proofs)
  pub taken : s.stack ≡ Held (Expr claim) ∷ exprs_onto (reverse operands) (proofs_onto proofs s'.stack)
  pub stage : s' ≡ with_stack (with_node s node) s'.stack
  pub last : made ≡ length s.nodes

-- ---- paying

-- what was owed above the stack can be paid by the conversion
abbrev pub MayPay : Stage → ℕ → Type 0
MayPay s c = (tables : RowsBefore) × (params : List Binder) × IsMadeBelow tables params s × IsConversion (values_in s) c

-- it is paid: the machine's state is the same, and the tree is where it belongs
pub record IsPaid (tables : RowsBefore) (params : List Binder) (s : Stage) (c : ℕ) (s' : Stage) : Type 0 where
  pub made : IsMade tables params s'
  pub state : state_of params s' ≡ state_of params s
  pub trace : trace_of s' ≡ stacked (trace_of s) (paid (conversion_at (values_in s) c) (trace_of s).stack)
  pub few : size_of s' ≤ size_of s

abbrev pub Pays : Stage → ℕ → Stage → Type 0
Pays s c s' = (tables : RowsBefore) (params : List Binder) → IsMadeBelow tables params s → IsConversion (values_in s) c → IsPaid tables params s c s'

-- it goes into the next place, and makes a conversion that pays in its turn
pub record IsPassedOn (tables : RowsBefore) (params : List Binder) (s : Stage) (c : ℕ) (s' : Stage) (c' : ℕ) : Type 0 where
  pub made : IsMadeBelow tables params s'
  pub conversion : IsConversion (values_in s') c'
  pub state : state_of params s' ≡ state_of params s
  pub trace : stacked (trace_of s') (paid (conversion_at (values_in s') c') (trace_of s').stack) ≡ stacked (trace_of s) (paid (conversion_at (values_in s) c) (trace_of s).stack)
  pub few : size_of s' ≤ size_of s

abbrev pub PassesOn : Stage → ℕ → Stage → ℕ → Type 0
PassesOn s c s' c' = (tables : RowsBefore) (params : List Binder) → IsMadeBelow tables params s → IsConversion (values_in s) c → IsPassedOn tables params s c s' c'

-- one step of it
abbrev pub PaysOne : Stage → ℕ → Stage → Option ℕ → Type 0
PaysOne s c s' None = Pays s c s'
PaysOne s c s' (Some c') = PassesOn s c s' c' × (length s'.stack < length s.stack)

-- ---- before a command

abbrev pub no_stage : Stage
no_stage = record { nodes = []; heap = []; stack = []; hyps = []; lets = []; variables = 0; dummies = [] }

abbrev pub MayBuild : List ℕ → ℕ → Stage → Type 0
MayBuild file t s = (t < term_count file) × HasExprs (length (term_row file t).words.params) s.stack

-- a stream that runs in a citation, and as many proofs as it takes hypotheses
abbrev pub MayTake : List ℕ → List Entry → Type 0
MayTake stream xs = (sigs : List Signature) × (ctx : List Binder) × (m : Matching Tree) × (u : UnifyState Tree)
    × (m.mode ≡ in_citation) × (m.stream ≡ stream) × (unify strict sigs ctx m ≡ Ok u) × ((n : ℕ) → length m.items ≡ length u.items + n → HasProofs n xs)

abbrev pub MayCite : List ℕ → ℕ → Stage → Type 0
MayCite file t s = (t < thm_count file) × ((claim : ℕ) × (ns : List ℕ) × (xs : List Entry)
    × (s.stack ≡ Held (Expr claim) ∷ exprs_onto ns xs) × (length ns ≡ length (thm_row file t).params)
    × MayTake (drop (thm_row file t).stream_at file) xs)

-- ---- a definition's stream

abbrev pub in_body : List ℕ → List Tree → Tree → Matching Tree
in_body stream es e = record { mode = in_definition; stream = stream; operands = es; target = e; items = [] }

abbrev pub MayMeet : List RunNode → List ℕ → ℕ → Type 0
MayMeet nodes stream target = (tables : RowsBefore) × (sigs : List Signature) × (ctx : List Binder) × (es : List Tree) × (u : UnifyState Tree)
    × HaveParts tables nodes × IsExpression (values nodes) target × (unify strict sigs ctx (in_body stream es (expression_at (values nodes) target)) ≡ Ok u)

abbrev pub Meets : List RunNode → List ℕ → ℕ → List ℕ → Type 0
Meets nodes stream target met = (tables : RowsBefore) (sigs : List Signature) (ctx : List Binder) (es : List Tree) (u : UnifyState Tree)
    → HaveParts tables nodes → IsExpression (values nodes) target → unify strict sigs ctx (in_body stream es (expression_at (values nodes) target)) ≡ Ok u
    → variables_in (drop (length es) u.apart) ≡ met

-- before the first command so many parameters are variables, which are in the heap
abbrev pub begun : ℕ → Stage
begun zero = no_stage
begun (suc n) = with_variable (begun n)
