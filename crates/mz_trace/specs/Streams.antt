-- What the commands of a stream take: hypotheses, and the nodes that are a definition's targets.
use Rattle.std.specs.Prelude.{ℕ, ◌≡◌, List, ◌++◌, Some, Ok, reverse}
use Rattle.mz_cmd.specs.declared.code.UnifyCode.{UnifyCode}
use Rattle.mz_cmd.specs.declared.code.UnifyCode.TheVariants.{Term, TermSave, Ref, Dummy, Hyp}
use Rattle.mz_logic_theory.specs.Tree.{Tree}
use Rattle.mz_logic_theory.specs.Signature.{Signature}
use Rattle.mz_logic_theory.specs.declared.binder.Binder.{Binder}
use Rattle.mz_machine_theory.specs.Profile.{strict}
use Rattle.mz_machine_theory.specs.Streams.{of_definition, UnifyCommand, command_in}
use Rattle.mz_machine_theory.specs.UnifyMachine.{in_definition, UnifyState, unify_step}
use Rattle.mz_machine_theory.specs.MachineState.{RowsBefore}
use Rattle.mz_trace.specs.Traces.{variables_in}
use Rattle.mz_trace.specs.Nodes.{values, expressions_at, HaveParts, AreExpressions}
use Rattle.mz_trace.specs.declared.node.RunNode.{RunNode}

-- ---- hypotheses

-- so many are taken by a command
abbrev pub hyps_of : UnifyCode → ℕ
hyps_of Term = 0
hyps_of TermSave = 0
hyps_of Ref = 0
hyps_of Dummy = 0
hyps_of Hyp = 1

-- ---- targets

-- a state whose targets are these nodes, the top one last, and which met these variables behind the operands es
abbrev pub IsReached : List RunNode → List Tree → List ℕ → List ℕ → UnifyState Tree → Type 0
IsReached nodes es targets met st =
    AreExpressions (values nodes) (reverse targets) × (st.targets ≡ expressions_at (values nodes) (reverse targets))
    × ((more : List Tree) × (st.apart ≡ es ++ more) × (variables_in more ≡ met))

-- the command leads from one state to the other
abbrev pub Executes : List Signature → List Binder → UnifyCode → UnifyState Tree → UnifyState Tree → Type 0
Executes sigs ctx code st s = (value : ℕ) × (u : UnifyCommand) × (command_in of_definition value (Some code) ≡ Some u) × (unify_step strict sigs ctx in_definition u st ≡ Ok s)

-- it goes through on such a state
abbrev pub MayTakeApart : List RunNode → UnifyCode → List ℕ → List ℕ → Type 0
MayTakeApart nodes code targets met = (tables : RowsBefore) × (sigs : List Signature) × (ctx : List Binder) × (es : List Tree) × (st s : UnifyState Tree)
    × HaveParts tables nodes × IsReached nodes es targets met st × Executes sigs ctx code st s

-- from each such state it leads to one with these targets and variables
abbrev pub TakesApart : List RunNode → UnifyCode → (targets met targets' met' : List ℕ) → Type 0
TakesApart nodes code targets met targets' met' = (tables : RowsBefore) (sigs : List Signature) (ctx : List Binder) (es : List Tree) (st s : UnifyState Tree)
    → HaveParts tables nodes → IsReached nodes es targets met st → Executes sigs ctx code st s → IsReached nodes es targets' met' s
