-- What is promised of the machine by identity: what it lets through the standard machine lets through; and it lets through
-- what makes each application once (this project's own).
use Rattle.std.specs.Prelude.{◌≡◌, ℕ, true, ◌↔◌, List, [], length, map, Ok}
use Rattle.mz_cmd.specs.declared.code.ProofCode.{ProofCode}
use Rattle.mz_cmd.specs.declared.code.ProofCode.TheVariants as code
use Rattle.mz_logic_theory.specs.Tree.{Tree, none}
use Rattle.mz_logic_theory.specs.Signature.{Signature}
use Rattle.mz_logic_theory.specs.declared.binder.Binder.{Binder}
use Rattle.mz_machine_theory.specs.Profile.{strict}
use Rattle.mz_machine_theory.specs.Streams.{of_assertion, of_definition}
use Rattle.mz_machine_theory.specs.UnifyMachine.{kind_of, Matching, UnifyState, unify}
use Rattle.mz_machine_theory.specs.Spells.{Marks, SpellsText}
use Rattle.mz_machine_theory.specs.Sorted.{Sorted}
use Rattle.mz_machine_theory.specs.UnifyLaws.{RunsLeaving, unfolding_by}
use Rattle.mz_machine_theory.specs.MachineState.{RowsBefore, State, is_definition, Heading}
use Rattle.mz_machine_theory.specs.ProofMachine.{proof_step, proof_end}
use Rattle.mz_machine_theory.specs.Bodies.{Runs, body_run}
use Rattle.mz_binary_theory.specs.Standards.{run_by}
use Rattle.mz_pmachine_theory.specs.NodeIdentity.{Numbered, tree_of, equal, portable}
use Rattle.mz_pmachine_theory.specs.FilesByIdentity.{passes, portable_standard}
use Rattle.mz_pmachine_theory.specs.Simulation.{items_onto, state_onto, matching_onto}
use Rattle.mz_pmachine_theory.specs.SafeSaving.{AreWhole}
use Rattle.mz_pmachine_theory.specs.SharedBuilding.{portable_trees, row_makes, body_makes, MadeOnce, numbered, AreNumbered}

-- ---- by the standard machine

-- a body that runs by identity runs by the standard machine
abbrev pub BodiesRunStrict : Type 0
BodiesRunStrict = (tables : RowsBefore) (h : Heading) (at : ℕ) (bytes : List ℕ) → Runs portable tables h at bytes → Runs strict tables h at bytes

-- each row that goes through goes through, numbers forgotten
abbrev pub RowsRunStrict : Type 0
RowsRunStrict = (tables : RowsBefore) (at : ℕ) (c : ProofCode) (value : ℕ) (st s : State Numbered)
    → proof_step portable tables at c value st ≡ Ok s → proof_step strict tables at c value (state_onto tree_of st) ≡ Ok (state_onto tree_of s)

-- and each stream, with the heap and the items that it leaves
abbrev pub StreamsRunStrict : Type 0
StreamsRunStrict = (sigs : List Signature) (ctx : List Binder) (m : Matching Numbered) (u : UnifyState Numbered)
    → unify portable sigs ctx m ≡ Ok u
    → (v : UnifyState Tree) × (unify strict sigs ctx (matching_onto tree_of m) ≡ Ok v) × (v.heap ≡ map tree_of u.heap) × (v.items ≡ items_onto tree_of u.items)

-- ---- by identity

-- where no application is made by two commands, a body that meets all else that is asked runs by identity
abbrev pub SharedBodiesRun : Type 0
SharedBodiesRun = (tables : RowsBefore) (h : Heading) (at : ℕ) (bytes : List ℕ)
    → Runs portable_trees tables h at bytes → MadeOnce (body_makes portable_trees tables h at bytes) → Runs portable tables h at bytes

-- each row does, if numbers are the places of what is made
abbrev pub NumberedRowsRun : Type 0
NumberedRowsRun = (g : Tree → ℕ) (tables : RowsBefore) (at : ℕ) (c : ProofCode) (value : ℕ) (st s : State Tree)
    → AreNumbered g (row_makes portable_trees tables at c value st)
    → proof_step portable_trees tables at c value st ≡ Ok s → proof_step portable tables at c value (state_onto (numbered g) st) ≡ Ok (state_onto (numbered g) s)

-- and each stream
abbrev pub NumberedStreamsRun : Type 0
NumberedStreamsRun = (g : Tree → ℕ) (sigs : List Signature) (ctx : List Binder) (m : Matching Tree) (u : UnifyState Tree)
    → unify portable_trees sigs ctx m ≡ Ok u
    → (v : UnifyState Numbered) × (unify portable sigs ctx (matching_onto (numbered g) m) ≡ Ok v) × (v.heap ≡ map (numbered g) u.heap) × (v.items ≡ items_onto (numbered g) u.items)

-- ---- what is asked beside numbers

-- the stream of an assertion has no dummy, and nothing is asked of it
abbrev pub AssertionsRunToo : Type 0
AssertionsRunToo = (sigs : List Signature) (ctx : List Binder) (m : Matching Tree) (u : UnifyState Tree)
    → kind_of m.mode ≡ of_assertion → unify strict sigs ctx m ≡ Ok u
    → (v : UnifyState Tree) × (unify portable_trees sigs ctx m ≡ Ok v) × (v.heap ≡ u.heap) × (v.items ≡ u.items)

-- nor of a row but Unfold's
abbrev pub RowsRunToo : Type 0
RowsRunToo = (tables : RowsBefore) (at : ℕ) (c : ProofCode) (value : ℕ) (st s : State Tree)
    → (c ≡ code.Unfold → ⊥) → proof_step strict tables at c value st ≡ Ok s → proof_step portable_trees tables at c value st ≡ Ok s

-- nor of an END but a definition's
abbrev pub EndsRunToo : Type 0
EndsRunToo = (tables : RowsBefore) (h : Heading) (st s : State Tree)
    → (h.kind ≡ is_definition → ⊥) → proof_end strict tables h st ≡ Ok s → proof_end portable_trees tables h st ≡ Ok s

-- a definition's stream, of which saved applications have their dummies met before them, runs too
abbrev pub WholeStreamsRunToo : Type 0
WholeStreamsRunToo = (sigs : List Signature) (ctx params : List Binder) (stream : List ℕ) (body : Tree) (marks : Marks)
    → SpellsText of_definition sigs params stream none body marks → AreWhole marks.trees
    → (es : List Tree) (e : Tree) (heap : List Tree) → length es ≡ length params → Sorted sigs ctx e
    → RunsLeaving sigs ctx (unfolding_by stream es e) heap []
    → (v : UnifyState Tree) × (unify portable_trees sigs ctx (unfolding_by stream es e) ≡ Ok v) × (v.heap ≡ heap)

-- ---- equality

-- the test of equality
abbrev pub EqualIsSame : Type 0
EqualIsSame = (a b : Numbered) → (equal a b ≡ true) ↔ (a ≡ b)

-- ---- whole files

-- what a body comes to by that standard is what it comes to by identity
abbrev pub StandardIsByIdentity : Type 0
StandardIsByIdentity = (tables : RowsBefore) (h : Heading) (at : ℕ) (bytes : List ℕ) → passes (run_by portable_standard tables h at bytes) ≡ passes (body_run portable tables h at bytes)
