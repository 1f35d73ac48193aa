-- The proof that a theorem's body makes, as a text states it: what each command of the body makes beside the machine's
-- state (the .mmb format, its list of proof commands; the form of proofs is this project's own).
use Rattle.std.specs.Prelude.{◌≡◌, ℕ, zero, suc, ◌-◌, List, [], ◌∷◌, ◌++◌, length, map, drop, Option, Some, None, Result, Ok, Err, slice_get}
use Rattle.mz_cmd.specs.declared.rule.K.{K}
use Rattle.mz_cmd.specs.declared.rule.K.TheVariants as k
use Rattle.mz_cmd.specs.declared.command.Cmd.{Cmd}
use Rattle.mz_cmd.specs.declared.command.CmdFault.{CmdFault}
use Rattle.mz_cmd.specs.declared.code.ProofCode.{ProofCode}
use Rattle.mz_cmd.specs.declared.code.ProofCode.TheVariants as code
use Rattle.mz_cmd.specs.Reading.{first_command}
use Rattle.mz_logic_theory.specs.Tree.{Tree, var, app}
use Rattle.mz_logic_theory.specs.Conversions.{refl_conv}
use Rattle.mz_logic_theory.specs.declared.binder.Binder.{Binder}
use Rattle.mz_mmu_theory.specs.Proof.{Proof, by_hyp, by_name, by_citation, by_let, no_proofs}
use Rattle.mz_machine_theory.specs.Steps.{◌>>=◌, want, Turn, over, goes_on, follow}
use Rattle.mz_machine_theory.specs.Spells.{trees_of}
use Rattle.mz_machine_theory.specs.Profile.{strict, tree_parts}
use Rattle.mz_machine_theory.specs.MachineState.{RowsBefore, State, Heading}
use Rattle.mz_machine_theory.specs.Premises.{pop_expr, pop_proof, pop_obligation, pop_sides}
use Rattle.mz_machine_theory.specs.ProofMachine.{citation, matched_by, unfolding_of, proof_step}
use Rattle.mz_machine_theory.specs.Bodies.{BodyCommand, ends, proves, body_command, body_start}
use Rattle.mz_trace.specs.OneHoleContexts.{Part, expression, proved, owed, converted, for_proof, for_turned, for_unfolded, for_cut, paid, by_operands, proofs_above}

-- what stands beside the machine's heap and stack, and the proofs that have got a name, in order
pub record Trace : Type 0 where
  pub heap : List Part
  pub stack : List Part
  pub lets : List Proof

abbrev pub stacked : Trace → List Part → Trace
stacked tr xs = record tr { stack = xs }

abbrev pub kept : Trace → Part → Trace
kept tr x = record tr { heap = tr.heap ++ x ∷ [] }

-- ---- proofs with names

-- the proof on top of these gets the next name, and stands by it from then on
abbrev pub named : Proof → List Part → Trace → Trace
named p xs tr = record {
  heap = tr.heap ++ proved (by_name (length tr.lets)) ∷ [];
  stack = proved (by_name (length tr.lets)) ∷ xs;
  lets = tr.lets ++ p ∷ [];
}

-- ---- the heap

-- what stands on top is kept: a proof by a name
abbrev pub saved : List Part → Trace → Trace
saved (proved p ∷ xs) tr = named p xs tr
saved (x ∷ xs) tr = kept tr x
saved [] tr = tr

-- a conversion of the heap pays the obligation on top with its tree once more; another item is pushed
abbrev pub referred : Part → Trace → Trace
referred (converted c) tr = stacked tr (paid c (drop 1 tr.stack))
referred x tr = stacked tr (x ∷ tr.stack)

-- the conversion on top is kept, and its tree pays the obligation that was cut
abbrev pub conversion_saved : List Part → Trace → Trace
conversion_saved (converted c ∷ xs) tr = kept (stacked tr (paid c xs)) (converted c)
conversion_saved xs tr = tr

-- ---- conversions

-- a proof of the expression e from the one on top, where an obligation is paid
abbrev pub to_convert : Tree → List Part → List Part
to_convert e (proved p ∷ xs) = owed ∷ for_proof e p ∷ drop 1 xs
to_convert e xs = xs

-- what stands below the obligation that an unfolding takes, perhaps from below the expression that is unfolded
abbrev pub below_sides : List Part → List Part
below_sides (expression ∷ xs) = drop 1 xs
below_sides xs = drop 1 xs

-- variables by their numbers
abbrev pub variable_in : Tree → List ℕ
variable_in (var x) = x ∷ []
variable_in (app t es) = []

abbrev pub variables_in : List Tree → List ℕ
variables_in [] = []
variables_in (e ∷ es) = variable_in e ++ variables_in es

-- ---- citations

-- the proof by citing assertion t, and what stands below the proofs of its hypotheses
abbrev pub cited : RowsBefore → ℕ → State Tree → Trace → Result (Proof × List Part) K
cited tables t st tr = do
  m ← citation strict tables t st
  u ← matched_by strict tables st.ctx m
  let below = drop (suc (length m.operands)) tr.stack in
      let count = length m.items - length u.items in
      Ok (by_citation t (trees_of m.operands) (proofs_above count below no_proofs), drop count below)

-- ---- one clause a command, beside the machine's state before it

unfoldable pub traced : RowsBefore → ProofCode → ℕ → State Tree → Trace → Result Trace K
traced tables code.Term t st tr = do
  row ← want (slice_get tables.terms t) k.TermIndex
  Ok (stacked tr (expression ∷ drop (length row.signature.params) tr.stack))
traced tables code.TermSave t st tr = do
  row ← want (slice_get tables.terms t) k.TermIndex
  Ok (kept (stacked tr (expression ∷ drop (length row.signature.params) tr.stack)) expression)
traced tables code.Ref i st tr = do
  x ← want (slice_get tr.heap i) k.HeapIndex
  Ok (referred x tr)
traced tables code.ConvRef i st tr = do
  x ← want (slice_get tr.heap i) k.HeapIndex
  Ok (referred x tr)
traced tables code.Dummy s st tr = Ok (kept (stacked tr (expression ∷ tr.stack)) expression)
traced tables code.Thm t st tr = do
  p ← cited tables t st tr
  Ok (stacked tr (proved p.0 ∷ p.1))
traced tables code.ThmSave t st tr = do
  p ← cited tables t st tr
  Ok (named p.0 p.1 tr)
traced tables code.Hyp n st tr = Ok (kept (stacked tr (drop 1 tr.stack)) (proved (by_hyp (length st.hyps))))
traced tables code.Conv n st tr = do
  p ← pop_proof st.stack
  e ← pop_expr p.1
  Ok (stacked tr (to_convert e.0 tr.stack))
traced tables code.Refl n st tr = do
  o ← pop_obligation st.stack
  Ok (stacked tr (paid (refl_conv o.0) (drop 1 tr.stack)))
traced tables code.Symm n st tr = Ok (stacked tr (owed ∷ for_turned ∷ drop 1 tr.stack))
traced tables code.Cong n st tr = do
  o ← pop_obligation st.stack
  es ← want (tree_parts o.0) k.Cong
  Ok (stacked tr (by_operands es.0 (length es.1) (drop 1 tr.stack)))
traced tables code.Unfold n st tr = do
  e ← pop_expr st.stack
  o ← pop_sides strict e.1
  es ← want (tree_parts o.0) k.Unfold
  m ← unfolding_of strict tables st
  u ← matched_by strict tables st.ctx m.0
  Ok (stacked tr (owed ∷ for_unfolded es.0 (trees_of es.1) (variables_in (drop (length es.1) u.apart)) ∷ below_sides (drop 1 tr.stack)))
traced tables code.ConvCut n st tr = Ok (stacked tr (owed ∷ for_cut ∷ drop 1 tr.stack))
traced tables code.ConvSave n st tr = Ok (conversion_saved tr.stack tr)
traced tables code.Save n st tr = Ok (saved tr.stack tr)
traced tables code.Sorry n st tr = Err k.Sorry

-- ---- a whole body

-- the command of this length: the machine's row and what is made beside it, or the END
abbrev pub trace_turn : RowsBefore → Heading → ℕ → State Tree × Trace → Option BodyCommand → Result (Turn (State Tree × Trace)) K
trace_turn tables h len s None = Err k.Command
trace_turn tables h len s (Some ends) = Ok (over s)
trace_turn tables h len s (Some (proves c value)) = do
  st ← proof_step strict tables 0 c value s.0
  tr ← traced tables c value s.0 s.1
  Ok (goes_on len (st, tr))

abbrev pub trace_command : RowsBefore → Heading → State Tree × Trace → Result Cmd CmdFault → Result (Turn (State Tree × Trace)) K
trace_command tables h s (Err _) = Err k.Command
trace_command tables h s (Ok c) = trace_turn tables h c.len s (body_command strict h.kind c.code c.value)

-- what is left of a body, up to its END: n bounds its commands, of which each takes a byte
unfoldable pub trace_from : RowsBefore → Heading → ℕ → List ℕ → State Tree × Trace → Result (State Tree × Trace) K
trace_from tables h zero bytes s = Err k.Command
trace_from tables h (suc n) bytes s = follow (trace_command tables h s (first_command bytes)) (λ len next. trace_from tables h n (drop len bytes) next)

-- at first the parameters are in the heap
abbrev pub trace_start : Heading → State Tree × Trace
trace_start h = (body_start strict h, record { heap = map (λ b. expression) h.params; stack = []; lets = [] })

abbrev pub trace_body : RowsBefore → Heading → List ℕ → Result (State Tree × Trace) K
trace_body tables h bytes = trace_from tables h (length bytes) bytes (trace_start h)

-- ---- the proof

-- the proof behind the named ones, in order
abbrev pub under_lets : List Proof → Proof → Proof
under_lets [] p = p
under_lets (q ∷ qs) p = by_let q (under_lets qs p)

-- The proof that a theorem's body makes: the one that is left, behind those that got a name; and its dummies in the order
-- in which they were made, behind the parameters.
pub record Made (tables : RowsBefore) (h : Heading) (bytes : List ℕ) (dummies : List Binder) (lets : List Proof) (root : Proof) : Type 0 where
  pub last : State Tree × Trace
  pub runs : trace_body tables h bytes ≡ Ok last
  pub left : last.1.stack ≡ proved root ∷ []
  pub names : last.1.lets ≡ lets
  pub dummies_are : last.0.ctx ≡ h.params ++ dummies
