-- A body names a proof for each of its commands at the most.
use Rattle.std.proofs.Common.{◌≡◌, ◌≤◌, ℕ, zero, suc, ◌+◌, List, [], ◌∷◌, Option, Some, None, Result, Ok, Err, length, drop, subst, arith, length-append}
use Rattle.std.specs.Prelude.{slice_get}
use Rattle.mz_cmd.specs.declared.rule.K.TheVariants as k
use Rattle.mz_cmd.specs.declared.command.Cmd.{Cmd}
use Rattle.mz_cmd.specs.declared.command.CmdFault.{CmdFault}
use Rattle.mz_cmd.specs.declared.code.ProofCode.{ProofCode}
use Rattle.mz_cmd.specs.declared.code.ProofCode.TheVariants as code
use Rattle.mz_cmd.specs.Reading.{first_command}
use Rattle.mz_logic_theory.specs.Tree.{Tree}
use Rattle.mz_logic_theory.specs.Conversions.{refl_conv}
use Rattle.mz_mmu_theory.specs.Proof.{Proof, by_hyp}
use Rattle.mz_machine_theory.specs.Profile.{strict, tree_parts}
use Rattle.mz_machine_theory.specs.Spells.{trees_of}
use Rattle.mz_machine_theory.specs.Steps.{Turn, over, goes_on}
use Rattle.mz_machine_theory.proofs.Offered.{from_bind, from_want, taken, taken-is, from_follow}
use Rattle.mz_machine_theory.specs.MachineState.{RowsBefore, State, Heading}
use Rattle.mz_machine_theory.specs.Premises.{pop_expr, pop_proof, pop_obligation, pop_sides}
use Rattle.mz_machine_theory.specs.ProofMachine.{matched_by, unfolding_of, proof_step}
use Rattle.mz_machine_theory.specs.Bodies.{BodyCommand, ends, proves, body_command}
use Rattle.mz_trace.specs.OneHoleContexts.{Part, expression, proved, owed, converted, for_proof, for_turned, for_operand, for_unfolded, for_cut, paid, by_operands}
use Rattle.mz_trace.specs.Traces.{Trace, stacked, kept, named, saved, referred, conversion_saved, to_convert, below_sides, variables_in, cited, traced, trace_turn, trace_command, trace_from}

-- one let more, if any
abbrev IsFew : Trace → Trace → Type 0
IsFew tr next = length next.lets ≤ length tr.lets + 1

same-few : (tr : Trace) → IsFew tr tr
same-few tr = omega arith

made-few : (tr made next : Trace) → taken made ≡ taken next → IsFew tr made → IsFew tr next
made-few tr made next e h = subst (λ (z : Trace). IsFew tr z) (taken-is made next e) h

named-few : (p : Proof) (xs : List Part) (tr : Trace) → IsFew tr (named p xs tr)
named-few p xs tr = let more = length-append tr.lets (p ∷ []) in omega (arith, more)

saved-few : (xs : List Part) (tr : Trace) → IsFew tr (saved xs tr)
saved-few (proved p ∷ xs) tr = named-few p xs tr
saved-few _ tr = same-few tr

referred-few : (x : Part) (tr : Trace) → IsFew tr (referred x tr)
referred-few expression tr = same-few tr
referred-few _ tr = same-few tr

conversion-few : (xs : List Part) (tr : Trace) → IsFew tr (conversion_saved xs tr)
conversion-few (expression ∷ xs) tr = same-few tr
conversion-few _ tr = same-few tr

row-few : (tables : RowsBefore) (c : ProofCode) (n : ℕ) (st : State Tree) (tr next : Trace) → traced tables c n st tr ≡ Ok next → IsFew tr next
unfolding traced
row-few tables code.Term t st tr next e =
    from_want (slice_get tables.terms t) k.TermIndex _ next e λ row _ e1.
    made-few tr (stacked tr (expression ∷ drop (length row.signature.params) tr.stack)) next e1 (same-few tr)
row-few tables code.TermSave t st tr next e =
    from_want (slice_get tables.terms t) k.TermIndex _ next e λ row _ e1.
    made-few tr (kept (stacked tr (expression ∷ drop (length row.signature.params) tr.stack)) expression) next e1 (same-few tr)
row-few tables code.Dummy s st tr next e = made-few tr (kept (stacked tr (expression ∷ tr.stack)) expression) next e (same-few tr)
row-few tables code.Thm t st tr next e =
    from_bind (cited tables t st tr) _ next e λ p _ e1. made-few tr (stacked tr (proved p.0 ∷ p.1)) next e1 (same-few tr)
row-few tables code.ThmSave t st tr next e =
    from_bind (cited tables t st tr) _ next e λ p _ e1. made-few tr (named p.0 p.1 tr) next e1 (named-few p.0 p.1 tr)
row-few tables code.Hyp n st tr next e =
    made-few tr (kept (stacked tr (drop 1 tr.stack)) (proved (by_hyp (length st.hyps)))) next e (same-few tr)
row-few tables code.Conv n st tr next e =
    from_bind (pop_proof st.stack) _ next e λ p _ e1.
    from_bind (pop_expr p.1) _ next e1 λ f _ e2. made-few tr (stacked tr (to_convert f.0 tr.stack)) next e2 (same-few tr)
row-few tables code.Refl n st tr next e =
    from_bind (pop_obligation st.stack) _ next e λ o _ e1.
    made-few tr (stacked tr (paid (refl_conv o.0) (drop 1 tr.stack))) next e1 (same-few tr)
row-few tables code.Symm n st tr next e = made-few tr (stacked tr (owed ∷ for_turned ∷ drop 1 tr.stack)) next e (same-few tr)
row-few tables code.Cong n st tr next e =
    from_bind (pop_obligation st.stack) _ next e λ o _ e1.
    from_want (tree_parts o.0) k.Cong _ next e1 λ es _ e2.
    made-few tr (stacked tr (by_operands es.0 (length es.1) (drop 1 tr.stack))) next e2 (same-few tr)
row-few tables code.Unfold n st tr next e =
    from_bind (pop_expr st.stack) _ next e λ f _ e1.
    from_bind (pop_sides strict f.1) _ next e1 λ o _ e2.
    from_want (tree_parts o.0) k.Unfold _ next e2 λ es _ e3.
    from_bind (unfolding_of strict tables st) _ next e3 λ m _ e4.
    from_bind (matched_by strict tables st.ctx m.0) _ next e4 λ u _ e5.
    made-few tr (stacked tr (owed ∷ for_unfolded es.0 (trees_of es.1) (variables_in (drop (length es.1) u.apart)) ∷ below_sides (drop 1 tr.stack))) next e5 (same-few tr)
row-few tables code.ConvCut n st tr next e = made-few tr (stacked tr (owed ∷ for_cut ∷ drop 1 tr.stack)) next e (same-few tr)
row-few tables code.ConvSave n st tr next e = made-few tr (conversion_saved tr.stack tr) next e (conversion-few tr.stack tr)
row-few tables code.Save n st tr next e = made-few tr (saved tr.stack tr) next e (saved-few tr.stack tr)
row-few tables code.Sorry n st tr next e = absurd cc
row-few tables _ i st tr next e =
    from_want (slice_get tr.heap i) k.HeapIndex _ next e λ x _ e1. made-few tr (referred x tr) next e1 (referred-few x tr)

-- what stands beside the state after a turn
abbrev beside : Turn (State Tree × Trace) → Trace
beside (over s) = s.1
beside (goes_on len s) = s.1

module _ (tables : RowsBefore) (h : Heading) where
  turn-few : (len : ℕ) (s : State Tree × Trace) (t : Turn (State Tree × Trace)) (o : Option BodyCommand) → trace_turn tables h len s o ≡ Ok t → IsFew s.1 (beside t)
  turn-few len s t None e = absurd cc
  turn-few len s t (Some ends) e = subst (λ (z : Turn (State Tree × Trace)). IsFew s.1 (beside z)) (taken-is (over s) t e) (same-few s.1)
  turn-few len s t (Some (proves c n)) e =
      from_bind (proof_step strict tables 0 c n s.0) _ t e λ st _ e1.
      from_bind (traced tables c n s.0 s.1) _ t e1 λ tr made e2.
      subst (λ (z : Turn (State Tree × Trace)). IsFew s.1 (beside z)) (taken-is (goes_on len (st, tr)) t e2) (row-few tables c n s.0 s.1 tr made)

  command-few : (s : State Tree × Trace) (t : Turn (State Tree × Trace)) (r : Result Cmd CmdFault) → trace_command tables h s r ≡ Ok t → IsFew s.1 (beside t)
  command-few s t (Err f) e = absurd cc
  command-few s t (Ok c) e = turn-few c.len s t (body_command strict h.kind c.code c.value) e

  pub few-lets : (n : ℕ) (bytes : List ℕ) (s u : State Tree × Trace) → trace_from tables h n bytes s ≡ Ok u → length u.1.lets ≤ length s.1.lets + n
  unfolding trace_from
  few-lets zero bytes s u e = absurd cc
  few-lets (suc n) bytes s u e =
      from_follow (trace_command tables h s (first_command bytes)) _ u e
      (λ last ran is.
      let one : length last.1.lets ≤ length s.1.lets + 1 = command-few s (over last) (first_command bytes) ran in
      subst (λ (z : State Tree × Trace). length z.1.lets ≤ length s.1.lets + suc n) is (omega (arith, one)))
      (λ len next ran rest.
      let one : length next.1.lets ≤ length s.1.lets + 1 = command-few s (goes_on len next) (first_command bytes) ran in
      let more = few-lets n (drop len bytes) next u rest in
      omega (arith, one, more))
