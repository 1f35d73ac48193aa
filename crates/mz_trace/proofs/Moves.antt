-- What commands lead to that only move what stands on the stack, or pay.
use Rattle.std.proofs.Common.{Result, ◌≡◌, ◌≤◌, ◌+◌, ℕ, List, [], ◌∷◌, ◌++◌, Ok, length, map, refl, sym, ap, ◌∙◌, subst, arith}
use Rattle.std.proofs.lemmas.List.{map-append}
use Rattle.mz_cmd.specs.declared.rule.K.{K}
use Rattle.mz_cmd.specs.declared.rule.K.TheVariants as k
use Rattle.mz_cmd.specs.declared.code.ProofCode.{ProofCode}
use Rattle.mz_cmd.specs.declared.code.ProofCode.TheVariants as code
use Rattle.mz_logic_theory.specs.Tree.{Tree}
use Rattle.mz_logic_theory.specs.Conversions.{Conversion, refl_conv}
use Rattle.mz_logic_theory.specs.declared.binder.Binder.{Binder}
use Rattle.mz_machine_theory.specs.Profile.{strict}
use Rattle.mz_machine_theory.specs.Tests.{same_tree}
use Rattle.mz_machine_theory.proofs.Offered.{from_need, taken-is}
use Rattle.mz_machine_theory.specs.MachineState.{RowsBefore, State}
use Rattle.mz_machine_theory.specs.ProofMachine.{proof_step}
use Rattle.mz_trace.specs.OneHoleContexts.{paid}
use Rattle.mz_trace.specs.Traces.{Trace, stacked, traced}
use Rattle.mz_trace.specs.Nodes.{Value, a_conversion, expression_at, conversion_at, value_of, HasParts, IsConversion}
use Rattle.mz_trace.specs.Entries.{item_at, part_at, AreItems, parts_at, IsWaiting}
use Rattle.mz_trace.specs.Commands.{Stage, with_node, with_stack, with_kept, values_in, state_of, trace_of, IsHeld, IsMade, IsMadeBelow, Known, IsAny, Goes, Leads, MayPay, Pays, size_of}
use Rattle.mz_trace.specs.Sharing.{nodes_for}
use Rattle.mz_trace.specs.declared.node.RunNode.{RunNode}
use Rattle.mz_trace.specs.declared.node.RunNode.TheVariants as node
use Rattle.mz_trace.specs.declared.entry.Item.{Item}
use Rattle.mz_trace.specs.declared.entry.Item.TheVariants.{Expr, Proof, Conversion as ConversionItem}
use Rattle.mz_trace.specs.declared.entry.Entry.{Entry}
use Rattle.mz_trace.specs.declared.entry.Entry.TheVariants.{Held, Owed, ForProof, ForTurned, ForCut}
use Rattle.mz_trace.proofs.FewNodes.{one-node}
use Rattle.mz_trace.proofs.Stages.{held-of, state-below, trace-below, held-still, waiting-still, conversion-added}

-- a stage whose stack is known
pub leads-to : (Q : Known) (c : ProofCode) (n : ℕ) (s : Stage) (b : List Entry) (s' t : Stage) → s.stack ≡ b → s' ≡ t → Leads Q c n (with_stack s b) t → Leads Q c n s s'
leads-to Q c n s b s' t h h' go = subst (λ z. Leads Q c n (with_stack s z) s') (sym h) (subst (λ z. Leads Q c n (with_stack s b) z) (sym h') go)

-- ---- moves

module _ (n : ℕ) (s : Stage) (xs : List Entry) where
  pub conv-leads : (e p f : ℕ) → Leads IsAny code.Conv n (with_stack s (Held (Proof e p) ∷ Held (Expr f) ∷ xs)) (with_stack s (Owed f e ∷ ForProof f p ∷ xs))
  unfolding proof_step traced
  conv-leads e p f tables params st q made row =
      let (ep, (hf, below)) = made.1 in (
        (held-of tables params s _ (Owed f e ∷ ForProof f p ∷ xs) made.0, (hf, ep.0, (hf, ep.1, below))),
        sym (taken-is (state_of params (with_stack s (Owed f e ∷ ForProof f p ∷ xs))) st row),
        refl,
        omega arith,
      )

  pub symm-leads : (l r : ℕ) → Leads IsAny code.Symm n (with_stack s (Owed l r ∷ xs)) (with_stack s (Owed r l ∷ ForTurned ∷ xs))
  unfolding proof_step traced
  symm-leads l r tables params st q made row = (
    (held-of tables params s _ (Owed r l ∷ ForTurned ∷ xs) made.0, (made.1.1, made.1.0, made.1.2)),
    sym (taken-is (state_of params (with_stack s (Owed r l ∷ ForTurned ∷ xs))) st row),
    refl,
    omega arith,
  )

  pub conv_cut-leads : (l r : ℕ) → Leads IsAny code.ConvCut n (with_stack s (Owed l r ∷ xs)) (with_stack s (Owed l r ∷ ForCut l r ∷ xs))
  unfolding proof_step traced
  conv_cut-leads l r tables params st q made row = (
    (held-of tables params s _ (Owed l r ∷ ForCut l r ∷ xs) made.0, (made.1.0, made.1.1, (made.1.0, made.1.1, made.1.2))),
    sym (taken-is (state_of params (with_stack s (Owed l r ∷ ForCut l r ∷ xs))) st row),
    refl,
    omega arith,
  )

abbrev pub taken-trace : Trace → Result Trace K
taken-trace tr = Ok tr

pub items-both : (vs : List Value) (xs ys : List Item) → AreItems vs xs → AreItems vs ys → AreItems vs (xs ++ ys)
items-both vs [] ys h h' = h'
items-both vs (x ∷ xs) ys h h' = (h.0, items-both vs xs ys h.1 h')

-- ---- what is paid

-- the command takes what is owed, and leaves a conversion that pays
pub paying : (c : ProofCode) (n : ℕ) (s t : Stage) (k : ℕ) (s' : Stage) → Pays t k s'
    → ((tables : RowsBefore) (params : List Binder) (st : State Tree) → IsMade tables params s → proof_step strict tables 0 c n (state_of params s) ≡ Ok st
    → IsMadeBelow tables params t × IsConversion (values_in t) k × (st ≡ state_of params t)
    × (traced tables c n (state_of params s) (trace_of s) ≡ taken-trace (stacked (trace_of t) (paid (conversion_at (values_in t) k) (trace_of t).stack)))
    × (size_of t ≤ size_of s + nodes_for c))
    → Leads IsAny c n s s'
paying c n s t k s' pays first tables params st q made row =
    let (below, is, state, trace, few) = first tables params st made row in
    let done = pays tables params below is in
    (done.made, state ∙ sym done.state, trace ∙ ap taken-trace (sym done.trace), omega (arith, few, done.few))

-- a node for the conversion
module _ (tables : RowsBefore) (params : List Binder) (s : Stage) (n : RunNode) (d : Conversion) where
  with-conversion : IsHeld tables params s → HasParts tables (values_in s) n → IsWaiting tables (values_in s) s.stack → value_of (values_in s) n ≡ a_conversion d
      → IsMadeBelow tables params (with_node s n) × IsConversion (values_in (with_node s n)) (length s.nodes) × (state_of params (with_node s n) ≡ state_of params s)
      × (stacked (trace_of (with_node s n)) (paid (conversion_at (values_in (with_node s n)) (length s.nodes)) (trace_of (with_node s n)).stack) ≡ stacked (trace_of s) (paid d (trace_of s).stack))
  with-conversion held parts w value =
      let (is, at) = conversion-added tables params s n held parts d value in (
        (held-still tables params s n held parts, waiting-still tables params s n held parts s.stack w),
        is,
        state-below tables params s n held parts w,
        ap (λ (tr : Trace). stacked tr (paid (conversion_at (values_in (with_node s n)) (length s.nodes)) tr.stack)) (trace-below tables params s n held parts w)
            ∙ ap (λ e. stacked (trace_of s) (paid e (trace_of s).stack)) at,
      )

module _ (n : ℕ) (s : Stage) (xs : List Entry) (l r : ℕ) where
  abbrev pub reflected : Stage
  reflected = with_node (with_stack s xs) (node.Refl l)

  pub refl-may : Goes IsAny code.Refl n (with_stack s (Owed l r ∷ xs)) → MayPay reflected (length s.nodes)
  refl-may (tables, params, st, q, made, row) =
      let (below, is, state, trace) = with-conversion tables params (with_stack s xs) (node.Refl l) (refl_conv (expression_at (values_in s) l)) (held-of tables params s (Owed l r ∷ xs) xs made.0) made.1.0 made.1.2 refl in
      (tables, params, below, is)

  pub refl-leads : (s' : Stage) → Pays reflected (length s.nodes) s' → Leads IsAny code.Refl n (with_stack s (Owed l r ∷ xs)) s'
  unfolding proof_step traced
  refl-leads s' pays = paying code.Refl n (with_stack s (Owed l r ∷ xs)) reflected (length s.nodes) s' pays λ tables params st made row.
      let (below, is, state, trace) = with-conversion tables params (with_stack s xs) (node.Refl l) (refl_conv (expression_at (values_in s) l)) (held-of tables params s (Owed l r ∷ xs) xs made.0) made.1.0 made.1.2 refl in
      from_need (same_tree (expression_at (values_in s) l) (expression_at (values_in s) r)) k.Refl _ st row λ same e.
      (below, is, sym (taken-is (state_of params (with_stack s xs)) st e) ∙ sym state, ap taken-trace (sym trace), omega (arith, one-node s.nodes (node.Refl l)))

module _ (n : ℕ) (s : Stage) (xs : List Entry) (l r c : ℕ) where
  abbrev pub saving : Stage
  saving = with_kept (with_stack s xs) (ConversionItem l r c)

  saving-below : (tables : RowsBefore) (params : List Binder) → IsMade tables params (with_stack s (Held (ConversionItem l r c) ∷ xs)) → IsMadeBelow tables params saving
  saving-below tables params made = (
    record {
      nodes = made.0.nodes;
      heap = items-both (values_in s) s.heap (ConversionItem l r c ∷ []) made.0.heap (made.1.0, tt);
      hyps = made.0.hyps;
      lets = made.0.lets;
      variables = made.0.variables;
    },
    made.1.1,
  )

  pub conv_save-may : Goes IsAny code.ConvSave n (with_stack s (Held (ConversionItem l r c) ∷ xs)) → MayPay saving c
  conv_save-may (tables, params, st, q, made, row) = (tables, params, saving-below tables params made, made.1.0.2)

  pub conv_save-leads : (s' : Stage) → Pays saving c s' → Leads IsAny code.ConvSave n (with_stack s (Held (ConversionItem l r c) ∷ xs)) s'
  unfolding proof_step traced
  conv_save-leads s' pays = paying code.ConvSave n (with_stack s (Held (ConversionItem l r c) ∷ xs)) saving c s' pays λ tables params st made row.
      let vs = values_in s in (
        saving-below tables params made,
        made.1.0.2,
        sym (taken-is (record (state_of params (with_stack s xs)) { heap = map (item_at vs) s.heap ++ item_at vs (ConversionItem l r c) ∷ [] }) st row)
            ∙ ap (λ h. record (state_of params (with_stack s xs)) { heap = h }) (sym (map-append (item_at vs) s.heap (ConversionItem l r c ∷ []))),
        ap (λ h. taken-trace (record (stacked (trace_of s) (paid (conversion_at vs c) (parts_at vs xs))) { heap = h })) (sym (map-append (part_at vs) s.heap (ConversionItem l r c ∷ []))),
        omega arith,
      )
