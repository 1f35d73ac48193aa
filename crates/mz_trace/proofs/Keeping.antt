-- What commands lead to that keep something in the heap, or take it from there.
use Rattle.std.proofs.Common.{◌≡◌, ℕ, suc, zero, true, false, List, [], ◌∷◌, ◌++◌, Some, Ok, length, map, refl, sym, ap, ◌∙◌, subst, arith, length-append}
use Rattle.std.specs.Prelude.{slice_get, drop, nat_lt, not, ◌&&◌}
use Rattle.std.proofs.lemmas.List.{map-append, append_assoc, length-map}
use Rattle.mz_base.proofs.Offered.{slice_get-map_at, not-true}
use Rattle.mz_cmd.specs.declared.rule.K.TheVariants as k
use Rattle.mz_cmd.specs.declared.code.ProofCode.TheVariants as code
use Rattle.mz_logic_theory.specs.Tree.{Tree, var}
use Rattle.mz_logic_theory.specs.declared.binder.Binder.{Binder}
use Rattle.mz_mmu_theory.specs.Proof.{by_hyp, by_name}
use Rattle.mz_machine_theory.specs.Profile.{strict, expr, proof, obligation, Item as MachineItem}
use Rattle.mz_machine_theory.specs.Spells.{dummy_of}
use Rattle.mz_machine_theory.specs.Steps.{◌>>=◌}
use Rattle.mz_machine_theory.specs.Tests.{same_tree}
use Rattle.mz_machine_theory.proofs.Offered.{from_bind, from_need, from_want, taken-is}
use Rattle.mz_machine_theory.specs.MachineState.{RowsBefore}
use Rattle.mz_machine_theory.specs.Premises.{pop, pop_obligation, may_be_dummy_sort, bound_count, is_obligation}
use Rattle.mz_machine_theory.specs.ProofMachine.{proof_step, has_provable_sort, referred}
use Rattle.mz_trace.specs.OneHoleContexts.{expression, proved, paid}
use Rattle.mz_trace.specs.Traces.{stacked, kept, named, traced, referred as referred-part}
use Rattle.mz_trace.proofs.Following.{to_want}
use Rattle.mz_trace.proofs.StreamsApart.{expressions-both}
use Rattle.mz_trace.proofs.FewNodes.{one-node}
use Rattle.mz_trace.specs.Nodes.{Value, expression_at, expressions_at, conversion_at, proof_at, IsExpression, IsProof, AreProofs, IsConversion}
use Rattle.mz_trace.specs.Entries.{item_at, part_at, items_at, parts_at, AreItems, IsItem, IsStack, HasHeld, HasOwed}
use Rattle.mz_trace.specs.Commands.{Stage, with_node, with_stack, with_variable, with_kept, with_name, on_stack, values_in, context_of, state_of, trace_of, IsHeld, IsMade, IsMadeBelow, Known, IsAny, Goes, Leads, MayPay, Pays, unmade}
use Rattle.mz_trace.specs.declared.node.RunNode.{RunNode}
use Rattle.mz_trace.specs.declared.node.RunNode.TheVariants as node
use Rattle.mz_trace.specs.declared.entry.Item.{Item}
use Rattle.mz_trace.specs.declared.entry.Item.TheVariants.{Expr, Proof as ProofItem, Conversion as ConversionItem}
use Rattle.mz_trace.specs.declared.entry.Entry.{Entry}
use Rattle.mz_trace.specs.declared.entry.Entry.TheVariants.{Held, Owed, ForProof, ForTurned, ForOperand, ForUnfolded, ForCut}
use Rattle.mz_trace.proofs.Stages.{state, trace, proof-still, same-proof-still, alike, alike-trace, held-of, held-still, stack-still, expression-added, proof-added, expression-still, same-expression-still, hyps-still, lets-still, items-still, parts-still}
use Rattle.mz_trace.proofs.Tops.{owed-top}
use Rattle.mz_trace.proofs.Moves.{items-both, paying, taken-trace}
use Rattle.mz_trace.proofs.Growth.{heap-more, heap_parts-more, kept-more}

proofs-both : (vs : List Value) (ns ms : List ℕ) → AreProofs vs ns → AreProofs vs ms → AreProofs vs (ns ++ ms)
proofs-both vs [] ms h h' = h'
proofs-both vs (n ∷ ns) ms h h' = (h.0, proofs-both vs ns ms h.1 h')

length-map-hyps : (vs : List Value) (ns : List ℕ) → length (expressions_at vs ns) ≡ length ns
length-map-hyps vs ns = length-map ns (expression_at vs)

-- ---- Dummy

module _ (n : ℕ) (s : Stage) where
  abbrev pub dummied : Stage
  dummied = record (on_stack (with_variable s) (Held (Expr (length s.nodes)))) { dummies = s.dummies ++ n ∷ [] }

  longer : (params : List Binder) → context_of params dummied ≡ context_of params s ++ dummy_of n ∷ []
  longer params = ap (λ bs. params ++ bs) (map-append dummy_of s.dummies (n ∷ [])) ∙ sym (append_assoc params (map dummy_of s.dummies) (dummy_of n ∷ []))

  pub dummy-leads : Leads IsAny code.Dummy n s dummied
  unfolding proof_step traced
  dummy-leads tables params st q made row =
      let v = node.Var s.variables in
      let new = length s.nodes in
      let x = var (length (context_of params s)) in
      let (is, at) = expression-added tables params s v made.0 tt (var s.variables) refl in
      let e : expression_at (values_in (with_node s v)) new ≡ x = at ∙ ap var made.0.variables in
      from_need (may_be_dummy_sort (slice_get tables.sorts n)) k.DummySort _ st row λ may e1.
      from_need (nat_lt (bound_count (context_of params s)) 55) k.DummyCount _ st e1 λ few e2.
      let held = held-still tables params s v made.0 tt in
      let xs-is : items_at (values_in (with_node s v)) (Held (Expr new) ∷ s.stack) ≡ expr x ∷ items_at (values_in s) s.stack = rw (e, items-still tables params s v made.0 tt s.stack made.1) refl in (
        (
          record {
            nodes = held.nodes;
            heap = kept-more tables params s v made.0 tt (Expr new) is;
            hyps = held.hyps;
            lets = held.lets;
            variables = omega (arith, made.0.variables, ap length (longer params), length-append (context_of params s) (dummy_of n ∷ []));
          },
          (is, stack-still tables params s v made.0 tt s.stack made.1),
        ),
        sym (taken-is (record { ctx = context_of params s ++ dummy_of n ∷ []; heap = map (item_at (values_in s)) s.heap ++ expr x ∷ []; stack = expr x ∷ items_at (values_in s) s.stack; hyps = expressions_at (values_in s) s.hyps }) st e2)
            ∙ sym (alike (context_of params dummied) (heap-more tables params s v made.0 tt (Expr new) (expr x) (ap expr e)) xs-is (hyps-still tables params s v made.0 tt)
            ∙ ap (λ ctx. state ctx (map (item_at (values_in s)) s.heap ++ expr x ∷ []) (expr x ∷ items_at (values_in s) s.stack) (expressions_at (values_in s) s.hyps)) (longer params)),
        ap taken-trace (sym (alike-trace (heap_parts-more tables params s v made.0 tt (Expr new) expression refl) (ap (λ ps. expression ∷ ps) (parts-still tables params s v made.0 tt s.stack made.1)) (lets-still tables params s v made.0 tt))),
        omega (arith, one-node s.nodes v),
      )

  pub dummied-is : (s' t : Stage) (ds : List ℕ) (made-at : ℕ) → s' ≡ with_variable s → ds ≡ s'.dummies ++ n ∷ [] → made-at ≡ length s.nodes → t ≡ on_stack (record s' { dummies = ds }) (Held (Expr made-at)) → t ≡ dummied
  dummied-is s' t ds made-at varied dummies last is =
      is ∙ ap (λ z. on_stack (record s' { dummies = z }) (Held (Expr made-at))) dummies
      ∙ ap (λ (z : Stage). on_stack (record z { dummies = z.dummies ++ n ∷ [] }) (Held (Expr made-at))) varied ∙ ap (λ i. on_stack (record (with_variable s) { dummies = s.dummies ++ n ∷ [] }) (Held (Expr i))) last

-- ---- Hyp

module _ (n : ℕ) (s : Stage) (xs : List Entry) (e : ℕ) where
  abbrev pub assumed : Stage
  assumed = record s { nodes = s.nodes ++ node.Hyp (length s.hyps) ∷ []; heap = s.heap ++ ProofItem e (length s.nodes) ∷ []; stack = xs; hyps = s.hyps ++ e ∷ [] }

  pub hyp-leads : Leads IsAny code.Hyp n (with_stack s (Held (Expr e) ∷ xs)) assumed
  unfolding proof_step traced
  hyp-leads tables params st q made row =
      let v = node.Hyp (length s.hyps) in
      let vs = values_in s in
      let t = with_stack s xs in
      let held = held-of tables params s (Held (Expr e) ∷ xs) xs made.0 in
      let f = expression_at vs e in
      let (is, at) = proof-added tables params t v held tt (by_hyp (length s.hyps)) refl in
      let still = expression-still tables params t v held tt e made.1.0 in
      let same = same-expression-still tables params t v held tt e made.1.0 in
      let later = held-still tables params t v held tt in
      from_need (has_provable_sort strict tables (context_of params s) f) k.NotProvable _ st row λ may e1. (
        (
          record {
            nodes = later.nodes;
            heap = kept-more tables params t v held tt (ProofItem e (length s.nodes)) (still, is);
            hyps = expressions-both (values_in (with_node t v)) s.hyps (e ∷ []) later.hyps (still, tt);
            lets = later.lets;
            variables = later.variables;
          },
          stack-still tables params t v held tt xs made.1.1,
        ),
        sym (taken-is (record { ctx = context_of params s; heap = map (item_at vs) s.heap ++ proof f ∷ []; stack = items_at vs xs; hyps = expressions_at vs s.hyps ++ f ∷ [] }) st e1)
            ∙ sym (alike (context_of params s) (heap-more tables params t v held tt (ProofItem e (length s.nodes)) (proof f) (ap proof same)) (items-still tables params t v held tt xs made.1.1)
            (map-append (expression_at (values_in (with_node t v))) s.hyps (e ∷ []) ∙ rw (hyps-still tables params t v held tt, same) refl)),
        ap (λ i. taken-trace (kept (stacked (trace_of s) (parts_at vs xs)) (proved (by_hyp i)))) (length-map-hyps vs s.hyps)
            ∙ ap taken-trace (sym (alike-trace (heap_parts-more tables params t v held tt (ProofItem e (length s.nodes)) (proved (by_hyp (length s.hyps))) (ap proved at)) (parts-still tables params t v held tt xs made.1.1) (lets-still tables params t v held tt))),
        omega (arith, one-node s.nodes v),
      )

  pub assumed-is : (ns : List RunNode) (hs : List Item) (is : List ℕ) (i p : ℕ) → ns ≡ s.nodes ++ node.Hyp i ∷ [] → hs ≡ s.heap ++ ProofItem e p ∷ [] → is ≡ s.hyps ++ e ∷ [] → i ≡ length s.hyps → p ≡ length s.nodes
      → record s { nodes = ns; heap = hs; stack = xs; hyps = is } ≡ assumed
  assumed-is ns hs is i p nodes heap hyps count last = rw (nodes, heap, hyps, count, last) refl

-- ---- proofs with names

module _ (tables : RowsBefore) (params : List Binder) (s : Stage) (e p : ℕ) (made : IsMade tables params s) (claim : IsExpression (values_in s) e) (proved-by : IsProof (values_in s) p) where
  abbrev v : RunNode
  v = node.Let (length s.lets)

  new-proof : IsProof (values_in (with_node s v)) (length s.nodes) × (proof_at (values_in (with_node s v)) (length s.nodes) ≡ by_name (length s.lets))
  new-proof = proof-added tables params s v made.0 tt (by_name (length s.lets)) refl

  still : IsExpression (values_in (with_node s v)) e
  still = expression-still tables params s v made.0 tt e claim

  same : expression_at (values_in (with_node s v)) e ≡ expression_at (values_in s) e
  same = same-expression-still tables params s v made.0 tt e claim

  pub named-made : IsMade tables params (with_name s e p)
  named-made = let later = held-still tables params s v made.0 tt in (
    record {
      nodes = later.nodes;
      heap = kept-more tables params s v made.0 tt (ProofItem e (length s.nodes)) (still, new-proof.0);
      hyps = later.hyps;
      lets = proofs-both (values_in (with_node s v)) s.lets (p ∷ []) later.lets (proof-still tables params s v made.0 tt p proved-by, tt);
      variables = later.variables;
    },
    ((still, new-proof.0), stack-still tables params s v made.0 tt s.stack made.1),
  )

  pub named-state : state_of params (with_name s e p)
      ≡ record (state_of params s) { heap = map (item_at (values_in s)) s.heap ++ proof (expression_at (values_in s) e) ∷ []; stack = proof (expression_at (values_in s) e) ∷ items_at (values_in s) s.stack }
  named-state = alike (context_of params s) (heap-more tables params s v made.0 tt (ProofItem e (length s.nodes)) (proof (expression_at (values_in s) e)) (ap proof same))
      (rw (same, items-still tables params s v made.0 tt s.stack made.1) refl) (hyps-still tables params s v made.0 tt)

  count : length (map (proof_at (values_in s)) s.lets) ≡ length s.lets
  count = length-map s.lets (proof_at (values_in s))

  pub named-trace : trace_of (with_name s e p) ≡ named (proof_at (values_in s) p) (parts_at (values_in s) s.stack) (trace_of s)
  named-trace =
      alike-trace (heap_parts-more tables params s v made.0 tt (ProofItem e (length s.nodes)) (proved (by_name (length s.lets))) (ap proved new-proof.1))
      (rw (new-proof.1, parts-still tables params s v made.0 tt s.stack made.1) refl)
      (map-append (proof_at (values_in (with_node s v))) s.lets (p ∷ []) ∙ rw (lets-still tables params s v made.0 tt, same-proof-still tables params s v made.0 tt p proved-by) refl)
      ∙ ap (λ i. trace (map (part_at (values_in s)) s.heap ++ proved (by_name i) ∷ []) (proved (by_name i) ∷ parts_at (values_in s) s.stack) (map (proof_at (values_in s)) s.lets ++ proof_at (values_in s) p ∷ [])) (sym count)

-- ---- Save

module _ (n : ℕ) (s : Stage) (xs : List Entry) where
  pub save_proof-leads : (e p : ℕ) → Leads IsAny code.Save n (with_stack s (Held (ProofItem e p) ∷ xs)) (with_name (with_stack s xs) e p)
  unfolding proof_step traced
  save_proof-leads e p tables params st q made row =
      let t = with_stack s xs in
      let below : IsMade tables params t = (held-of tables params s (Held (ProofItem e p) ∷ xs) xs made.0, made.1.1) in
      let vs = values_in s in (
        named-made tables params t e p below made.1.0.0 made.1.0.1,
        sym (taken-is (record (state_of params t) { heap = map (item_at vs) s.heap ++ proof (expression_at vs e) ∷ []; stack = proof (expression_at vs e) ∷ items_at vs xs }) st row)
            ∙ sym (named-state tables params t e p below made.1.0.0 made.1.0.1),
        ap taken-trace (sym (named-trace tables params t e p below made.1.0.0 made.1.0.1)),
        omega (arith, one-node s.nodes (node.Let (length s.lets))),
      )

  abbrev pub saved_item : Item → Stage
  saved_item x = on_stack (with_kept (with_stack s xs) x) (Held x)

  saved-held : (tables : RowsBefore) (params : List Binder) (x : Item) → IsHeld tables params (with_stack s (Held x ∷ xs)) → IsItem (values_in s) x → IsHeld tables params (saved_item x)
  saved-held tables params x held h = record { nodes = held.nodes; heap = items-both (values_in s) s.heap (x ∷ []) held.heap (h, tt); hyps = held.hyps; lets = held.lets; variables = held.variables }

  saved-state : (params : List Binder) (x : Item)
      → record (state_of params (with_stack s (Held x ∷ xs))) { heap = map (item_at (values_in s)) s.heap ++ item_at (values_in s) x ∷ [] } ≡ state_of params (saved_item x)
  saved-state params x = ap (λ h. record (state_of params (with_stack s (Held x ∷ xs))) { heap = h }) (sym (map-append (item_at (values_in s)) s.heap (x ∷ [])))

  saved-trace : (x : Item) → kept (trace_of (with_stack s (Held x ∷ xs))) (part_at (values_in s) x) ≡ trace_of (saved_item x)
  saved-trace x = ap (λ h. record (trace_of (with_stack s (Held x ∷ xs))) { heap = h }) (sym (map-append (part_at (values_in s)) s.heap (x ∷ [])))

  pub save_expr-leads : (e : ℕ) → Leads IsAny code.Save n (with_stack s (Held (Expr e) ∷ xs)) (saved_item (Expr e))
  unfolding proof_step traced
  save_expr-leads e tables params st q made row = (
    (saved-held tables params (Expr e) made.0 made.1.0, made.1),
    sym (taken-is (record (state_of params (with_stack s (Held (Expr e) ∷ xs))) { heap = map (item_at (values_in s)) s.heap ++ item_at (values_in s) (Expr e) ∷ [] }) st row) ∙ saved-state params (Expr e),
    ap taken-trace (saved-trace (Expr e)),
    omega arith,
  )

  pub save_conversion-leads : (l r c : ℕ) → Leads IsAny code.Save n (with_stack s (Held (ConversionItem l r c) ∷ xs)) (saved_item (ConversionItem l r c))
  unfolding proof_step traced
  save_conversion-leads l r c tables params st q made row = (
    (saved-held tables params (ConversionItem l r c) made.0 made.1.0, made.1),
    sym (taken-is (record (state_of params (with_stack s (Held (ConversionItem l r c) ∷ xs))) { heap = map (item_at (values_in s)) s.heap ++ item_at (values_in s) (ConversionItem l r c) ∷ [] }) st row)
        ∙ saved-state params (ConversionItem l r c),
    ap taken-trace (saved-trace (ConversionItem l r c)),
    omega arith,
  )

-- an item stands on top
module _ (tables : RowsBefore) (vs : List Value) where
  held-top : (xs : List Entry) (r : MachineItem Tree × List (MachineItem Tree)) → IsStack tables vs xs → pop (items_at vs xs) ≡ Ok r → is_obligation r.0 ≡ false → HasHeld xs
  held-top [] r h e other = absurd cc
  held-top (Held x ∷ xs) r h e other = (x, xs, refl)
  held-top (Owed a b ∷ xs) r h e other = absurd (let is : true ≡ false = ap (λ (z : MachineItem Tree × List (MachineItem Tree)). is_obligation z.0) (taken-is (obligation (expression_at vs a) (expression_at vs b), items_at vs xs) r e) ∙ other in cc)
  held-top _ r h e other = absurd h

pub save-has : (Q : Known) (n : ℕ) (s : Stage) → Goes Q code.Save n s → HasHeld s.stack
unfolding proof_step
save-has Q n s (tables, params, st, q, made, row) =
    from_bind (pop (items_at (values_in s) s.stack)) _ st row λ x popping e1.
    from_need (not (is_obligation x.0)) k.SaveKind _ st e1 λ other e2.
    held-top tables (values_in s) s.stack x made.1 popping (not-true (is_obligation x.0) other)

-- ---- Ref

at-map : {A B : Type 0} (f : A → B) (xs : List A) (i : ℕ) (y : B) → slice_get (map f xs) i ≡ Some y → (x : A) × (slice_get xs i ≡ Some x) × (y ≡ f x)
at-map f [] i y h = absurd cc
at-map f (x ∷ xs) zero y h = (x, refl, cc)
at-map f (x ∷ xs) (suc i) y h = at-map f xs i y h

item-in : (vs : List Value) (xs : List Item) (i : ℕ) (x : Item) → AreItems vs xs → slice_get xs i ≡ Some x → IsItem vs x
item-in vs [] i x h at = absurd cc
item-in vs (y ∷ xs) zero x h at = let is : y ≡ x = cc in subst (IsItem vs) is h.0
item-in vs (y ∷ xs) (suc i) x h at = item-in vs xs i x h.1 at

module _ (n : ℕ) (s : Stage) where
  pub ref-has : (Q : Known) → Goes Q code.Ref n s → (x : Item) × (slice_get s.heap n ≡ Some x)
  unfolding proof_step
  ref-has Q (tables, params, st, q, made, row) =
      from_want (slice_get (map (item_at (values_in s)) s.heap) n) k.HeapIndex _ st row λ y at e1.
      let (x, is, of) = at-map (item_at (values_in s)) s.heap n y at in (x, is)

  module _ (x : Item) (at : slice_get s.heap n ≡ Some x) where
    item-row : (tables : RowsBefore) (params : List Binder) → proof_step strict tables 0 code.Ref n (state_of params s) ≡ referred strict (item_at (values_in s) x) (state_of params s)
    unfolding proof_step
    item-row tables params = to_want (slice_get (map (item_at (values_in s)) s.heap) n) k.HeapIndex _ (item_at (values_in s) x) (slice_get-map_at (item_at (values_in s)) s.heap n x at)

    part-row : (tables : RowsBefore) (params : List Binder) → traced tables code.Ref n (state_of params s) (trace_of s) ≡ taken-trace (referred-part (part_at (values_in s) x) (trace_of s))
    unfolding traced
    part-row tables params = to_want (slice_get (map (part_at (values_in s)) s.heap) n) k.HeapIndex _ (part_at (values_in s) x) (slice_get-map_at (part_at (values_in s)) s.heap n x at)

  pub ref_expr-leads : (e : ℕ) → slice_get s.heap n ≡ Some (Expr e) → Leads IsAny code.Ref n s (on_stack s (Held (Expr e)))
  ref_expr-leads e at tables params st q made row = (
    (held-of tables params s s.stack (Held (Expr e) ∷ s.stack) made.0, (item-in (values_in s) s.heap n (Expr e) made.0.heap at, made.1)),
    sym (taken-is (state_of params (on_stack s (Held (Expr e)))) st (sym (item-row (Expr e) at tables params) ∙ row)),
    part-row (Expr e) at tables params,
    omega arith,
  )

  pub ref_proof-leads : (e p : ℕ) → slice_get s.heap n ≡ Some (ProofItem e p) → Leads IsAny code.Ref n s (on_stack s (Held (ProofItem e p)))
  ref_proof-leads e p at tables params st q made row = (
    (held-of tables params s s.stack (Held (ProofItem e p) ∷ s.stack) made.0, (item-in (values_in s) s.heap n (ProofItem e p) made.0.heap at, made.1)),
    sym (taken-is (state_of params (on_stack s (Held (ProofItem e p)))) st (sym (item-row (ProofItem e p) at tables params) ∙ row)),
    part-row (ProofItem e p) at tables params,
    omega arith,
  )

  module _ (a b c : ℕ) (at : slice_get s.heap n ≡ Some (ConversionItem a b c)) where
    pub ref-owed : (Q : Known) → Goes Q code.Ref n s → HasOwed s.stack
    ref-owed Q (tables, params, st, q, made, row) =
        from_bind (pop_obligation (items_at (values_in s) s.stack)) _ st (sym (item-row (ConversionItem a b c) at tables params) ∙ row) λ o popping e1.
        let (l, r, ys, is, of) = owed-top tables (values_in s) s.stack o made.1 popping in (l, r, ys, is)

    module _ (l r : ℕ) (xs : List Entry) (top : s.stack ≡ Owed l r ∷ xs) where
      below-made : (tables : RowsBefore) (params : List Binder) → IsMade tables params s → IsMadeBelow tables params (with_stack s xs) × IsConversion (values_in s) c
      below-made tables params made =
          let h = subst (IsStack tables (values_in s)) top made.1 in
          ((held-of tables params s s.stack xs made.0, h.2), (item-in (values_in s) s.heap n (ConversionItem a b c) made.0.heap at).2)

      pub ref-may : (Q : Known) → Goes Q code.Ref n s → MayPay (with_stack s xs) c
      ref-may Q (tables, params, st, q, made, row) = let (below, is) = below-made tables params made in (tables, params, below, is)

      pub ref_conversion-leads : (s' : Stage) → Pays (with_stack s xs) c s' → Leads IsAny code.Ref n s s'
      ref_conversion-leads s' pays = paying code.Ref n s (with_stack s xs) c s' pays λ tables params st made row.
          let (below, is) = below-made tables params made in
          from_bind (pop_obligation (items_at (values_in s) s.stack)) _ st (sym (item-row (ConversionItem a b c) at tables params) ∙ row) λ o popping e1.
          from_need (same_tree (expression_at (values_in s) a) o.0 && same_tree (expression_at (values_in s) b) o.1) k.ConversionReference _ st e1 λ same e2.
          let o-is : (expression_at (values_in s) l, expression_at (values_in s) r, items_at (values_in s) xs) ≡ o =
          taken-is (expression_at (values_in s) l, expression_at (values_in s) r, items_at (values_in s) xs) o (sym (ap (λ zs. pop_obligation (items_at (values_in s) zs)) top) ∙ popping) in (
            below,
            is,
            sym (taken-is (record (state_of params s) { stack = o.2 }) st e2) ∙ ap (λ (z : Tree × Tree × List (MachineItem Tree)). record (state_of params s) { stack = z.2 }) (sym o-is),
            part-row (ConversionItem a b c) at tables params ∙ ap (λ zs. taken-trace (stacked (trace_of s) (paid (conversion_at (values_in s) c) (drop 1 (parts_at (values_in s) zs))))) top,
            omega (arith, ap unmade top),
          )

-- ---- any item that isn't a proof

module _ (n : ℕ) (s : Stage) where
  pub save_other-leads : (xs : List Entry) (x : Item) → ((e p : ℕ) → x ≡ ProofItem e p → ⊥) → Leads IsAny code.Save n (with_stack s (Held x ∷ xs)) (saved_item n s xs x)
  save_other-leads xs (Expr e) other = save_expr-leads n s xs e
  save_other-leads xs (ProofItem e p) other = absurd (other e p refl)
  save_other-leads xs (ConversionItem l r c) other = save_conversion-leads n s xs l r c

  pub ref_other-leads : (x : Item) → slice_get s.heap n ≡ Some x → ((a b c : ℕ) → x ≡ ConversionItem a b c → ⊥) → Leads IsAny code.Ref n s (on_stack s (Held x))
  ref_other-leads (Expr e) at other = ref_expr-leads n s e at
  ref_other-leads (ProofItem e p) at other = ref_proof-leads n s e p at
  ref_other-leads (ConversionItem a b c) at other = absurd (other a b c refl)
