-- A stage with one node more: what was named stays what it was.
use Rattle.std.proofs.Common.{◌≡◌, ℕ, List, [], ◌∷◌, ◌++◌, Some, length, map, refl, sym, ap, ◌∙◌, subst}
use Rattle.std.specs.Prelude.{slice_get}
use Rattle.mz_logic_theory.specs.Tree.{Tree}
use Rattle.mz_logic_theory.specs.Conversions.{Conversion}
use Rattle.mz_logic_theory.specs.declared.binder.Binder.{Binder}
use Rattle.mz_mmu_theory.specs.Proof.{Proof}
use Rattle.mz_machine_theory.specs.Profile.{Item as MachineItem}
use Rattle.mz_machine_theory.specs.MachineState.{RowsBefore, State}
use Rattle.mz_trace.specs.OneHoleContexts.{Part}
use Rattle.mz_trace.specs.Traces.{Trace}
use Rattle.mz_trace.specs.Nodes.{Value, an_expression, a_conversion, a_proof, expression_of, conversion_of, proof_of, expression_at, conversion_at, proof_at, expressions_at, value_of, HasParts, IsExpression, IsConversion, IsProof, AreExpressions, AreProofs}
use Rattle.mz_trace.specs.Entries.{item_at, part_at, items_at, parts_at, AreItems, IsStack, IsWaiting}
use Rattle.mz_trace.specs.Commands.{Stage, with_node, with_stack, values_in, context_of, state_of, trace_of, IsHeld}
use Rattle.mz_trace.specs.declared.node.RunNode.{RunNode}
use Rattle.mz_trace.specs.declared.entry.Entry.{Entry}
use Rattle.mz_trace.proofs.Growing.{grown-expression, same-expression, grown-proof, same-proof, grown-expressions, grown-proofs, same-expressions, same-named, grown-heap, same-heap, same-heap_parts, grown-stack, grown-waiting, same-items, same-items_below, same-parts, same-parts_below}
use Rattle.mz_trace.proofs.Adding.{after-push, parts-push, new-value}

-- ---- states and traces field by field

abbrev pub state : List Binder → (heap stack : List (MachineItem Tree)) → List Tree → State Tree
state ctx h x y = record { ctx = ctx; heap = h; stack = x; hyps = y }

abbrev pub trace : (heap stack : List Part) → List Proof → Trace
trace h x l = record { heap = h; stack = x; lets = l }

pub alike : (ctx : List Binder) {h h' x x' : List (MachineItem Tree)} {y y' : List Tree} → h ≡ h' → x ≡ x' → y ≡ y' → state ctx h x y ≡ state ctx h' x' y'
alike ctx hs xs ys = rw (hs, xs, ys) refl

pub alike-trace : {h h' x x' : List Part} {l l' : List Proof} → h ≡ h' → x ≡ x' → l ≡ l' → trace h x l ≡ trace h' x' l'
alike-trace hs xs ls = rw (hs, xs, ls) refl

-- ---- one node more

module _ (tables : RowsBefore) (params : List Binder) (s : Stage) (n : RunNode) (held : IsHeld tables params s) (parts : HasParts tables (values_in s) n) where
  abbrev before : List Value
  before = values_in s

  abbrev after : List Value
  after = values_in (with_node s n)

  abbrev new : Value
  new = value_of before n

  grows : after ≡ before ++ new ∷ []
  grows = after-push [] s.nodes n

  pub value-added : slice_get after (length s.nodes) ≡ Some new
  value-added = new-value s.nodes n

  pub expression-still : (k : ℕ) → IsExpression before k → IsExpression after k
  expression-still k h = subst (λ vs. IsExpression vs k) (sym grows) (grown-expression before (new ∷ []) k h)

  pub same-expression-still : (k : ℕ) → IsExpression before k → expression_at after k ≡ expression_at before k
  same-expression-still k h = subst (λ vs. expression_at vs k ≡ expression_at before k) (sym grows) (same-expression before (new ∷ []) k h)

  pub proof-still : (k : ℕ) → IsProof before k → IsProof after k
  proof-still k h = subst (λ vs. IsProof vs k) (sym grows) (grown-proof before (new ∷ []) k h)

  pub same-proof-still : (k : ℕ) → IsProof before k → proof_at after k ≡ proof_at before k
  same-proof-still k h = subst (λ vs. proof_at vs k ≡ proof_at before k) (sym grows) (same-proof before (new ∷ []) k h)

  pub stack-still : (xs : List Entry) → IsStack tables before xs → IsStack tables after xs
  stack-still xs h = subst (λ vs. IsStack tables vs xs) (sym grows) (grown-stack tables before (new ∷ []) xs h)

  pub waiting-still : (xs : List Entry) → IsWaiting tables before xs → IsWaiting tables after xs
  waiting-still xs h = subst (λ vs. IsWaiting tables vs xs) (sym grows) (grown-waiting tables before (new ∷ []) xs h)

  pub held-still : IsHeld tables params (with_node s n)
  held-still = record {
    nodes = parts-push tables [] s.nodes n held.nodes parts;
    heap = subst (λ vs. AreItems vs s.heap) (sym grows) (grown-heap before (new ∷ []) s.heap held.heap);
    hyps = subst (λ vs. AreExpressions vs s.hyps) (sym grows) (grown-expressions before (new ∷ []) s.hyps held.hyps);
    lets = subst (λ vs. AreProofs vs s.lets) (sym grows) (grown-proofs before (new ∷ []) s.lets held.lets);
    variables = held.variables;
  }

  pub heap-still : map (item_at after) s.heap ≡ map (item_at before) s.heap
  heap-still = subst (λ vs. map (item_at vs) s.heap ≡ map (item_at before) s.heap) (sym grows) (same-heap before (new ∷ []) s.heap held.heap)

  pub heap_parts-still : map (part_at after) s.heap ≡ map (part_at before) s.heap
  heap_parts-still = subst (λ vs. map (part_at vs) s.heap ≡ map (part_at before) s.heap) (sym grows) (same-heap_parts before (new ∷ []) s.heap held.heap)

  pub hyps-still : expressions_at after s.hyps ≡ expressions_at before s.hyps
  hyps-still = subst (λ vs. expressions_at vs s.hyps ≡ expressions_at before s.hyps) (sym grows) (same-expressions before (new ∷ []) s.hyps held.hyps)

  pub lets-still : map (proof_at after) s.lets ≡ map (proof_at before) s.lets
  lets-still = subst (λ vs. map (proof_at vs) s.lets ≡ map (proof_at before) s.lets) (sym grows) (same-named before (new ∷ []) s.lets held.lets)

  pub items-still : (xs : List Entry) → IsStack tables before xs → items_at after xs ≡ items_at before xs
  items-still xs h = subst (λ vs. items_at vs xs ≡ items_at before xs) (sym grows) (same-items tables before (new ∷ []) xs h)

  pub items_below-still : (xs : List Entry) → IsWaiting tables before xs → items_at after xs ≡ items_at before xs
  items_below-still xs h = subst (λ vs. items_at vs xs ≡ items_at before xs) (sym grows) (same-items_below tables before (new ∷ []) xs h)

  pub parts-still : (xs : List Entry) → IsStack tables before xs → parts_at after xs ≡ parts_at before xs
  parts-still xs h = subst (λ vs. parts_at vs xs ≡ parts_at before xs) (sym grows) (same-parts tables before (new ∷ []) xs h)

  pub parts_below-still : (xs : List Entry) → IsWaiting tables before xs → parts_at after xs ≡ parts_at before xs
  parts_below-still xs h = subst (λ vs. parts_at vs xs ≡ parts_at before xs) (sym grows) (same-parts_below tables before (new ∷ []) xs h)

  -- ---- the new one, by its kind

  pub expression-added : (e : Tree) → new ≡ an_expression e → IsExpression after (length s.nodes) × (expression_at after (length s.nodes) ≡ e)
  expression-added e is = let at = value-added ∙ ap (λ v. Some v) is in ((e, at), ap expression_of at)

  pub conversion-added : (c : Conversion) → new ≡ a_conversion c → IsConversion after (length s.nodes) × (conversion_at after (length s.nodes) ≡ c)
  conversion-added c is = let at = value-added ∙ ap (λ v. Some v) is in ((c, at), ap conversion_of at)

  pub proof-added : (p : Proof) → new ≡ a_proof p → IsProof after (length s.nodes) × (proof_at after (length s.nodes) ≡ p)
  proof-added p is = let at = value-added ∙ ap (λ v. Some v) is in ((p, at), ap proof_of at)

-- ---- the whole of a stage with one node more

abbrev pub held-of : (tables : RowsBefore) (params : List Binder) (s : Stage) (xs ys : List Entry) → IsHeld tables params (with_stack s xs) → IsHeld tables params (with_stack s ys)
held-of tables params s xs ys h = record { nodes = h.nodes; heap = h.heap; hyps = h.hyps; lets = h.lets; variables = h.variables }

module _ (tables : RowsBefore) (params : List Binder) (s : Stage) (n : RunNode) (held : IsHeld tables params s) (parts : HasParts tables (values_in s) n) where
  pub state-below : IsWaiting tables (values_in s) s.stack → state_of params (with_node s n) ≡ state_of params s
  state-below w = alike (context_of params s) (heap-still tables params s n held parts) (items_below-still tables params s n held parts s.stack w) (hyps-still tables params s n held parts)

  pub trace-below : IsWaiting tables (values_in s) s.stack → trace_of (with_node s n) ≡ trace_of s
  trace-below w = alike-trace (heap_parts-still tables params s n held parts) (parts_below-still tables params s n held parts s.stack w) (lets-still tables params s n held parts)

  pub state-same : IsStack tables (values_in s) s.stack → state_of params (with_node s n) ≡ state_of params s
  state-same w = alike (context_of params s) (heap-still tables params s n held parts) (items-still tables params s n held parts s.stack w) (hyps-still tables params s n held parts)

  pub trace-same : IsStack tables (values_in s) s.stack → trace_of (with_node s n) ≡ trace_of s
  trace-same w = alike-trace (heap_parts-still tables params s n held parts) (parts-still tables params s n held parts s.stack w) (lets-still tables params s n held parts)
