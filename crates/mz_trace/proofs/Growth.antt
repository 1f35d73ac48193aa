-- What commands lead to that make an expression or a proof, or keep one.
use Rattle.std.proofs.Common.{Result, Option, ◌≡◌, ◌<◌, ◌≤◌, ◌+◌, ℕ, List, [], ◌∷◌, ◌++◌, Some, Ok, length, map, refl, sym, ap, ◌∙◌, subst, arith}
use Rattle.std.specs.Prelude.{reverse, slice_get, drop, nat_le}
use Rattle.std.proofs.lemmas.List.{map-append, length-reverse}
use Rattle.std.specs.List.{range_with_len}
use Rattle.std.proofs.lemmas.Option.{slice_get_within}
use Rattle.std.proofs.lemmas.List.FromFn.{length-map-range_with_len}
use Rattle.mz_cmd.specs.declared.rule.K.{K}
use Rattle.mz_cmd.specs.declared.rule.K.TheVariants as k
use Rattle.mz_cmd.specs.declared.code.ProofCode.TheVariants as code
use Rattle.mz_logic_theory.specs.Tree.{Tree, app}
use Rattle.mz_logic_theory.specs.declared.binder.Binder.{Binder}
use Rattle.mz_layout_tables.specs.Tables.{term_row, term_count}
use Rattle.mz_machine_theory.specs.Profile.{strict, expr, Item as MachineItem}
use Rattle.mz_machine_theory.specs.Spells.{SpelledTerm, trees_of}
use Rattle.mz_machine_theory.specs.Steps.{◌>>=◌, want}
use Rattle.mz_machine_theory.proofs.Offered.{from_bind, from_then, from_need, from_want, taken-is, some_is}
use Rattle.mz_machine_theory.specs.MachineState.{RowsBefore, State, signatures_in}
use Rattle.mz_machine_theory.specs.Premises.{pop_operands, pop_exprs, operands_fit}
use Rattle.mz_machine_theory.specs.ProofMachine.{proof_step, built}
use Rattle.mz_machine_theory.specs.FileRows.{term_of_file}
use Rattle.mz_machine_env.specs.Before.{Before}
use Rattle.mz_machine_env.proofs.Offered.{term-before, binders_many}
use Rattle.mz_trace.specs.OneHoleContexts.{Part, expression}
use Rattle.mz_trace.specs.Traces.{Trace, stacked, kept, traced}
use Rattle.mz_trace.specs.Nodes.{Value, an_expression, expression_at, expressions_at, value_of, HasParts, HasArity, IsExpression, AreExpressions, Applies}
use Rattle.mz_trace.specs.Entries.{item_at, part_at, items_at, parts_at, AreItems, IsItem, IsStack, HasExprs}
use Rattle.mz_trace.specs.Commands.{Stage, with_node, with_stack, on_stack, values_in, context_of, state_of, trace_of, IsHeld, IsMade, IsOfFile, IsRead, Goes, Leads, IsBuilt, MayBuild, size_of, unmade}
use Rattle.mz_trace.specs.declared.node.RunNode.{RunNode}
use Rattle.mz_trace.specs.declared.node.RunNode.TheVariants as node
use Rattle.mz_trace.specs.declared.entry.Item.{Item}
use Rattle.mz_trace.specs.declared.entry.Item.TheVariants.{Expr}
use Rattle.mz_trace.specs.declared.entry.Entry.TheVariants.{Held}
use Rattle.mz_trace.proofs.Stages.{alike, alike-trace, held-of, held-still, stack-still, expression-added, heap-still, heap_parts-still, hyps-still, lets-still, items-still, parts-still}
use Rattle.mz_trace.proofs.Tops.{has-exprs, exprs-below, pop-operands, drop-exprs, unturned}
use Rattle.mz_trace.proofs.Moves.{items-both}
use Rattle.mz_trace.proofs.FewNodes.{one-node, unmade-exprs}

-- ---- rows of the file

module _ (file : List ℕ) (tables : RowsBefore) (is : IsOfFile file tables) (t : ℕ) (row : SpelledTerm) (at : slice_get tables.terms t ≡ Some row) where
  abbrev before-row : Before
  before-row = record { file = file; rows = is.0 }

  there : slice_get (map (term_of_file file) (range_with_len 0 is.0.terms)) t ≡ Some row
  there = subst (λ (ts : RowsBefore). slice_get ts.terms t ≡ Some row) is.2 at

  below : t < is.0.terms
  below = omega (arith, slice_get_within (map (term_of_file file) (range_with_len 0 is.0.terms)) t row there, length-map-range_with_len (term_of_file file) 0 is.0.terms)

  pub term-there : t < term_count file
  term-there = let most = is.1.terms_within in omega (arith, below, most)

  pub term-arity : length row.signature.params ≡ length (term_row file t).words.params
  term-arity = ap (λ (r : SpelledTerm). length r.signature.params) (some_is there (term-before before-row t below)) ∙ binders_many (term_row file t).words.params

  pub term-stream : row ≡ term_of_file file t
  term-stream = some_is there (term-before before-row t below)

-- ---- a node more, and an item that is kept

module _ (tables : RowsBefore) (params : List Binder) (s : Stage) (n : RunNode) (held : IsHeld tables params s) (parts : HasParts tables (values_in s) n) where
  abbrev later : List Value
  later = values_in (with_node s n)

  pub heap-more : (x : Item) (y : MachineItem Tree) → item_at later x ≡ y → map (item_at later) (s.heap ++ x ∷ []) ≡ map (item_at (values_in s)) s.heap ++ y ∷ []
  heap-more x y is = map-append (item_at later) s.heap (x ∷ []) ∙ rw (heap-still tables params s n held parts, is) refl

  pub heap_parts-more : (x : Item) (y : Part) → part_at later x ≡ y → map (part_at later) (s.heap ++ x ∷ []) ≡ map (part_at (values_in s)) s.heap ++ y ∷ []
  heap_parts-more x y is = map-append (part_at later) s.heap (x ∷ []) ∙ rw (heap_parts-still tables params s n held parts, is) refl

  pub kept-more : (x : Item) → IsItem later x → AreItems later (s.heap ++ x ∷ [])
  kept-more x h = items-both later s.heap (x ∷ []) (held-still tables params s n held parts).heap (h, tt)

-- ---- applications

app-node : (tables : RowsBefore) (vs : List Value) (t : ℕ) (os : List ℕ) (n : RunNode) → Applies (Some n) t os → AreExpressions vs os → HasArity tables t (length os)
    → HasParts tables vs n × (value_of vs n ≡ an_expression (app t (trees_of (expressions_at vs os))))
app-node tables vs t os (node.App u ops) a es arity = (
  (subst (AreExpressions vs) a.1 es, subst (λ v. HasArity tables v (length ops.items)) a.0 (subst (λ (ns : List ℕ). HasArity tables t (length ns)) a.1 arity)),
  ap (λ v. an_expression (app v (trees_of (expressions_at vs ops.items)))) (sym a.0) ∙ ap (λ (ns : List ℕ). an_expression (app t (trees_of (expressions_at vs ns)))) (sym a.1),
)
app-node tables vs t os _ a es arity = absurd a

abbrev pub kept-trace : Trace → Result Trace K
kept-trace tr = Ok tr

abbrev operands-ok : List Tree → List (MachineItem Tree) → Result (List Tree × List (MachineItem Tree)) K
operands-ok es xs = Ok (es, xs)

module _ (file : List ℕ) (t : ℕ) (s : Stage) where
  pub may-build : ((tables : RowsBefore) × (params : List Binder) × IsOfFile file tables × IsMade tables params s
      × ((r : Tree × List (MachineItem Tree)) × (built strict tables 0 t (state_of params s) ≡ Ok r))) → MayBuild file t s
  unfolding built
  may-build (tables, params, q, made, (r, making)) =
      from_want (slice_get tables.terms t) k.TermIndex _ r making λ row at e1.
      from_bind (pop_operands (length row.signature.params) (items_at (values_in s) s.stack)) _ r e1 λ es popping e2.
      from_need (nat_le (length row.signature.params) (length (items_at (values_in s) s.stack))) k.Underflow _ es popping λ many popping2. (
        term-there file tables q t row at,
        subst (λ n. HasExprs n s.stack) (term-arity file tables q t row at) (has-exprs tables (values_in s) (length row.signature.params) s.stack [] es made.1 popping2),
      )

-- what a built application is
module _ (file : List ℕ) (t : ℕ) (s s' : Stage) (made-at : ℕ) (b : IsBuilt file t s s' made-at) where
  abbrev pub bare : Stage
  bare = with_stack s s'.stack

  module _ (tables : RowsBefore) (params : List Binder) (q : IsOfFile file tables) (made : IsMade tables params s) where
    split : AreExpressions (values_in s) (reverse b.operands) × IsStack tables (values_in s) s'.stack
    split = exprs-below tables (values_in s) (reverse b.operands) s'.stack (subst (IsStack tables (values_in s)) b.taken made.1)

    pub bare-made : IsMade tables params bare
    bare-made = (held-of tables params s s.stack s'.stack made.0, split.1)

    -- the row has as many parameters as there are operands
    module _ (row : SpelledTerm) (at : slice_get tables.terms t ≡ Some row) where
      many : length row.signature.params ≡ length b.operands
      many = term-arity file tables q t row at ∙ sym b.many

      pub node-there : HasParts tables (values_in s) b.node × (value_of (values_in s) b.node ≡ an_expression (app t (trees_of (expressions_at (values_in s) b.operands))))
      node-there = app-node tables (values_in s) t b.operands b.node b.applies (unturned (values_in s) b.operands split.0) (row, at, many)

      pub popped-are : pop_exprs (length row.signature.params) (items_at (values_in s) s.stack) [] ≡ operands-ok (expressions_at (values_in s) b.operands) (items_at (values_in s) s'.stack)
      popped-are =
          ap (λ n. pop_exprs n (items_at (values_in s) s.stack) []) many ∙ ap (λ xs. pop_exprs (length b.operands) (items_at (values_in s) xs) []) b.taken
          ∙ pop-operands (values_in s) b.operands s'.stack

      -- the parts below the operands
      pub dropped : drop (length row.signature.params) (parts_at (values_in s) s.stack) ≡ parts_at (values_in s) s'.stack
      dropped =
          ap (λ n. drop n (parts_at (values_in s) s.stack)) (many ∙ sym (length-reverse b.operands)) ∙ ap (λ xs. drop (length (reverse b.operands)) (parts_at (values_in s) xs)) b.taken
          ∙ drop-exprs (values_in s) (reverse b.operands) s'.stack

    -- the row is there, and what is built is the node's expression
    pub built-row : {G : Type 0} (r : Tree × List (MachineItem Tree)) → built strict tables 0 t (state_of params s) ≡ Ok r
        → ((row : SpelledTerm) (at : slice_get tables.terms t ≡ Some row) → r ≡ (app t (trees_of (expressions_at (values_in s) b.operands)), items_at (values_in s) s'.stack) → G) → G
    unfolding built
    built-row r making go =
        from_want (slice_get tables.terms t) k.TermIndex _ r making λ row at e1.
        from_bind (pop_operands (length row.signature.params) (items_at (values_in s) s.stack)) _ r e1 λ es popping e2.
        from_need (nat_le (length row.signature.params) (length (items_at (values_in s) s.stack))) k.Underflow _ es popping λ many popping2.
        from_then (operands_fit (signatures_in tables) (context_of params s) (map (λ e. e) es.0) row.signature.params) _ r e2 λ u fit e3.
        let is : es ≡ (expressions_at (values_in s) b.operands, items_at (values_in s) s'.stack) = taken-is es (expressions_at (values_in s) b.operands, items_at (values_in s) s'.stack) (sym popping2 ∙ popped-are row at) in
        go row at (sym (taken-is (app t (trees_of es.0), es.1) r e3) ∙ ap (λ (z : List Tree × List (MachineItem Tree)). (app t (trees_of z.0), z.1)) is)

  abbrev pub new : ℕ
  new = length s.nodes

  abbrev pub whole : Stage
  whole = with_stack (with_node s b.node) (Held (Expr new) ∷ s'.stack)

  abbrev tree : Tree
  tree = app t (trees_of (expressions_at (values_in s) b.operands))

  abbrev pub term-made : RowsBefore → List Binder → Type 0
  term-made tables params = IsHeld tables params (with_node bare b.node) × IsExpression (values_in whole) new × (expression_at (values_in whole) new ≡ tree) × IsStack tables (values_in whole) s'.stack
      × HasParts tables (values_in s) b.node

  module _ (tables : RowsBefore) (params : List Binder) (q : IsOfFile file tables) (made : IsMade tables params s) where
    term-facts : (row : SpelledTerm) → slice_get tables.terms t ≡ Some row → term-made tables params
    term-facts row at =
        let (parts, value) = node-there tables params q made row at in
        let below = bare-made tables params q made in
        let (is, e) = expression-added tables params bare b.node below.0 parts tree value in
        (held-still tables params bare b.node below.0 parts, is, e, stack-still tables params bare b.node below.0 parts s'.stack below.1, parts)

    -- the stack, and the parts on it
    stack-is : term-made tables params → items_at (values_in whole) (Held (Expr new) ∷ s'.stack) ≡ expr tree ∷ items_at (values_in s) s'.stack
    stack-is (held, is, e, rest, parts) = let below = bare-made tables params q made in rw (e, items-still tables params bare b.node below.0 parts s'.stack below.1) refl

    parts-are : term-made tables params → parts_at (values_in whole) (Held (Expr new) ∷ s'.stack) ≡ expression ∷ parts_at (values_in s) s'.stack
    parts-are (held, is, e, rest, parts) = let below = bare-made tables params q made in ap (λ ps. expression ∷ ps) (parts-still tables params bare b.node below.0 parts s'.stack below.1)

    pub term-state : term-made tables params → state_of params whole ≡ record (state_of params s) { stack = expr tree ∷ items_at (values_in s) s'.stack }
    term-state h =
        let below = bare-made tables params q made in
        alike (context_of params s) (heap-still tables params bare b.node below.0 h.4) (stack-is h) (hyps-still tables params bare b.node below.0 h.4)

    pub term-trace : term-made tables params → trace_of whole ≡ stacked (trace_of s) (expression ∷ parts_at (values_in s) s'.stack)
    term-trace h =
        let below = bare-made tables params q made in
        alike-trace (heap_parts-still tables params bare b.node below.0 h.4) (parts-are h) (lets-still tables params bare b.node below.0 h.4)

  want-is : {A B : Type 0} (o : Option A) (rule : K) (f : A → Result B K) (x : A) → o ≡ Some x → (want o rule >>= f) ≡ f x
  want-is o rule f x is = rw is refl

  -- one node more
  few : size_of whole ≤ size_of s + 1
  few = omega (arith, one-node s.nodes b.node, ap unmade b.taken, unmade-exprs (reverse b.operands) s'.stack)

  pub term-leads : Leads (IsRead file) code.Term t s whole
  unfolding proof_step traced
  term-leads tables params st q made row =
      from_bind (built strict tables 0 t (state_of params s)) _ st row λ r making e1.
      built-row tables params q.0 made r making λ row1 at r-is.
      let h = term-facts tables params q.0 made row1 at in
      let pushed : Tree × List (MachineItem Tree) → State Tree = λ z. record (state_of params s) { stack = expr z.0 ∷ z.1 } in (
        (held-of tables params (with_node s b.node) s'.stack (Held (Expr new) ∷ s'.stack) h.0, (h.1, h.3)),
        sym (taken-is (pushed r) st e1) ∙ ap pushed r-is ∙ sym (term-state tables params q.0 made h),
        want-is (slice_get tables.terms t) k.TermIndex _ row1 at
            ∙ ap (λ ps. kept-trace (stacked (trace_of s) (expression ∷ ps))) (dropped tables params q.0 made row1 at) ∙ ap kept-trace (sym (term-trace tables params q.0 made h)),
        few,
      )

  abbrev pub whole_saved : Stage
  whole_saved = record whole { heap = s.heap ++ Expr new ∷ [] }

  pub term_save-leads : Leads (IsRead file) code.TermSave t s whole_saved
  unfolding proof_step traced
  term_save-leads tables params st q made row =
      from_bind (built strict tables 0 t (state_of params s)) _ st row λ r making e1.
      built-row tables params q.0 made r making λ row1 at r-is.
      let h = term-facts tables params q.0 made row1 at in
      let below = bare-made tables params q.0 made in
      let pushed : Tree × List (MachineItem Tree) → State Tree = λ z. record (state_of params s) { stack = expr z.0 ∷ z.1; heap = map (item_at (values_in s)) s.heap ++ expr z.0 ∷ [] } in (
        (
          record {
            nodes = h.0.nodes;
            heap = kept-more tables params bare b.node below.0 h.4 (Expr new) h.1;
            hyps = h.0.hyps;
            lets = h.0.lets;
            variables = h.0.variables;
          },
          (h.1, h.3),
        ),
        sym (taken-is (pushed r) st e1) ∙ ap pushed r-is
            ∙ sym (alike (context_of params s) (heap-more tables params bare b.node below.0 h.4 (Expr new) (expr tree) (ap expr h.2)) (stack-is tables params q.0 made h) (hyps-still tables params bare b.node below.0 h.4)),
        want-is (slice_get tables.terms t) k.TermIndex _ row1 at
            ∙ ap (λ ps. kept-trace (kept (stacked (trace_of s) (expression ∷ ps)) expression)) (dropped tables params q.0 made row1 at)
            ∙ ap kept-trace (sym (alike-trace (heap_parts-more tables params bare b.node below.0 h.4 (Expr new) expression refl) (parts-are tables params q.0 made h) (lets-still tables params bare b.node below.0 h.4))),
        few,
      )

  pub whole-is : on_stack s' (Held (Expr made-at)) ≡ whole
  whole-is = ap (λ (z : Stage). with_stack z (Held (Expr made-at) ∷ s'.stack)) b.stage ∙ ap (λ n. with_stack (with_node s b.node) (Held (Expr n) ∷ s'.stack)) b.last

  pub whole_saved-is : (h : List Item) → h ≡ s'.heap ++ Expr made-at ∷ [] → on_stack (record s' { heap = h }) (Held (Expr made-at)) ≡ whole_saved
  whole_saved-is h is =
      ap (λ z. on_stack (record s' { heap = z }) (Held (Expr made-at))) is
      ∙ ap (λ (z : Stage). record (with_stack z (Held (Expr made-at) ∷ s'.stack)) { heap = z.heap ++ Expr made-at ∷ [] }) b.stage
      ∙ ap (λ n. record (with_stack (with_node s b.node) (Held (Expr n) ∷ s'.stack)) { heap = s.heap ++ Expr n ∷ [] }) b.last

module _ (file : List ℕ) (t : ℕ) (s : Stage) where
  pub may-term : Goes (IsRead file) code.Term t s → MayBuild file t s
  unfolding proof_step
  may-term (tables, params, st, q, made, row) = from_bind (built strict tables 0 t (state_of params s)) _ st row λ r making e1. may-build file t s (tables, params, q.0, made, (r, making))

  pub may-term_save : Goes (IsRead file) code.TermSave t s → MayBuild file t s
  unfolding proof_step
  may-term_save (tables, params, st, q, made, row) = from_bind (built strict tables 0 t (state_of params s)) _ st row λ r making e1. may-build file t s (tables, params, q.0, made, (r, making))
