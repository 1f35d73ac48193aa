-- Before the first command, and behind the last one.
use Rattle.std.proofs.Common.{◌≡◌, ◌≤◌, ◌<◌, ◌^◌, ℕ, zero, suc, ◌+◌, List, [], ◌∷◌, ◌++◌, Ok, length, map, refl, sym, ap, ◌∙◌, subst, arith}
use Rattle.std.proofs.lemmas.List.{append-nil, length-map, map-append}
use Rattle.mz_base.proofs.Offered.{one-further}
use Rattle.mz_logic_theory.specs.Tree.{Tree, var}
use Rattle.mz_logic_theory.specs.declared.binder.Binder.{Binder}
use Rattle.mz_machine_theory.specs.Profile.{strict, expr, proof, obligation, conversion, Item as MachineItem}
use Rattle.mz_machine_theory.specs.Spells.{dummy_of}
use Rattle.mz_machine_theory.proofs.Offered.{from_bind}
use Rattle.mz_machine_theory.specs.MachineState.{RowsBefore, State, is_theorem, Heading}
use Rattle.mz_machine_theory.specs.ProofMachine.{own_variables, last_item, ends_with, proof_end}
use Rattle.mz_machine_theory.specs.Bodies.{body_start, body_from, Runs}
use Rattle.mz_layout_tables.specs.Tables.{thm_row}
use Rattle.mz_machine_env.specs.OwnRow.{MayRun}
use Rattle.mz_machine_theory.specs.Headings.{heading_of}
use Rattle.mz_machine_env.specs.Before.{tables_before}
use Rattle.mz_layout_tables.specs.declared.rows_so_far.Rows.{Rows}
use Rattle.mz_machine_env.proofs.Offered.{binders_many}
use Rattle.mz_trace.specs.OneHoleContexts.{Part, expression, proved}
use Rattle.mz_trace.specs.Traces.{Trace, trace_start, trace_from, trace_body}
use Rattle.mz_trace.specs.Nodes.{Value, values, proof_at, HaveParts, AreProofs, IsProof}
use Rattle.mz_trace.specs.Entries.{item_at, part_at, items_at, parts_at, IsStack}
use Rattle.mz_trace.specs.Commands.{Stage, begun, values_in, context_of, state_of, trace_of, IsHeld, IsMade, IsRead, size_of}
use Rattle.mz_trace.specs.Sharing.{nodes_in}
use Rattle.mz_trace.specs.Numbered.{IsWhole}
use Rattle.mz_trace.specs.Runs.{IsRunOf, RunsFrom, LeadsToEnd, HasRoot, IsFinished}
use Rattle.mz_trace.specs.declared.run.Run.{Run}
use Rattle.mz_trace.specs.declared.node.RunNode.{RunNode}
use Rattle.mz_trace.specs.declared.node.RunNode.TheVariants as node
use Rattle.mz_trace.specs.declared.entry.Item.TheVariants.{Expr, Proof as ProofItem, Conversion as ConversionItem}
use Rattle.mz_trace.specs.declared.entry.Entry.{Entry}
use Rattle.mz_trace.specs.declared.entry.Entry.TheVariants.{Held, Owed, ForProof, ForTurned, ForOperand, ForUnfolded, ForCut}
use Rattle.mz_trace.proofs.Stages.{alike, alike-trace, state, expression-added, held-still}
use Rattle.mz_trace.proofs.Growth.{heap-more, heap_parts-more, kept-more}
use Rattle.mz_trace.proofs.Known.{known-start}
use Rattle.mz_trace.proofs.FewNodes.{size-begun}
use Rattle.mz_trace.proofs.Named.{few-lets}

-- ---- parameters

-- nothing but variables
pub record IsBare (s : Stage) (n : ℕ) : Type 0 where
  pub stack : s.stack ≡ []
  pub hyps : s.hyps ≡ []
  pub lets : s.lets ≡ []
  pub dummies : s.dummies ≡ []
  pub variables : s.variables ≡ n

bare-begun : (n : ℕ) → IsBare (begun n) n
bare-begun zero = record { stack = refl; hyps = refl; lets = refl; dummies = refl; variables = refl }
bare-begun (suc n) =
    let before = bare-begun n in
    record { stack = before.stack; hyps = before.hyps; lets = before.lets; dummies = before.dummies; variables = omega (arith, before.variables) }

held-begun : (tables : RowsBefore) (n : ℕ) (ps : List Binder) → length ps ≡ n → IsHeld tables ps (begun n)
held-begun tables zero [] is = record { nodes = tt; heap = tt; hyps = tt; lets = tt; variables = refl }
held-begun tables (suc n) (p ∷ ps) is =
    let held = held-begun tables n ps (omega (arith, is)) in
    let s = begun n in
    let still = held-still tables ps s (node.Var s.variables) held tt in
    let added = expression-added tables ps s (node.Var s.variables) held tt (var s.variables) refl in
    record {
      nodes = still.nodes;
      heap = kept-more tables ps s (node.Var s.variables) held tt (Expr (length s.nodes)) added.0;
      hyps = still.hyps;
      lets = still.lets;
      variables = omega (arith, held.variables);
    }
held-begun tables _ _ is = absurd (omega (arith, is))

own-last : (i : ℕ) (p : Binder) (ps : List Binder) → own_variables strict i (p ∷ ps) ≡ own_variables strict i ps ++ var (i + length ps) ∷ []
own-last i p [] = ap (λ (k : ℕ). var k ∷ []) (omega arith)
own-last i p (q ∷ qs) = ap (λ (ts : List Tree). var i ∷ ts) (own-last (suc i) q qs ∙ ap (λ (k : ℕ). own_variables strict (suc i) qs ++ var k ∷ []) (one-further i (length qs)))

heap-begun : (tables : RowsBefore) (n : ℕ) (ps : List Binder) → length ps ≡ n → map (item_at (values_in (begun n))) (begun n).heap ≡ map expr (own_variables strict 0 ps)
heap-begun tables zero [] is = refl
heap-begun tables (suc n) (p ∷ ps) is =
    let few : length ps ≡ n = omega (arith, is) in
    let held = held-begun tables n ps few in
    let s = begun n in
    let added = expression-added tables ps s (node.Var s.variables) held tt (var s.variables) refl in
    let place : s.variables ≡ 0 + length ps = omega (arith, (bare-begun n).variables, few) in
    heap-more tables ps s (node.Var s.variables) held tt (Expr (length s.nodes)) (expr (var s.variables)) (ap expr added.1)
    ∙ ap (λ (xs : List (MachineItem Tree)). xs ++ expr (var s.variables) ∷ []) (heap-begun tables n ps few)
    ∙ ap (λ (k : ℕ). map expr (own_variables strict 0 ps) ++ expr (var k) ∷ []) place
    ∙ sym (ap (map expr) (own-last 0 p ps) ∙ map-append expr (own_variables strict 0 ps) (var (0 + length ps) ∷ []))
heap-begun tables _ _ is = absurd (omega (arith, is))

last-expression : (ps : List Binder) → map (λ (b : Binder). expression) ps ++ expression ∷ [] ≡ expression ∷ map (λ (b : Binder). expression) ps
last-expression [] = refl
last-expression (p ∷ ps) = ap (λ (xs : List Part). expression ∷ xs) (last-expression ps)

parts-begun : (tables : RowsBefore) (n : ℕ) (ps : List Binder) → length ps ≡ n → map (part_at (values_in (begun n))) (begun n).heap ≡ map (λ (b : Binder). expression) ps
parts-begun tables zero [] is = refl
parts-begun tables (suc n) (p ∷ ps) is =
    let few : length ps ≡ n = omega (arith, is) in
    let held = held-begun tables n ps few in
    let s = begun n in
    heap_parts-more tables ps s (node.Var s.variables) held tt (Expr (length s.nodes)) expression refl
    ∙ ap (λ (xs : List Part). xs ++ expression ∷ []) (parts-begun tables n ps few) ∙ last-expression ps
parts-begun tables _ _ is = absurd (omega (arith, is))

module _ (tables : RowsBefore) (h : Heading) (n : ℕ) (many : length h.params ≡ n) where
  bare : IsBare (begun n) n
  bare = bare-begun n

  pub begun-made : IsMade tables h.params (begun n)
  begun-made = (held-begun tables n h.params many, subst (λ (xs : List Entry). IsStack tables (values_in (begun n)) xs) (sym bare.stack) tt)

  pub begun-state : state_of h.params (begun n) ≡ body_start strict h
  begun-state =
      alike (context_of h.params (begun n)) (heap-begun tables n h.params many) (ap (items_at (values_in (begun n))) bare.stack) (rw bare.hyps refl)
      ∙ ap (λ (ctx : List Binder). state ctx (map expr (own_variables strict 0 h.params)) [] []) (ap (λ (ds : List ℕ). h.params ++ map dummy_of ds) bare.dummies ∙ append-nil h.params)

  pub begun-trace : trace_of (begun n) ≡ (trace_start h).1
  begun-trace = alike-trace (parts-begun tables n h.params many) (ap (parts_at (values_in (begun n))) bare.stack) (rw bare.lets refl)

-- ---- the END

abbrev one-proof : Tree → List (MachineItem Tree)
one-proof e = proof e ∷ []

last-is : (xs : List (MachineItem Tree)) (e : Tree) → last_item is_theorem xs ≡ Ok e → xs ≡ one-proof e
last-is (proof x ∷ []) e is = let same : x ≡ e = cc in ap one-proof same
last-is _ e is = absurd cc

proof-left : (tables : RowsBefore) (h : Heading) (st end : State Tree) → h.kind ≡ is_theorem → proof_end strict tables h st ≡ Ok end → (e : Tree) × (st.stack ≡ one-proof e)
unfolding proof_end ends_with
proof-left tables h st end kind done =
    from_bind (ends_with strict tables h st) _ end done λ m m-is e1.
    from_bind (last_item h.kind st.stack) _ m m-is λ e e-is e2. (e, last-is st.stack e (subst (λ k. last_item k st.stack ≡ Ok e) kind e-is))

none-left : (tables : RowsBefore) (vs : List Value) (xs : List Entry) → IsStack tables vs xs → items_at vs xs ≡ [] → xs ≡ []
none-left tables vs [] h is = refl
none-left tables vs (Held (Expr e) ∷ xs) h is = absurd cc
none-left tables vs (Held (ProofItem e p) ∷ xs) h is = absurd cc
none-left tables vs (Held (ConversionItem l r c) ∷ xs) h is = absurd cc
none-left tables vs (Owed l r ∷ xs) h is = absurd cc
none-left tables vs _ h is = absurd h

one-left : (tables : RowsBefore) (vs : List Value) (xs : List Entry) (d : Tree) → IsStack tables vs xs → items_at vs xs ≡ one-proof d → (e p : ℕ) × (xs ≡ Held (ProofItem e p) ∷ [])
one-left tables vs [] d h is = absurd cc
one-left tables vs (Held (Expr e) ∷ xs) d h is = absurd cc
one-left tables vs (Held (ProofItem e p) ∷ xs) d h is =
    let none : items_at vs xs ≡ [] = cc in (e, p, ap (λ (ys : List Entry). Held (ProofItem e p) ∷ ys) (none-left tables vs xs h.1 none))
one-left tables vs (Held (ConversionItem l r c) ∷ xs) d h is = absurd cc
one-left tables vs (Owed l r ∷ xs) d h is = absurd cc
one-left tables vs _ d h is = absurd h

pub has-root : (tables : RowsBefore) (h : Heading) (s : Stage) (end : State Tree) → h.kind ≡ is_theorem → IsMade tables h.params s → proof_end strict tables h (state_of h.params s) ≡ Ok end → HasRoot s
has-root tables h s end kind made done =
    let (e, is) = proof-left tables h (state_of h.params s) end kind done in one-left tables (values_in s) s.stack e made.1 is

-- ---- the run

module _ (tables : RowsBefore) (h : Heading) (bytes : List ℕ) (s : Stage) (r : Run) (made : IsMade tables h.params s) (fin : IsFinished s r) where
  abbrev vs : List Value
  vs = values_in s

  root-there : IsProof vs r.root
  root-there = let there = subst (λ (xs : List Entry). IsStack tables vs xs) fin.root.1 made.1 in there.0.1

  pub run-is : trace_body tables h bytes ≡ Ok (state_of h.params s, trace_of s) → length s.nodes ≤ length h.params + nodes_in bytes → IsRunOf tables h bytes r
  run-is runs few = record {
    nodes = subst (λ (ns : List RunNode). HaveParts tables ns) (sym fin.nodes) made.0.nodes;
    lets = subst (λ (ns : List RunNode). AreProofs (values ns) r.lets) (sym fin.nodes) (subst (λ (ns : List ℕ). AreProofs vs ns) (sym fin.lets) made.0.lets);
    root = subst (λ (ns : List RunNode). IsProof (values ns) r.root) (sym fin.nodes) root-there;
    made = record {
      last = (state_of h.params s, trace_of s);
      runs = runs;
      left = ap (parts_at vs) fin.root.1 ∙ ap (λ (ns : List RunNode). proved (proof_at (values ns) r.root) ∷ []) (sym fin.nodes);
      names = ap (λ (ns : List ℕ). map (proof_at vs) ns) (sym fin.lets) ∙ ap (λ (ns : List RunNode). map (proof_at (values ns)) r.lets) (sym fin.nodes);
      dummies_are = ap (λ (ds : List ℕ). h.params ++ map dummy_of ds) (sym fin.dummies);
    };
    few = subst (λ (ns : List RunNode). length ns ≤ length h.params + nodes_in bytes) (sym fin.nodes) few;
  }

-- ---- a theorem's body

module _ (file bytes : List ℕ) (row : ℕ) (before : Rows) (may : MayRun file 0x06 row before) (runs : (at : ℕ) × Runs strict (tables_before file before) (heading_of file 0x06 row) at bytes)
    (start : Stage) (arity : ℕ) (arity-is : arity ≡ length (thm_row file row).params) (is : start ≡ begun arity) where
  abbrev rows : RowsBefore
  rows = tables_before file before

  abbrev own : Heading
  own = heading_of file 0x06 row

  many : length own.params ≡ arity
  many = binders_many (thm_row file row).params ∙ sym arity-is

  run-begun : body_from strict rows own (length bytes) runs.0 bytes (state_of own.params (begun arity)) ≡ Ok runs.1.0
  run-begun = ap (λ (st : State Tree). body_from strict rows own (length bytes) runs.0 bytes st) (begun-state rows own arity many) ∙ runs.1.1

  read-begun : IsRead file rows own.params (begun arity)
  read-begun = ((before, may.within, refl), known-start rows own (begun arity) (begun-state rows own arity many))

  pub runs-from : RunsFrom file bytes start
  runs-from =
      subst (λ (s : Stage). RunsFrom file bytes s) (sym is) (rows, own, length bytes, runs.0, runs.1.0, read-begun, refl, begun-made rows own arity many, run-begun)

  module _ (last : Stage) (leads : LeadsToEnd file bytes start last) where
    ended : IsMade rows own.params last × (proof_end strict rows own (state_of own.params last) ≡ Ok runs.1.0)
        × (trace_from rows own (length bytes) bytes (state_of own.params (begun arity), trace_of (begun arity)) ≡ Ok (state_of own.params last, trace_of last))
        × (size_of last ≤ size_of (begun arity) + nodes_in bytes)
    ended =
        subst (λ (s : Stage). LeadsToEnd file bytes s last) is leads rows own (length bytes) runs.0 runs.1.0 read-begun refl (begun-made rows own arity many) run-begun

    traced-whole : trace_body rows own bytes ≡ Ok (state_of own.params last, trace_of last)
    traced-whole =
        sym (ap (λ (st : State Tree). trace_from rows own (length bytes) bytes (st, trace_of (begun arity))) (begun-state rows own arity many)
        ∙ ap (λ (tr : Trace). trace_from rows own (length bytes) bytes (body_start strict own, tr)) (begun-trace rows own arity many)) ∙ ended.2

    few-nodes : length last.nodes ≤ length own.params + nodes_in bytes
    few-nodes = omega (arith, ended.3, size-begun arity, many)

    pub root-of : HasRoot last
    root-of = has-root rows own last runs.1.0 refl ended.0 ended.1

    pub run-of : (r : Run) → IsFinished last r → IsRunOf rows own bytes r
    run-of r fin = run-is rows own bytes last r ended.0 fin traced-whole few-nodes

    -- a command takes a byte, and names one proof at the most
    few-names : length last.lets ≤ length bytes
    few-names =
        let most = few-lets rows own (length bytes) bytes (state_of own.params (begun arity), trace_of (begun arity)) (state_of own.params last, trace_of last) ended.2 in
        let none = ap length (bare-begun arity).lets in
        omega (arith, most, none, length-map last.lets (proof_at (values_in last)), length-map (begun arity).lets (proof_at (values_in (begun arity))))

    pub whole-run : length bytes < 2 ^ 32 → (r : Run) → IsFinished last r → IsWhole r
    whole-run fits r fin =
        let run = run-of r fin in record {
          tables = rows;
          parts = run.nodes;
          lets = run.lets;
          root = run.root;
          few = omega (arith, fits, few-names, ap length fin.lets);
        }
