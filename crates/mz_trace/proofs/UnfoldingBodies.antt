-- What Unfold leads to: the definition's stream is run on the body that stands on top.
use Rattle.std.proofs.Common.{Vec, Global, Result, Bool, true, false, ◌≡◌, ◌<◌, ℕ, List, ◌∷◌, Some, None, Ok, length, refl, sym, ap, ◌∙◌, subst, inl, inr, arith}
use Rattle.std.specs.Prelude.{drop, slice_get, if◌then◌else◌}
use Rattle.mz_cmd.specs.declared.rule.K.{K}
use Rattle.mz_cmd.specs.declared.rule.K.TheVariants as k
use Rattle.mz_cmd.specs.declared.code.ProofCode.TheVariants as code
use Rattle.mz_layout_tables.specs.Tables.{term_row, term_count}
use Rattle.mz_logic_theory.specs.Tree.{Tree, Trees, var, app, listed, instance, followed_by, variables}
use Rattle.mz_logic_theory.specs.Signature.{Signature}
use Rattle.mz_logic_theory.specs.Declaration.{signatures, body_tree}
use Rattle.mz_logic_theory.specs.declared.binder.Binder.{Binder}
use Rattle.mz_mmu_theory.specs.Sides.{term_at}
use Rattle.mz_machine_theory.specs.Profile.{strict, tree_parts, obligation, Item as MachineItem}
use Rattle.mz_machine_theory.specs.Spells.{SpelledTerm, trees_of}
use Rattle.mz_machine_theory.specs.Steps.{◌>>=◌, want}
use Rattle.mz_machine_theory.specs.Sorted.{Sorted, ItemsSorted}
use Rattle.mz_machine_theory.specs.Tests.{same_tree}
use Rattle.mz_machine_theory.specs.UnifyMachine.{Matching, UnifyState, unify}
use Rattle.mz_machine_theory.proofs.Offered.{from_bind, from_need, from_want, taken-is, rule_of-ok, trees_of-listed, stream-row}
use Rattle.mz_machine_theory.specs.MachineState.{RowsBefore, State, signatures_in}
use Rattle.mz_machine_theory.specs.Premises.{pop_expr, pop_sides}
use Rattle.mz_machine_theory.specs.ProofMachine.{proof_step, unfolding_of, matched_by, stream_of}
use Rattle.mz_trace.specs.OneHoleContexts.{owed, for_unfolded}
use Rattle.mz_trace.specs.Traces.{stacked, traced, below_sides, variables_in}
use Rattle.mz_trace.proofs.Following.{to_want, to_bind}
use Rattle.mz_trace.specs.Nodes.{Value, an_expression, expression_of, expression_at, expressions_at, IsExpression, body_under, IsBody, IsApplication, Applies}
use Rattle.mz_trace.specs.Entries.{items_at, parts_at, IsStack, IsWaiting, HasSides, TookSides}
use Rattle.mz_trace.specs.Commands.{Stage, with_stack, values_in, context_of, state_of, trace_of, IsMade, Known, IsRead, Goes, Leads, in_body, MayMeet, Meets, unmade}
use Rattle.mz_trace.specs.declared.entry.Item.TheVariants.{Expr}
use Rattle.mz_trace.specs.declared.entry.Entry.{Entry}
use Rattle.mz_trace.specs.declared.entry.Entry.TheVariants.{Held, Owed, ForUnfolded}
use Rattle.mz_trace.proofs.Bodied.{bodied}
use Rattle.mz_trace.proofs.Adding.{IsApplicationOf, application-at}
use Rattle.mz_trace.proofs.Growth.{term-there, term-stream}
use Rattle.mz_trace.proofs.Stages.{held-of}
use Rattle.mz_trace.proofs.Tops.{expr-top, sides-top}
use Rattle.mz_trace.proofs.Moves.{taken-trace}

-- ---- what stands there

pub unfold-has : (Q : Known) (n : ℕ) (s : Stage) → Goes Q code.Unfold n s → (e : ℕ) × (ys : List Entry) × (s.stack ≡ Held (Expr e) ∷ ys) × HasSides ys
unfolding proof_step unfolding_of
unfold-has Q n s (tables, params, st, q, made, row) =
    let vs = values_in s in
    from_bind (unfolding_of strict tables (state_of params s)) _ st row λ m making e1.
    from_bind (pop_expr (items_at vs s.stack)) _ m making λ a popping e2.
    from_bind (pop_sides strict a.1) _ m e2 λ o next e3.
    let (e, ys, is, a-is) = expr-top tables vs s.stack a made.1 popping in
    let (l, r, zs, took, o-is) = sides-top tables vs ys o (subst (IsStack tables vs) is made.1).1 (subst (λ (z : Tree × List (MachineItem Tree)). pop_sides strict z.1 ≡ Ok o) a-is next) in
    (e, ys, is, (l, r, zs, took))

-- ---- the row

abbrev Unfolding : Type 0
Unfolding = Matching Tree × Tree × List (MachineItem Tree)

-- the left side is an application, of a term with this stream
abbrev IsDefined : RowsBefore → List Value → ℕ → ℕ → Trees → List ℕ → Type 0
IsDefined tables vs l t es stream = (row : SpelledTerm) × (slice_get tables.terms t ≡ Some row) × (row.stream ≡ Some stream) × (slice_get vs l ≡ Some (an_expression (app t es)))

-- what is matched
abbrev Unfolds : RowsBefore → List Value → (e l r : ℕ) → List Entry → Unfolding → Type 0
Unfolds tables vs e l r xs m = (t : ℕ) × (es : Trees) × (stream : List ℕ) × IsDefined tables vs l t es stream
    × (m ≡ (in_body stream (listed es) (expression_at vs e), expression_at vs r, items_at vs xs))

module _ (tables : RowsBefore) (vs : List Value) (e l r : ℕ) (xs : List Entry) where
  abbrev steps-on : Tree × Tree × List (MachineItem Tree) → Result Unfolding K
  steps-on o = do
    p ← want (tree_parts o.0) k.Unfold
    stream ← want (stream_of (slice_get tables.terms p.0)) k.Unfold
    Ok (in_body stream p.1 (expression_at vs e), o.1, o.2)

  by-tree : (f : Tree) (m : Unfolding) → slice_get vs l ≡ Some (an_expression f) → steps-on (f, expression_at vs r, items_at vs xs) ≡ Ok m → Unfolds tables vs e l r xs m
  by-tree (var x) m at h = absurd cc
  by-tree (app t es) m at h =
      from_want (stream_of (slice_get tables.terms t)) k.Unfold _ m h λ stream has e1.
      let (row, there, is) = stream-row (slice_get tables.terms t) stream has in
      (t, es, stream, (row, there, is, at), sym (taken-is (in_body stream (listed es) (expression_at vs e), expression_at vs r, items_at vs xs) m e1))

  unfolds-by : (m : Unfolding) → IsExpression vs l → steps-on (expression_at vs l, expression_at vs r, items_at vs xs) ≡ Ok m → Unfolds tables vs e l r xs m
  unfolds-by m (f, at) h = by-tree f m at (subst (λ z. steps-on (z, expression_at vs r, items_at vs xs) ≡ Ok m) (ap expression_of at) h)

-- ---- the two sides

abbrev Sides : Type 0
Sides = Tree × Tree × List (MachineItem Tree)

abbrev taken-sides : Sides → Result Sides K
taken-sides o = Ok o

module _ (vs : List Value) (ys : List Entry) (l r : ℕ) (zs : List Entry) where
  abbrev sides-at : Sides
  sides-at = (expression_at vs l, expression_at vs r, items_at vs zs)

  sides-are : TookSides ys l r zs → (o : Sides) → pop_sides strict (items_at vs ys) ≡ Ok o → o ≡ sides-at
  sides-are (inl is) o h = sym (taken-is sides-at o (subst (λ z. pop_sides strict (items_at vs z) ≡ Ok o) is h))
  sides-are (inr (n, is)) o h =
      from_need (same_tree (expression_at vs n) (expression_at vs l)) k.Unfold _ o (subst (λ z. pop_sides strict (items_at vs z) ≡ Ok o) is h) λ same e.
      sym (taken-is sides-at o e)

  parts-below : TookSides ys l r zs → below_sides (parts_at vs ys) ≡ parts_at vs zs
  parts-below (inl is) = rw is refl
  parts-below (inr (n, is)) = rw is refl

  took-stack : (tables : RowsBefore) → TookSides ys l r zs → IsStack tables vs ys → IsExpression vs l × IsExpression vs r × IsWaiting tables vs zs
  took-stack tables (inl is) h = subst (IsStack tables vs) is h
  took-stack tables (inr (n, is)) h = (subst (IsStack tables vs) is h).1

  took-unmade : TookSides ys l r zs → unmade ys ≡ unmade zs
  took-unmade (inl is) = ap unmade is
  took-unmade (inr (n, is)) = ap unmade is

  took-sorted : (sigs : List Signature) (ctx : List Binder) → TookSides ys l r zs → ItemsSorted sigs ctx (items_at vs ys) → Sorted sigs ctx (expression_at vs l)
  took-sorted sigs ctx (inl is) h = let (sides, rest) = subst (λ (z : List Entry). ItemsSorted sigs ctx (items_at vs z)) is h in sides.0
  took-sorted sigs ctx (inr (n, is)) h = let (over, (sides, rest)) = subst (λ (z : List Entry). ItemsSorted sigs ctx (items_at vs z)) is h in sides.0

-- ---- Unfold

of-file : (b : Bool) (xs ys : List ℕ) → (if b then Some xs else None) ≡ Some ys → ys ≡ xs
of-file true xs ys h = cc
of-file false xs ys h = absurd cc

alike : (t u : ℕ) (es fs : Trees) (ys zs : List ℕ) → t ≡ u → es ≡ fs → ys ≡ zs → for_unfolded t es ys ≡ for_unfolded u fs zs
alike t u es fs ys zs a b c = rw (a, b, c) refl

module _ (n : ℕ) (s : Stage) (ys zs : List Entry) (e l r : ℕ) (took : TookSides ys l r zs) where
  abbrev before : Stage
  before = with_stack s (Held (Expr e) ∷ ys)

  abbrev state-with : List Binder → List (MachineItem Tree) → State Tree
  state-with params xs = record (state_of params s) { stack = xs }

  record Row (tables : RowsBefore) (params : List Binder) (st : State Tree) : Type 0 where
    pub m : Unfolding
    pub u : UnifyState Tree
    pub making : unfolding_of strict tables (state_of params before) ≡ Ok m
    pub matching : matched_by strict tables (context_of params s) m.0 ≡ Ok u
    pub popping : pop_sides strict (items_at (values_in s) ys) ≡ taken-sides (sides-at (values_in s) ys l r zs)
    pub state : st ≡ state-with params (obligation m.0.target m.1 ∷ m.2)
    pub unfolds : Unfolds tables (values_in s) e l r zs m

  unfold-row : (tables : RowsBefore) (params : List Binder) (st : State Tree) → IsMade tables params before
      → proof_step strict tables 0 code.Unfold n (state_of params before) ≡ Ok st → Row tables params st
  unfolding proof_step unfolding_of
  unfold-row tables params st made row =
      let vs = values_in s in
      from_bind (unfolding_of strict tables (state_of params before)) _ st row λ m making e1.
      from_bind (matched_by strict tables (context_of params s) m.0) _ st e1 λ u matching e2.
      from_bind (pop_sides strict (items_at vs ys)) _ m making λ o popping e3.
      let o-is = sides-are vs ys l r zs took o popping in
      record {
        m = m;
        u = u;
        making = making;
        matching = matching;
        popping = popping ∙ ap taken-sides o-is;
        state = sym (taken-is (state-with params (obligation m.0.target m.1 ∷ m.2)) st e2);
        unfolds = unfolds-by tables vs e l r zs m (took-stack vs ys l r zs tables took made.1.1).0 (subst (λ z. steps-on tables vs e l r zs z ≡ Ok m) o-is e3);
      }

  -- what it makes beside
  unfold-trace : (tables : RowsBefore) (params : List Binder) (st : State Tree) (x : Row tables params st)
      → traced tables code.Unfold n (state_of params before) (trace_of before)
      ≡ taken-trace (stacked (trace_of s) (owed ∷ for_unfolded x.unfolds.0 (trees_of (listed x.unfolds.1)) (variables_in (drop (length (listed x.unfolds.1)) x.u.apart)) ∷ parts_at (values_in s) zs))
  unfolding traced
  unfold-trace tables params st x =
      let vs = values_in s in
      let at : expression_at vs l ≡ app x.unfolds.0 x.unfolds.1 = ap expression_of x.unfolds.3.3 in
      to_bind (pop_sides strict (items_at vs ys)) _ (sides-at vs ys l r zs) x.popping
      ∙ to_want (tree_parts (expression_at vs l)) k.Unfold _ (x.unfolds.0, listed x.unfolds.1) (ap tree_parts at)
      ∙ to_bind (unfolding_of strict tables (state_of params before)) _ x.m x.making
      ∙ to_bind (matched_by strict tables (context_of params s) x.m.0) _ x.u x.matching
      ∙ ap (λ ps. taken-trace (stacked (trace_of s) (owed ∷ for_unfolded x.unfolds.0 (trees_of (listed x.unfolds.1)) (variables_in (drop (length (listed x.unfolds.1)) x.u.apart)) ∷ ps)))
      (parts-below vs ys l r zs took)

  module _ (file : List ℕ) (tables : RowsBefore) (params : List Binder) (st : State Tree) (q : IsRead file tables params before) (made : IsMade tables params before) (x : Row tables params st) where
    abbrev t' : ℕ
    t' = x.unfolds.0

    abbrev es' : Trees
    es' = x.unfolds.1

    applied : IsApplicationOf tables (values_in s) t' es' (slice_get s.nodes l)
    applied = application-at tables s.nodes l t' es' made.0.nodes x.unfolds.3.3

    module _ (t : ℕ) (os : List ℕ) (applies : Applies (slice_get s.nodes l) t os) where
      same-term : t ≡ t'
      same-term = (applied.1 t os applies).0

      abbrev body : List ℕ
      body = drop (term_row file t).stream_at file

      term-within : t < term_count file
      term-within = subst (λ v. v < term_count file) (sym same-term) (term-there file tables q.0 t' x.unfolds.3.0 x.unfolds.3.1)

      stream-is : x.unfolds.2 ≡ body
      stream-is =
          of-file (term_row file t').words.has_body (drop (term_row file t').stream_at file) x.unfolds.2
          (sym (ap (λ (row : SpelledTerm). row.stream) (term-stream file tables q.0 t' x.unfolds.3.0 x.unfolds.3.1)) ∙ x.unfolds.3.2)
          ∙ ap (λ v. drop (term_row file v).stream_at file) (sym same-term)

      runs : unify strict (signatures_in tables) (context_of params s) (in_body body (listed es') (expression_at (values_in s) e)) ≡ Ok x.u
      runs = subst (λ (m : Matching Tree). unify strict (signatures_in tables) (context_of params s) m ≡ Ok x.u)
          (ap (λ (m : Unfolding). m.0) x.unfolds.4 ∙ ap (λ z. in_body z (listed es') (expression_at (values_in s) e)) stream-is)
          (rule_of-ok (unify strict (signatures_in tables) (context_of params s) x.m.0) x.u x.matching)

      -- what the stream met is the body's instance: what it ran on has a sort, by what is known of the state
      body-is : (met : List ℕ) → variables_in (drop (length (listed es')) x.u.apart) ≡ met → IsBody tables t (expressions_at (values_in s) os) met (expression_at (values_in s) e)
      body-is met met-is env declares =
          let vs = values_in s in
          let ctx = context_of params s in
          let (row, row-at, row-stream, at) = x.unfolds.3 in
          let (e-sorted, rest-sorted) = (q.1 env declares ctx (λ y b is. is)).stack_sorted in
          let left-is : expression_at vs l ≡ app t' (trees_of (listed es')) = ap expression_of at ∙ ap (app t') (sym (trees_of-listed es')) in
          bodied tables env declares ctx t' row body (listed es') (expression_at vs e) x.u met row-at (row-stream ∙ ap (λ z. Some z) stream-is)
          (subst (Sorted (signatures env) ctx) left-is (took-sorted vs ys l r zs (signatures env) ctx took rest-sorted)) e-sorted runs met-is
          ∙ ap (λ (zs : Trees). instance (followed_by zs (variables met)) (body_tree (term_at env t').form)) (trees_of-listed es' ∙ (applied.1 t os applies).1)
          ∙ ap (λ v. body_under env v (expressions_at vs os) met) (sym same-term)

  pub unfold-applies : (file : List ℕ) → Goes (IsRead file) code.Unfold n before → IsApplication (slice_get s.nodes l)
  unfold-applies file (tables, params, st, q, made, row) = (applied file tables params st q made (unfold-row tables params st made row)).0

  module _ (file : List ℕ) (t : ℕ) (os : List ℕ) (applies : Applies (slice_get s.nodes l) t os) where
    pub unfold-within : Goes (IsRead file) code.Unfold n before → t < term_count file
    unfold-within (tables, params, st, q, made, row) = term-within file tables params st q made (unfold-row tables params st made row) t os applies

    pub unfold-meets : Goes (IsRead file) code.Unfold n before → MayMeet s.nodes (drop (term_row file t).stream_at file) e
    unfold-meets (tables, params, st, q, made, row) =
        let x = unfold-row tables params st made row in
        (tables, signatures_in tables, context_of params s, listed x.unfolds.1, x.u, made.0.nodes, made.1.0, runs file tables params st q made x t os applies)

  pub unfold-leads : (file : List ℕ) (t : ℕ) (os met : Vec ℕ Global) → Applies (slice_get s.nodes l) t os.items → Meets s.nodes (drop (term_row file t).stream_at file) e met.items
      → Leads (IsRead file) code.Unfold n before (with_stack s (Owed e r ∷ ForUnfolded t e os met ∷ zs))
  unfold-leads file t os met applies meets tables params st q made row =
      let vs = values_in s in
      let x = unfold-row tables params st made row in
      let (t-is, es-are, os-are, arity) = (applied file tables params st q made x).1 t os.items applies in
      let (left, right, waiting) = took-stack vs ys l r zs tables took made.1.1 in
      let met-is = meets tables (signatures_in tables) (context_of params s) (listed x.unfolds.1) x.u made.0.nodes made.1.0 (runs file tables params st q made x t os.items applies) in
      let body = body-is file tables params st q made x t os.items applies met.items met-is in (
        (held-of tables params s (Held (Expr e) ∷ ys) (Owed e r ∷ ForUnfolded t e os met ∷ zs) made.0, (made.1.0, right, (made.1.0, os-are, body, waiting))),
        x.state ∙ ap (λ (m : Unfolding). state-with params (obligation m.0.target m.1 ∷ m.2)) x.unfolds.4,
        unfold-trace tables params st x ∙ ap (λ p. taken-trace (stacked (trace_of s) (owed ∷ p ∷ parts_at vs zs)))
            (alike x.unfolds.0 t (trees_of (listed x.unfolds.1)) (trees_of (expressions_at vs os.items)) _ met.items (sym t-is) (trees_of-listed x.unfolds.1 ∙ es-are) met-is),
        omega (arith, took-unmade vs ys l r zs took),
      )
