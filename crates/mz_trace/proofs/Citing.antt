-- What citing an assertion leads to.
use Rattle.std.proofs.Common.{Result, ◌≡◌, ◌<◌, ◌≤◌, ℕ, suc, ◌+◌, ◌-◌, List, [], ◌∷◌, ◌++◌, Some, Ok, length, map, refl, sym, ap, ◌∙◌, subst, arith}
use Rattle.std.specs.Prelude.{reverse, slice_get, drop, nat_le}
use Rattle.std.proofs.lemmas.List.{length-reverse, reverse-reverse, length-map}
use Rattle.std.specs.List.{range_with_len}
use Rattle.std.proofs.lemmas.Option.{slice_get_within}
use Rattle.std.proofs.lemmas.List.FromFn.{length-map-range_with_len}
use Rattle.mz_cmd.specs.declared.rule.K.{K}
use Rattle.mz_cmd.specs.declared.rule.K.TheVariants as k
use Rattle.mz_cmd.specs.declared.code.ProofCode.TheVariants as code
use Rattle.mz_logic_theory.specs.Tree.{Tree}
use Rattle.mz_logic_theory.specs.declared.binder.Binder.{Binder}
use Rattle.mz_mmu_theory.specs.Proof.{Proof, by_citation, no_proofs}
use Rattle.mz_layout_tables.specs.Tables.{thm_row, thm_count}
use Rattle.mz_machine_theory.specs.Profile.{strict, proof, Item as MachineItem}
use Rattle.mz_machine_theory.specs.UnifyLaws.{citing}
use Rattle.mz_machine_theory.specs.Spells.{SpelledThm, trees_of}
use Rattle.mz_machine_theory.specs.UnifyMachine.{Matching, UnifyState, unify}
use Rattle.mz_machine_theory.proofs.Offered.{from_bind, from_then, from_need, from_want, rule_of-ok, taken, taken-is, some_is}
use Rattle.mz_machine_theory.specs.MachineState.{RowsBefore, State, signatures_in}
use Rattle.mz_machine_theory.specs.Premises.{pop_expr, pop_operands, pop_exprs, operands_fit, are_disjoint}
use Rattle.mz_machine_theory.specs.ProofMachine.{proof_step, citation, matched_by, cited}
use Rattle.mz_machine_theory.specs.FileRows.{thm_of_file}
use Rattle.mz_machine_env.specs.Before.{Before}
use Rattle.mz_machine_env.proofs.Offered.{thm-before, binders_many}
use Rattle.mz_trace.specs.OneHoleContexts.{Part, proved, proofs_above}
use Rattle.mz_trace.specs.Traces.{Trace, stacked, named, traced, cited as cited-beside}
use Rattle.mz_trace.specs.Nodes.{Value, a_proof, expression_at, expressions_at, proof_at, proofs_at, value_of, HasParts, IsExpression, AreExpressions, IsProof, AreProofs, Uses, IsClaim, conclusion_under}
use Rattle.mz_trace.specs.Entries.{item_at, items_at, parts_at, IsStack, exprs_onto, proofs_onto, HasProofs}
use Rattle.mz_trace.specs.Commands.{Stage, with_node, with_stack, with_name, on_stack, values_in, context_of, state_of, trace_of, IsHeld, IsMade, IsOfFile, IsRead, Goes, Leads, IsCited, MayCite, TakesHyps, size_of, unmade}
use Rattle.mz_trace.specs.declared.node.RunNode.{RunNode}
use Rattle.mz_trace.specs.declared.node.RunNode.TheVariants as node
use Rattle.mz_trace.specs.declared.entry.Item.TheVariants.{Expr, Proof as ProofItem, Conversion as ConversionItem}
use Rattle.mz_trace.specs.declared.entry.Entry.{Entry}
use Rattle.mz_trace.specs.declared.entry.Entry.TheVariants.{Held, Owed, ForProof, ForTurned, ForOperand, ForUnfolded, ForCut}
use Rattle.mz_trace.proofs.Stages.{held-of, held-still, stack-still, proof-added, expression-still, same-expression-still, state-same, trace-same}
use Rattle.mz_trace.proofs.Tops.{expr-top, has-exprs, exprs-below, pop-operands, drop-exprs, unturned, proofs-below, drop-proofs, proofs-are, unturned-proofs}
use Rattle.mz_trace.proofs.Having.{rest-is}
use Rattle.mz_trace.proofs.Moves.{taken-trace}
use Rattle.mz_trace.proofs.FewNodes.{one-node, unmade-exprs, unmade-proofs}
use Rattle.mz_trace.proofs.Keeping.{named-made, named-state, named-trace}
use Rattle.mz_trace.proofs.CitingTaken.{many-taken, unify-takes}
use Rattle.mz_trace.proofs.Cited.{cited-claim}

-- ---- rows of the file

module _ (file : List ℕ) (tables : RowsBefore) (is : IsOfFile file tables) (t : ℕ) (row : SpelledThm) (at : slice_get tables.thms t ≡ Some row) where
  abbrev before-row : Before
  before-row = record { file = file; rows = is.0 }

  there : slice_get (map (thm_of_file file) (range_with_len 0 is.0.thms)) t ≡ Some row
  there = subst (λ (ts : RowsBefore). slice_get ts.thms t ≡ Some row) is.2 at

  below : t < is.0.thms
  below = omega (arith, slice_get_within (map (thm_of_file file) (range_with_len 0 is.0.thms)) t row there, length-map-range_with_len (thm_of_file file) 0 is.0.thms)

  pub thm-there : t < thm_count file
  thm-there = let most = is.1.thms_within in omega (arith, below, most)

  of-file : row ≡ thm_of_file file t
  of-file = some_is there (thm-before before-row t below)

  pub thm-arity : length row.params ≡ length (thm_row file t).params
  thm-arity = ap (λ (r : SpelledThm). length r.params) of-file ∙ binders_many (thm_row file t).params

  pub thm-stream : row.stream ≡ drop (thm_row file t).stream_at file
  thm-stream = ap (λ (r : SpelledThm). r.stream) of-file

-- ---- what stands on the stack

more : (n p count : ℕ) (xs : List Entry) → HasProofs count xs → HasProofs (suc count) (Held (ProofItem n p) ∷ xs)
more n p count xs (ps, ys, is, many) = ((n, p) ∷ ps, ys, ap (λ zs. Held (ProofItem n p) ∷ zs) is, ap suc many)

module _ (tables : RowsBefore) (vs : List Value) where
  -- proofs
  proofs-top : (xs : List Entry) (es : List Tree) (rest : List (MachineItem Tree)) → IsStack tables vs xs → items_at vs xs ≡ map proof es ++ rest → HasProofs (length es) xs
  proofs-top xs [] rest h e = ([], xs, refl, refl)
  proofs-top [] (y ∷ es) rest h e = absurd cc
  proofs-top (Held (Expr n) ∷ xs) (y ∷ es) rest h e = absurd cc
  proofs-top (Held (ProofItem n p) ∷ xs) (y ∷ es) rest h e =
      let next : items_at vs xs ≡ map proof es ++ rest = cc in
      let below = proofs-top xs es rest h.1 next in
      more n p (length es) xs below
  proofs-top (Held (ConversionItem a b c) ∷ xs) (y ∷ es) rest h e = absurd cc
  proofs-top (Owed a b ∷ xs) (y ∷ es) rest h e = absurd cc
  proofs-top (ForProof a b ∷ xs) (y ∷ es) rest h e = absurd h
  proofs-top (ForTurned ∷ xs) (y ∷ es) rest h e = absurd h
  proofs-top (ForOperand t done left ∷ xs) (y ∷ es) rest h e = absurd h
  proofs-top (ForUnfolded t a os ys ∷ xs) (y ∷ es) rest h e = absurd h
  proofs-top (ForCut a b ∷ xs) (y ∷ es) rest h e = absurd h

module _ (vs : List Value) where
  -- what is left below them
  left-below : (ps : List (ℕ × ℕ)) (ys : List Entry) (es : List Tree) (rest : List (MachineItem Tree)) → items_at vs (proofs_onto ps ys) ≡ map proof es ++ rest → length es ≡ length ps
      → items_at vs ys ≡ rest
  left-below [] ys [] rest e many = e
  left-below (p ∷ ps) ys (f ∷ es) rest e many =
      let next : items_at vs (proofs_onto ps ys) ≡ map proof es ++ rest = cc in
      left-below ps ys es rest next (omega (arith, many))
  left-below _ ys _ rest e many = absurd (omega (arith, many))

  -- what is left below operands
  below-operands : (count : ℕ) (ns : List ℕ) (ys zs : List Entry) (es : List Tree × List (MachineItem Tree)) → ys ≡ exprs_onto ns zs → length ns ≡ count
      → pop_exprs count (items_at vs ys) [] ≡ Ok es → es.1 ≡ items_at vs zs
  below-operands count ns ys zs es onto many popping =
      let os = reverse ns in
      let again : exprs_onto (reverse os) zs ≡ ys = ap (λ ms. exprs_onto ms zs) (reverse-reverse ns) ∙ sym onto in
      let counted : length os ≡ count = length-reverse ns ∙ many in
      let whole : pop_exprs (length os) (items_at vs (exprs_onto (reverse os) zs)) [] ≡ Ok es = rw (again, counted) popping in
      ap (λ (z : List Tree × List (MachineItem Tree)). z.1) (sym (taken-is (expressions_at vs os, items_at vs zs) es (sym (pop-operands vs os zs) ∙ whole)))

-- ---- a citation of the machine

module _ (t : ℕ) (s : Stage) (tables : RowsBefore) (params : List Binder) where
  -- the row, the expression on top, the operands below it, and the last state of the stream
  abbrev Matched : SpelledThm → Tree × List (MachineItem Tree) → List Tree × List (MachineItem Tree) → UnifyState Tree → Type 0
  Matched row x es u = (slice_get tables.thms t ≡ Some row)
      × (pop_expr (items_at (values_in s) s.stack) ≡ Ok x)
      × (pop_operands (length row.params) x.1 ≡ Ok es)
      × (pop_exprs (length row.params) x.1 [] ≡ Ok es)
      × (unify strict (signatures_in tables) (context_of params s) (citing row.stream es.0 x.0 es.1) ≡ Ok u)
      × (citation strict tables t (state_of params s) ≡ Ok (citing row.stream es.0 x.0 es.1))

  from-cited : {G : Type 0} (r : Tree × List (MachineItem Tree)) → cited strict tables t (state_of params s) ≡ Ok r
      → ((row : SpelledThm) (x : Tree × List (MachineItem Tree)) (es : List Tree × List (MachineItem Tree)) (u : UnifyState Tree) → Matched row x es u → (x.0, u.items) ≡ r → G) → G
  unfolding cited citation
  from-cited r e go =
      let st = state_of params s in
      from_bind (citation strict tables t st) _ r e λ m citing-is e0.
      from_bind (matched_by strict tables st.ctx m) _ r e0 λ u unified e7.
      from_want (slice_get tables.thms t) k.TheoremIndex _ m citing-is λ row at e1.
      from_need (nat_le (suc (length row.params)) (length st.stack)) k.Underflow _ m e1 λ enough e2.
      from_bind (pop_expr st.stack) _ m e2 λ x popping e3.
      from_bind (pop_operands (length row.params) x.1) _ m e3 λ es popping-es e4.
      from_need (nat_le (length row.params) (length x.1)) k.Underflow _ es popping-es λ many popping-all.
      from_then (operands_fit (signatures_in tables) st.ctx (map (λ z. z) es.0) row.params) _ m e4 λ fit fits e5.
      from_need (are_disjoint st.ctx (map (λ z. z) es.0) row.params) k.Disjoint _ m e5 λ apart e6.
      let made : Matching Tree = citing row.stream es.0 x.0 es.1 in
      let m-is : made ≡ m = taken-is made m e6 in
      let ran : unify strict (signatures_in tables) st.ctx made ≡ Ok u = subst (λ (z : Matching Tree). unify strict (signatures_in tables) st.ctx z ≡ Ok u) (sym m-is) (rule_of-ok _ u unified) in
      let citing' : citation strict tables t st ≡ taken made = citing-is ∙ ap taken (sym m-is) in
      let last : (x.0, u.items) ≡ r = ap (λ (z : Matching Tree). (z.target, u.items)) m-is ∙ taken-is (m.target, u.items) r e7 in
      go row x es u (at, popping, popping-es, popping-all, ran, citing') last

-- ---- before it

module _ (file : List ℕ) (t : ℕ) (s : Stage) where
  may-cite : (tables : RowsBefore) (params : List Binder) → IsOfFile file tables → IsMade tables params s → (r : Tree × List (MachineItem Tree))
      → cited strict tables t (state_of params s) ≡ Ok r → MayCite file t s
  may-cite tables params q made r e =
      from-cited t s tables params r e λ row x es u (at, popping, _, popping-all, ran, _) _.
      let vs = values_in s in
      let (claim, ys, is, x-is) = expr-top tables vs s.stack x made.1 popping in
      let rest : IsStack tables vs ys = (subst (IsStack tables vs) is made.1).1 in
      let popping-ys : pop_exprs (length row.params) (items_at vs ys) [] ≡ Ok es = subst (λ (z : Tree × List (MachineItem Tree)). pop_exprs (length row.params) z.1 [] ≡ Ok es) x-is popping-all in
      let (ns, zs, onto, many) = has-exprs tables vs (length row.params) ys [] es rest popping-ys in
      let stack-is : IsStack tables vs zs = (exprs-below tables vs ns zs (subst (IsStack tables vs) onto rest)).1 in
      let es-is : es.1 ≡ items_at vs zs = below-operands vs (length row.params) ns ys zs es onto many popping-ys in
      let (fs, items-are) = unify-takes (signatures_in tables) (context_of params s) row.stream es.0 x.0 es.1 u ran in (
        thm-there file tables q t row at,
        (
          claim,
          ns,
          zs,
          is ∙ ap (λ xs. Held (Expr claim) ∷ xs) onto,
          many ∙ thm-arity file tables q t row at,
          (
            signatures_in tables,
            context_of params s,
            citing row.stream es.0 x.0 es.1,
            u,
            refl,
            thm-stream file tables q t row at,
            ran,
            λ n fewer. subst (λ m. HasProofs m zs) (many-taken fs es.1 u.items n items-are fewer) (proofs-top tables vs zs fs u.items stack-is (sym es-is ∙ items-are)),
          ),
        ),
      )

  pub may-thm : Goes (IsRead file) code.Thm t s → MayCite file t s
  unfolding proof_step
  may-thm (tables, params, st, q, made, row) = from_bind (cited strict tables t (state_of params s)) _ st row λ r making e1. may-cite tables params q.0 made r making

  pub may-thm_save : Goes (IsRead file) code.ThmSave t s → MayCite file t s
  unfolding proof_step
  may-thm_save (tables, params, st, q, made, row) = from_bind (cited strict tables t (state_of params s)) _ st row λ r making e1. may-cite tables params q.0 made r making

same-onto : (ns ms : List ℕ) (xs ys : List Entry) → exprs_onto ns xs ≡ exprs_onto ms ys → length ns ≡ length ms → xs ≡ ys
same-onto [] [] xs ys e many = e
same-onto (n ∷ ns) (m ∷ ms) xs ys e many = same-onto ns ms xs ys (rest-is (Held (Expr n)) (Held (Expr m)) (exprs_onto ns xs) (exprs_onto ms ys) e) (omega (arith, many))
same-onto _ _ xs ys e many = absurd (omega (arith, many))

-- below the operands stand the proofs of the hypotheses
pub proofs-there : (file : List ℕ) (t : ℕ) (s : Stage) (claim : ℕ) (os : List ℕ) (ys zs : List Entry) (stream : List ℕ) (n : ℕ)
    → MayCite file t s → s.stack ≡ Held (Expr claim) ∷ ys → ys ≡ exprs_onto (reverse os) zs
    → length os ≡ length (thm_row file t).params → stream ≡ drop (thm_row file t).stream_at file → TakesHyps stream n → HasProofs n zs
proofs-there file t s claim os ys zs stream n (row-there, (e, ns, xs, is, many, (sigs, ctx, m, u, mode, of, ran, has))) top onto count stream-is takes =
    let rest : exprs_onto ns xs ≡ ys = rest-is (Held (Expr e)) (Held (Expr claim)) (exprs_onto ns xs) ys (sym is ∙ top) in
    let same : xs ≡ zs = same-onto ns (reverse os) xs zs (rest ∙ onto) (many ∙ sym count ∙ sym (length-reverse os)) in
    subst (HasProofs n) same (has n (takes sigs ctx m u mode (of ∙ sym stream-is) ran))

-- ---- behind it

same-claims : (tables : RowsBefore) (vs : List Value) (t v e d : ℕ) (os ops : List ℕ) → t ≡ v → e ≡ d → os ≡ ops
    → IsClaim tables t (expressions_at vs os) (expression_at vs e) → IsClaim tables v (expressions_at vs ops) (expression_at vs d)
same-claims tables vs t v e d os ops t-is e-is os-are h =
    let by-term : IsClaim tables v (expressions_at vs os) (expression_at vs e) = subst (λ i. IsClaim tables i (expressions_at vs os) (expression_at vs e)) t-is h in
    let by-claim : IsClaim tables v (expressions_at vs os) (expression_at vs d) = subst (λ i. IsClaim tables v (expressions_at vs os) (expression_at vs i)) e-is by-term in
    subst (λ (ns : List ℕ). IsClaim tables v (expressions_at vs ns) (expression_at vs d)) os-are by-claim

use-node : (tables : RowsBefore) (vs : List Value) (t e : ℕ) (os ps : List ℕ) (n : RunNode) → Uses (Some n) t e os ps → IsExpression vs e → AreExpressions vs os → AreProofs vs ps
    → IsClaim tables t (expressions_at vs os) (expression_at vs e)
    → HasParts tables vs n × (value_of vs n ≡ a_proof (by_citation t (trees_of (expressions_at vs os)) (proofs_at vs ps)))
use-node tables vs t e os ps (node.Use v d ops qs) u he hos hps hc = (
  (subst (IsExpression vs) u.1 he, subst (AreExpressions vs) u.2 hos, subst (AreProofs vs) u.3 hps, same-claims tables vs t v e d os ops.items u.0 u.1 u.2 hc),
  ap (λ i. a_proof (by_citation i (trees_of (expressions_at vs ops.items)) (proofs_at vs qs.items))) (sym u.0)
      ∙ ap (λ (ns : List ℕ). a_proof (by_citation t (trees_of (expressions_at vs ns)) (proofs_at vs qs.items))) (sym u.2)
      ∙ ap (λ (ns : List ℕ). a_proof (by_citation t (trees_of (expressions_at vs os)) (proofs_at vs ns))) (sym u.3),
)
use-node tables vs t e os ps _ u he hos hps hc = absurd u

abbrev with-below : Proof → List Part → Result (Proof × List Part) K
with-below p xs = Ok (p, xs)

module _ (file : List ℕ) (t : ℕ) (s s' : Stage) (claim made-at : ℕ) (c : IsCited file t s s' claim made-at) where
  abbrev bare : Stage
  bare = with_stack s s'.stack

  abbrev new : ℕ
  new = length s.nodes

  abbrev vs : List Value
  vs = values_in s

  abbrev noded : Stage
  noded = with_stack (with_node s c.node) s'.stack

  abbrev tree : Proof
  tree = by_citation t (trees_of (expressions_at vs c.operands)) (proofs_at vs c.parts)

  -- the citation over n proofs from the top of these parts
  abbrev made-with : List Tree → ℕ → List Part → Result (Proof × List Part) K
  made-with es n parts = with-below (by_citation t (trees_of es) (proofs_above n parts no_proofs)) (drop n parts)

  -- the stack below the operands
  abbrev lower : List Entry
  lower = proofs_onto c.proofs s'.stack

  module _ (tables : RowsBefore) (params : List Binder) (q : IsRead file tables params s) (made : IsMade tables params s) where
    abbrev Split : Type 0
    Split = IsExpression vs claim × AreExpressions vs c.operands × AreProofs vs c.parts × IsStack tables vs s'.stack

    split : Split
    split =
        let all = subst (IsStack tables vs) c.taken made.1 in
        let (es, rest) = exprs-below tables vs (reverse c.operands) lower all.1 in
        let (ps, last) = proofs-below tables vs c.proofs s'.stack rest in
        (all.0, unturned vs c.operands es, unturned-proofs vs c.parts (subst (AreProofs vs) c.parts_are ps), last)

    -- the expression is what the assertion claims
    abbrev Claims : Type 0
    Claims = IsClaim tables t (expressions_at vs c.operands) (expression_at vs claim)

    -- what the machine gives, and what is made beside it
    abbrev GivesBoth : Tree × List (MachineItem Tree) → Type 0
    GivesBoth r = (r ≡ (expression_at vs claim, items_at vs s'.stack)) × (cited-beside tables t (state_of params s) (trace_of s) ≡ with-below tree (parts_at vs s'.stack)) × Claims

    cited-made : (m : Matching Tree) (u : UnifyState Tree) → citation strict tables t (state_of params s) ≡ Ok m → matched_by strict tables (context_of params s) m ≡ Ok u
        → cited-beside tables t (state_of params s) (trace_of s)
        ≡ made-with m.operands (length m.items - length u.items) (drop (suc (length m.operands)) (parts_at vs s.stack))
    cited-made m u citing-is unified = rw (citing-is, unified) refl

    -- the parts below the operands
    parts-below : drop (suc (length (expressions_at vs c.operands))) (parts_at vs s.stack) ≡ parts_at vs lower
    parts-below =
        ap (λ n. drop (suc n) (parts_at vs s.stack)) (length-map c.operands (expression_at vs) ∙ sym (length-reverse c.operands))
        ∙ ap (λ xs. drop (suc (length (reverse c.operands))) (parts_at vs xs)) c.taken ∙ drop-exprs vs (reverse c.operands) lower

    matched-both : (row : SpelledThm) (es : List Tree) (e : Tree) (items : List (MachineItem Tree)) (u : UnifyState Tree) → slice_get tables.thms t ≡ Some row
        → es ≡ expressions_at vs c.operands → items ≡ items_at vs lower
        → unify strict (signatures_in tables) (context_of params s) (citing row.stream es e items) ≡ Ok u
        → citation strict tables t (state_of params s) ≡ Ok (citing row.stream es e items)
        → (u.items ≡ items_at vs s'.stack) × (cited-beside tables t (state_of params s) (trace_of s) ≡ with-below tree (parts_at vs s'.stack))
    matched-both row es e items u at es-is items-are ran citing-is =
        let (fs, taking) = unify-takes (signatures_in tables) (context_of params s) row.stream es e items u ran in
        let many : length items ≡ length u.items + length c.proofs =
        c.hyps (signatures_in tables) (context_of params s) (citing row.stream es e items) u refl (thm-stream file tables q.0 t row at) ran in
        let left : items_at vs s'.stack ≡ u.items = left-below vs c.proofs s'.stack fs u.items (sym items-are ∙ taking) (many-taken fs items u.items (length c.proofs) taking many) in
        let count : length items - length u.items ≡ length c.proofs = omega (arith, many) in
        let unified : matched_by strict tables (context_of params s) (citing row.stream es e items) ≡ Ok u = rw ran refl in (
          sym left,
          cited-made (citing row.stream es e items) u citing-is unified
              ∙ ap (λ n. made-with es n (drop (suc (length es)) (parts_at vs s.stack))) count
              ∙ ap (λ (z : List Tree). made-with z (length c.proofs) (drop (suc (length z)) (parts_at vs s.stack))) es-is
              ∙ ap (made-with (expressions_at vs c.operands) (length c.proofs)) parts-below
              ∙ ap (λ ps. with-below (by_citation t (trees_of (expressions_at vs c.operands)) ps) (drop (length c.proofs) (parts_at vs lower))) (proofs-are vs c.proofs c.parts s'.stack c.parts_are)
              ∙ ap (with-below tree) (drop-proofs vs c.proofs s'.stack),
        )

    gives-both : (r : Tree × List (MachineItem Tree)) → cited strict tables t (state_of params s) ≡ Ok r → GivesBoth r
    gives-both r e =
        from-cited t s tables params r e λ row x es u (at, popping, popping-es, popping-all, ran, citing-is) last.
        let x-is : (expression_at vs claim, items_at vs (exprs_onto (reverse c.operands) lower)) ≡ x =
        taken-is (expression_at vs claim, items_at vs (exprs_onto (reverse c.operands) lower)) x (sym (ap (λ xs. pop_expr (items_at vs xs)) c.taken) ∙ popping) in
        let many : length row.params ≡ length c.operands = thm-arity file tables q.0 t row at ∙ sym c.many in
        let top : List (MachineItem Tree) = items_at vs (exprs_onto (reverse c.operands) lower) in
        let popping-row : pop_exprs (length row.params) top [] ≡ Ok es = subst (λ (z : Tree × List (MachineItem Tree)). pop_exprs (length row.params) z.1 [] ≡ Ok es) (sym x-is) popping-all in
        let popping-ops : pop_exprs (length c.operands) top [] ≡ Ok es = subst (λ n. pop_exprs n top [] ≡ Ok es) many popping-row in
        let es-is : (expressions_at vs c.operands, items_at vs lower) ≡ es = taken-is (expressions_at vs c.operands, items_at vs lower) es (sym (pop-operands vs c.operands lower) ∙ popping-ops) in
        let operands-are : es.0 ≡ expressions_at vs c.operands = ap (λ (z : List Tree × List (MachineItem Tree)). z.0) (sym es-is) in
        let lower-are : es.1 ≡ items_at vs lower = ap (λ (z : List Tree × List (MachineItem Tree)). z.1) (sym es-is) in
        let (items-are, beside) = matched-both row es.0 x.0 es.1 u at operands-are lower-are ran citing-is in
        let claim-is : x.0 ≡ expression_at vs claim = ap (λ (z : Tree × List (MachineItem Tree)). z.0) (sym x-is) in
        let given : (x.0, u.items) ≡ (expression_at vs claim, items_at vs s'.stack) = rw (items-are, claim-is) refl in
        let ctx : List Binder = context_of params s in
        let claims : Claims = λ env declares.
        let fact = q.1 env declares ctx (λ i b there. there) in
        sym claim-is ∙ cited-claim tables env declares params ctx (state_of params s) fact t row x es u at popping popping-es ran
        ∙ ap (λ (z : List Tree). conclusion_under env t z) operands-are in
        (subst (λ (z : Tree × List (MachineItem Tree)). z ≡ (expression_at vs claim, items_at vs s'.stack)) last given, beside, claims)

    -- with the node, which claims this
    module _ (claims : Claims) where
      bare-held : IsHeld tables params bare
      bare-held = held-of tables params s s.stack s'.stack made.0

      node-is : HasParts tables vs c.node × (value_of vs c.node ≡ a_proof tree)
      node-is = let (e, os, ps, last) = split in use-node tables vs t claim c.operands c.parts c.node c.uses e os ps claims

      noded-held : IsHeld tables params noded
      noded-held = held-of tables params (with_node s c.node) s'.stack s'.stack (held-still tables params bare c.node bare-held node-is.0)

      noded-made : IsMade tables params noded
      noded-made = (noded-held, stack-still tables params bare c.node bare-held node-is.0 s'.stack split.3)

      claim-still : IsExpression (values_in noded) claim
      claim-still = expression-still tables params bare c.node bare-held node-is.0 claim split.0

      same-claim : expression_at (values_in noded) claim ≡ expression_at vs claim
      same-claim = same-expression-still tables params bare c.node bare-held node-is.0 claim split.0

      new-proof : IsProof (values_in noded) new × (proof_at (values_in noded) new ≡ tree)
      new-proof = proof-added tables params bare c.node bare-held node-is.0 tree node-is.1

      noded-state : state_of params noded ≡ state_of params bare
      noded-state = state-same tables params bare c.node bare-held node-is.0 split.3

      noded-trace : trace_of noded ≡ trace_of bare
      noded-trace = trace-same tables params bare c.node bare-held node-is.0 split.3

      -- Thm
      cited-state : state_of params (on_stack noded (Held (ProofItem claim new))) ≡ record (state_of params s) { stack = proof (expression_at vs claim) ∷ items_at vs s'.stack }
      cited-state =
          ap (λ e. record (state_of params noded) { stack = proof e ∷ items_at (values_in noded) s'.stack }) same-claim
          ∙ ap (λ (z : State Tree). record z { stack = proof (expression_at vs claim) ∷ z.stack }) noded-state

      cited-trace : trace_of (on_stack noded (Held (ProofItem claim new))) ≡ stacked (trace_of s) (proved tree ∷ parts_at vs s'.stack)
      cited-trace =
          ap (λ p. stacked (trace_of noded) (proved p ∷ parts_at (values_in noded) s'.stack)) new-proof.1
          ∙ ap (λ (z : Trace). stacked z (proved tree ∷ z.stack)) noded-trace

      -- ThmSave
      saved-state : state_of params (with_name noded claim new)
          ≡ record (state_of params s) { heap = map (item_at vs) s.heap ++ proof (expression_at vs claim) ∷ []; stack = proof (expression_at vs claim) ∷ items_at vs s'.stack }
      saved-state =
          named-state tables params noded claim new noded-made claim-still new-proof.0
          ∙ ap (λ e. record (state_of params noded) { heap = map (item_at (values_in noded)) s.heap ++ proof e ∷ []; stack = proof e ∷ items_at (values_in noded) s'.stack }) same-claim
          ∙ ap (λ (z : State Tree). record z { heap = z.heap ++ proof (expression_at vs claim) ∷ []; stack = proof (expression_at vs claim) ∷ z.stack }) noded-state

      saved-trace : trace_of (with_name noded claim new) ≡ named tree (parts_at vs s'.stack) (trace_of s)
      saved-trace =
          named-trace tables params noded claim new noded-made claim-still new-proof.0
          ∙ ap (λ p. named p (parts_at (values_in noded) s'.stack) (trace_of noded)) new-proof.1
          ∙ ap (λ (z : Trace). named tree z.stack z) noded-trace

  abbrev pub cites : Stage
  cites = on_stack noded (Held (ProofItem claim new))

  abbrev pub names : Stage
  names = with_name noded claim new

  -- one node more
  fewer : size_of noded ≤ size_of s + 1
  fewer = omega (arith, one-node s.nodes c.node, ap unmade c.taken, unmade-exprs (reverse c.operands) (proofs_onto c.proofs s'.stack), unmade-proofs c.proofs s'.stack)

  pub thm-leads : Leads (IsRead file) code.Thm t s cites
  unfolding proof_step traced
  thm-leads tables params st q made row =
      from_bind (cited strict tables t (state_of params s)) _ st row λ r making e1.
      let (r-is, beside, claims) = gives-both tables params q made r making in
      let pushed : Tree × List (MachineItem Tree) → State Tree = λ z. record (state_of params s) { stack = proof z.0 ∷ z.1 } in (
        (
          held-of tables params noded s'.stack (Held (ProofItem claim new) ∷ s'.stack) (noded-held tables params q made claims),
          ((claim-still tables params q made claims, (new-proof tables params q made claims).0), (noded-made tables params q made claims).1),
        ),
        sym (taken-is (pushed r) st e1) ∙ ap pushed r-is ∙ sym (cited-state tables params q made claims),
        rw beside refl ∙ ap taken-trace (sym (cited-trace tables params q made claims)),
        omega (arith, fewer),
      )

  pub thm_save-leads : Leads (IsRead file) code.ThmSave t s names
  unfolding proof_step traced
  thm_save-leads tables params st q made row =
      from_bind (cited strict tables t (state_of params s)) _ st row λ r making e1.
      let (r-is, beside, claims) = gives-both tables params q made r making in
      let pushed : Tree × List (MachineItem Tree) → State Tree = λ z. record (state_of params s) { stack = proof z.0 ∷ z.1; heap = map (item_at vs) s.heap ++ proof z.0 ∷ [] } in (
        named-made tables params noded claim new (noded-made tables params q made claims) (claim-still tables params q made claims) (new-proof tables params q made claims).0,
        sym (taken-is (pushed r) st e1) ∙ ap pushed r-is ∙ sym (saved-state tables params q made claims),
        rw beside refl ∙ ap taken-trace (sym (saved-trace tables params q made claims)),
        omega (arith, fewer, one-node noded.nodes (node.Let (length s.lets))),
      )

  pub cites-is : on_stack s' (Held (ProofItem claim made-at)) ≡ cites
  cites-is = ap (λ (z : Stage). on_stack z (Held (ProofItem claim made-at))) c.stage ∙ ap (λ n. on_stack noded (Held (ProofItem claim n))) c.last

  pub names-is : with_name s' claim made-at ≡ names
  names-is = ap (λ (z : Stage). with_name z claim made-at) c.stage ∙ ap (λ n. with_name noded claim n) c.last
