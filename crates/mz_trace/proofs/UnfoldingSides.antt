-- The operands of two applications side by side, and what Cong leads to.
use Rattle.std.proofs.Common.{Vec, Global, Result, Bool, true, false, ◌≡◌, ◌<◌, ◌≤◌, ℕ, suc, ◌+◌, List, [], ◌∷◌, ◌++◌, Some, None, Ok, length, map, refl, sym, ap, ◌∙◌, subst, arith, eqb, slice_index_or}
use Rattle.std.specs.Prelude.{reverse, drop, slice_get, if◌then◌else◌}
use Rattle.std.proofs.lemmas.Bool.{eqb-true}
use Rattle.std.proofs.lemmas.List.{drop_more, drop_all, length-map, length-reverse, reverse-append, reverse-reverse}
use Rattle.mz_cmd.specs.declared.rule.K.{K}
use Rattle.mz_cmd.specs.declared.rule.K.TheVariants as k
use Rattle.mz_cmd.specs.declared.code.ProofCode.TheVariants as code
use Rattle.mz_logic_theory.specs.Tree.{Tree, Trees, var, app, none, listed}
use Rattle.mz_logic_theory.specs.Conversions.{refl_conv}
use Rattle.mz_logic_theory.specs.declared.binder.Binder.{Binder}
use Rattle.mz_machine_theory.specs.Profile.{strict, tree_parts, Item as MachineItem}
use Rattle.mz_machine_theory.specs.Spells.{SpelledTerm, trees_of}
use Rattle.mz_machine_theory.specs.Steps.{◌>>=◌, ◌>>◌, need}
use Rattle.mz_machine_theory.specs.Tests.{same_tree}
use Rattle.mz_machine_theory.proofs.Offered.{from_want, taken-is, some_is, listed-trees_of, same_tree-refl}
use Rattle.mz_machine_theory.specs.MachineState.{RowsBefore, State}
use Rattle.mz_machine_theory.specs.ProofMachine.{proof_step, same_term, sides}
use Rattle.mz_trace.specs.OneHoleContexts.{owed, for_operand, paid, by_operands}
use Rattle.mz_trace.specs.Traces.{stacked, traced}
use Rattle.mz_trace.proofs.Following.{to_want}
use Rattle.mz_trace.specs.Nodes.{Value, an_expression, expression_of, expression_at, expressions_at, values, conversions_at, AreConversions, HaveParts, HasArity, IsExpression, AreExpressions, Applies}
use Rattle.mz_trace.specs.Entries.{owed_at, items_at, parts_at, ArePairs, IsWaiting}
use Rattle.mz_trace.specs.Commands.{Stage, with_stack, values_in, state_of, trace_of, IsMade, IsAny, Goes, Leads}
use Rattle.mz_trace.specs.Sides.{paired, AreApplications, HaveSides}
use Rattle.mz_trace.specs.declared.node.RunNode.{RunNode}
use Rattle.mz_trace.specs.declared.entry.Entry.{Entry}
use Rattle.mz_trace.specs.declared.entry.Entry.TheVariants.{Owed, ForOperand}
use Rattle.mz_trace.proofs.Growing.{pairs-turned}
use Rattle.mz_trace.proofs.Adding.{IsApplicationOf, application-at}
use Rattle.mz_trace.proofs.Stages.{held-of}
use Rattle.mz_trace.proofs.Moves.{taken-trace}

-- ---- two lists side by side

pub paired-next : (os qs : List ℕ) (i : ℕ) → i < length os → length os ≡ length qs
    → paired (drop i os) (drop i qs) ≡ (slice_index_or os i 0, slice_index_or qs i 0) ∷ paired (drop (i + 1) os) (drop (i + 1) qs)
paired-next os qs i below many = rw (drop_more os i 0 below, drop_more qs i 0 (omega (arith, below, many))) refl

pub paired-past : (os qs : List ℕ) (i : ℕ) → length os ≤ i → paired (drop i os) (drop i qs) ≡ []
paired-past os qs i past = rw (drop_all i os past) refl

many-paired : (os qs : List ℕ) → length os ≡ length qs → length (paired os qs) ≡ length os
many-paired [] qs many = refl
many-paired (o ∷ os) [] many = absurd (omega (arith, many))
many-paired (o ∷ os) (q ∷ qs) many = ap suc (many-paired os qs (omega (arith, many)))

module _ (vs : List Value) where
  pairs-are : (os qs : List ℕ) → AreExpressions vs os → AreExpressions vs qs → ArePairs vs (paired os qs)
  pairs-are (o ∷ os) (q ∷ qs) h k = (h.0, k.0, pairs-are os qs h.1 k.1)
  pairs-are _ _ h k = tt

  sides-are : (os qs : List ℕ) (ys : List (MachineItem Tree)) → length os ≡ length qs → sides (expressions_at vs os) (expressions_at vs qs) ys ≡ map (owed_at vs) (paired os qs) ++ ys
  sides-are [] qs ys many = refl
  sides-are (o ∷ os) [] ys many = absurd (omega (arith, many))
  sides-are (o ∷ os) (q ∷ qs) ys many = ap (λ zs. owed_at vs (o, q) ∷ zs) (sides-are os qs ys (omega (arith, many)))

-- ---- applications of one term

chosen : {A : Type 0} (b : Bool) (x y : A) → (if b then Some x else None) ≡ Some y → (b ≡ true) × (x ≡ y)
chosen true x y h = (refl, cc)
chosen false x y h = absurd cc

two-terms : (e f : Tree) (p : List Tree × List Tree) → same_term (tree_parts e) (tree_parts f) ≡ Some p
    → (t : ℕ) × (es fs : Trees) × (e ≡ app t es) × (f ≡ app t fs) × (p ≡ (listed es, listed fs))
two-terms (app t es) (app u fs) p h =
    let (same, is) = chosen (eqb t u) (listed es, listed fs) p h in
    (t, es, fs, refl, ap (λ v. app v fs) (sym (eqb-true t u same)), sym is)
two-terms _ _ p h = absurd cc

same-arity : (tables : RowsBefore) (t n m : ℕ) → HasArity tables t n → HasArity tables t m → n ≡ m
same-arity tables t n m (row, at, is) (row', at', is') = sym is ∙ ap (λ (r : SpelledTerm). length r.signature.params) (some_is at at') ∙ is'

module _ (tables : RowsBefore) (ns : List RunNode) (h : HaveParts tables ns) (l r : ℕ) (left : IsExpression (values ns) l) (right : IsExpression (values ns) r) where
  abbrev OfOneTerm : List Tree × List Tree → Type 0
  OfOneTerm p = (t : ℕ) × (es fs : Trees) × IsApplicationOf tables (values ns) t es (slice_get ns l) × IsApplicationOf tables (values ns) t fs (slice_get ns r)
      × (expression_at (values ns) l ≡ app t es) × (p ≡ (listed es, listed fs)) × (expression_at (values ns) r ≡ app t fs)

  of-one-term : (p : List Tree × List Tree) → same_term (tree_parts (expression_at (values ns) l)) (tree_parts (expression_at (values ns) r)) ≡ Some p → OfOneTerm p
  of-one-term p both =
      let (t, es, fs, l-is, r-is, p-is) = two-terms (expression_at (values ns) l) (expression_at (values ns) r) p both in
      let at : slice_get (values ns) l ≡ Some (an_expression (app t es)) = left.1 ∙ ap (λ e. Some (an_expression e)) (sym (ap expression_of left.1) ∙ l-is) in
      let at' : slice_get (values ns) r ≡ Some (an_expression (app t fs)) = right.1 ∙ ap (λ e. Some (an_expression e)) (sym (ap expression_of right.1) ∙ r-is) in
      (t, es, fs, application-at tables ns l t es h at, application-at tables ns r t fs h at', l-is, p-is, r-is)

  are-applications : (p : List Tree × List Tree) → OfOneTerm p → AreApplications ns l r
  are-applications p (t, es, fs, a, b, l-is, p-is, r-is) = (a.0, b.0, λ u v os qs x y. same-arity tables t (length os) (length qs) (a.1 u os x).3 (b.1 v qs y).3)

  -- the trees of the nodes that were read
  abbrev Read : ℕ → List ℕ → List ℕ → List Tree × List Tree → Type 0
  Read t os qs p = AreExpressions (values ns) os × AreExpressions (values ns) qs × (length os ≡ length qs)
      × (p ≡ (expressions_at (values ns) os, expressions_at (values ns) qs))
      × (expression_at (values ns) l ≡ app t (trees_of (expressions_at (values ns) os))) × (expression_at (values ns) r ≡ app t (trees_of (expressions_at (values ns) qs)))

  read : (p : List Tree × List Tree) → OfOneTerm p → (t u : ℕ) (os qs : List ℕ) → Applies (slice_get ns l) t os → Applies (slice_get ns r) u qs → Read t os qs p
  read p (v, es, fs, a, b, l-is, p-is, r-is) t u os qs x y =
      let (v-is, es-are, os-are, arity) = a.1 t os x in
      let (w-is, fs-are, qs-are, arity') = b.1 u qs y in (
        os-are,
        qs-are,
        same-arity tables v (length os) (length qs) (a.1 t os x).3 (b.1 u qs y).3,
        p-is ∙ rw (es-are, fs-are, listed-trees_of (expressions_at (values ns) os), listed-trees_of (expressions_at (values ns) qs)) refl,
        l-is ∙ ap (λ z. app z es) (sym v-is) ∙ ap (app t) es-are,
        r-is ∙ ap (λ z. app z fs) (sym v-is) ∙ ap (app t) fs-are,
      )

need-is : {B : Type 0} (b : Bool) (rule : K) (r : Result B K) → b ≡ true → (need b rule >> r) ≡ r
need-is b rule r is = rw is refl

abbrev taken-state : State Tree → Result (State Tree) K
taken-state st = Ok st

-- ---- Cong

module _ (n : ℕ) (s : Stage) (xs : List Entry) (l r t : ℕ) (ps : List (ℕ × ℕ)) (have : HaveSides s.nodes l r t ps) where
  abbrev owing : Stage
  owing = with_stack s (Owed l r ∷ xs)

  abbrev el : Tree
  el = expression_at (values_in s) l

  abbrev er : Tree
  er = expression_at (values_in s) r

  abbrev state-with : List Binder → List (MachineItem Tree) → State Tree
  state-with params zs = record (state_of params s) { stack = zs }

  -- what the row reads
  cong-row : (tables : RowsBefore) (params : List Binder) (st : State Tree) → IsMade tables params owing → proof_step strict tables 0 code.Cong n (state_of params owing) ≡ Ok st
      → (p : List Tree × List Tree) × (state-with params (sides p.0 p.1 (items_at (values_in s) xs)) ≡ st) × (same_term (tree_parts el) (tree_parts er) ≡ Some p)
  unfolding proof_step
  cong-row tables params st made row =
      from_want (same_term (tree_parts el) (tree_parts er)) k.Cong _ st row λ p both e1.
      (p, taken-is (state-with params (sides p.0 p.1 (items_at (values_in s) xs))) st e1, both)

  -- what it makes beside
  cong-trace : (tables : RowsBefore) (params : List Binder) (es : List Tree) → el ≡ app t (trees_of es)
      → traced tables code.Cong n (state_of params owing) (trace_of owing) ≡ taken-trace (stacked (trace_of s) (by_operands t (length es) (parts_at (values_in s) xs)))
  unfolding traced
  cong-trace tables params es is =
      to_want (tree_parts el) k.Cong _ (t, es) (ap tree_parts is ∙ ap (λ z. Some (t, z)) (listed-trees_of es))

  module _ (tables : RowsBefore) (params : List Binder) (made : IsMade tables params owing) where
    abbrev Reads : List Tree × List Tree → Type 0
    Reads p = Read tables s.nodes made.0.nodes l r made.1.0 made.1.1 t have.1 have.2 p

    reads : (p : List Tree × List Tree) → same_term (tree_parts el) (tree_parts er) ≡ Some p → Reads p
    reads p both =
        read tables s.nodes made.0.nodes l r made.1.0 made.1.1 p (of-one-term tables s.nodes made.0.nodes l r made.1.0 made.1.1 p both) t have.0 have.1 have.2 have.3 have.4

  -- where there are operands
  pub cong-leads : (f o : ℕ) (done : Vec ℕ Global) (left : Vec (ℕ × ℕ) Global) → done.items ≡ [] → ps ≡ left.items ++ (f, o) ∷ []
      → Leads IsAny code.Cong n owing (with_stack s (Owed f o ∷ ForOperand t done left ∷ xs))
  cong-leads f o done left none-done some tables params st q made row =
      let vs = values_in s in
      let os = have.1 in
      let qs = have.2 in
      let (p, st-is, both) = cong-row tables params st made row in
      let (os-are, qs-are, many, p-is, el-is, er-is) = reads tables params made p both in
      let order : paired os qs ≡ (f, o) ∷ reverse left.items = sym have.5 ∙ ap (λ (zs : List (ℕ × ℕ)). reverse zs) some ∙ reverse-append left.items ((f, o) ∷ []) in
      let pairs : ArePairs vs ((f, o) ∷ reverse left.items) = subst (ArePairs vs) order (pairs-are vs os qs os-are qs-are) in
      let count : length (expressions_at vs os) ≡ suc (length left.items) =
      omega (arith, length-map os (expression_at vs), many-paired os qs many, ap length order, length-reverse left.items) in
      let waiting : IsWaiting tables vs (ForOperand t done left ∷ xs) =
      (subst (AreConversions vs) (sym none-done) tt, subst (ArePairs vs) (reverse-reverse left.items) (pairs-turned vs (reverse left.items) pairs.2), made.1.2) in (
        (held-of tables params s (Owed l r ∷ xs) (Owed f o ∷ ForOperand t done left ∷ xs) made.0, (pairs.0, pairs.1, waiting)),
        sym st-is ∙ ap (state-with params) (ap (λ (z : List Tree × List Tree). sides z.0 z.1 (items_at vs xs)) p-is ∙ sides-are vs os qs (items_at vs xs) many
            ∙ ap (λ (zs : List (ℕ × ℕ)). map (owed_at vs) zs ++ items_at vs xs) order),
        cong-trace tables params (expressions_at vs os) el-is
            ∙ ap (λ z. taken-trace (stacked (trace_of s) z)) (ap (λ m. by_operands t m (parts_at vs xs)) count ∙ ap (λ (zs : List ℕ). owed ∷ for_operand t (conversions_at vs zs) (length left.items) ∷ parts_at vs xs) (sym none-done)),
        omega arith,
      )

  -- where there are none, it is Refl
  module _ (empty : ps ≡ []) where
    no-operands : (os qs : List ℕ) → length os ≡ length qs → paired os qs ≡ [] → (os ≡ []) × (qs ≡ [])
    no-operands [] [] many is = (refl, refl)
    no-operands (o ∷ os) (q ∷ qs) many is = absurd cc
    no-operands _ _ many is = absurd (omega (arith, many))

    module _ (tables : RowsBefore) (params : List Binder) (made : IsMade tables params owing) (p : List Tree × List Tree) (both : same_term (tree_parts el) (tree_parts er) ≡ Some p) where
      bare : (p ≡ ([], [])) × (el ≡ app t none) × (er ≡ app t none)
      bare =
          let vs = values_in s in
          let (os-are, qs-are, many, p-is, el-is, er-is) = reads tables params made p both in
          let (none-left, none-right) = no-operands have.1 have.2 many (sym have.5 ∙ ap (λ (zs : List (ℕ × ℕ)). reverse zs) empty) in (
            p-is ∙ rw (none-left, none-right) refl,
            el-is ∙ ap (λ (zs : List ℕ). app t (trees_of (expressions_at vs zs))) none-left,
            er-is ∙ ap (λ (zs : List ℕ). app t (trees_of (expressions_at vs zs))) none-right,
          )

      refl-row : proof_step strict tables 0 code.Refl n (state_of params owing) ≡ taken-state (state-with params (sides p.0 p.1 (items_at (values_in s) xs)))
      unfolding proof_step
      refl-row =
          need-is (same_tree el er) k.Refl _ (rw (bare.1, bare.2) (same_tree-refl (app t none)))
          ∙ ap (λ (z : List Tree × List Tree). taken-state (state-with params (sides z.0 z.1 (items_at (values_in s) xs)))) (sym bare.0)

    as-refl : (tables : RowsBefore) (params : List Binder) (st : State Tree) → IsMade tables params owing → proof_step strict tables 0 code.Cong n (state_of params owing) ≡ Ok st
        → proof_step strict tables 0 code.Refl n (state_of params owing) ≡ Ok st
    as-refl tables params st made row =
        let (p, st-is, both) = cong-row tables params st made row in
        refl-row tables params made p both ∙ ap taken-state st-is

    pub cong-goes : Goes IsAny code.Cong n owing → Goes IsAny code.Refl n owing
    cong-goes (tables, params, st, q, made, row) = (tables, params, st, q, made, as-refl tables params st made row)

    traced-same : (tables : RowsBefore) (params : List Binder) → el ≡ app t none
        → traced tables code.Cong n (state_of params owing) (trace_of owing) ≡ traced tables code.Refl n (state_of params owing) (trace_of owing)
    unfolding traced
    traced-same tables params is =
        cong-trace tables params [] is ∙ ap (λ e. taken-trace (stacked (trace_of s) (paid (refl_conv e) (parts_at (values_in s) xs)))) (sym is)

    pub cong-none-leads : (s' : Stage) → Leads IsAny code.Refl n owing s' → Leads IsAny code.Cong n owing s'
    cong-none-leads s' leads tables params st q made row =
        let (p, st-is, both) = cong-row tables params st made row in
        let (there, state-is, trace-is, few) = leads tables params st q made (as-refl tables params st made row) in
        (there, state-is, traced-same tables params (bare tables params made p both).1 ∙ trace-is, few)

-- the left side and the right one are applications
pub cong-may : (n : ℕ) (s : Stage) (xs : List Entry) (l r : ℕ) → Goes IsAny code.Cong n (with_stack s (Owed l r ∷ xs)) → AreApplications s.nodes l r
unfolding proof_step
cong-may n s xs l r (tables, params, st, q, made, row) =
    from_want (same_term (tree_parts (expression_at (values_in s) l)) (tree_parts (expression_at (values_in s) r))) k.Cong _ st row λ p both e1.
    are-applications tables s.nodes made.0.nodes l r made.1.0 made.1.1 p (of-one-term tables s.nodes made.0.nodes l r made.1.0 made.1.1 p both)
