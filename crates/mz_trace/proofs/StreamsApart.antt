-- What a definition's command makes of the nodes that are its targets.
use Rattle.std.proofs.Common.{◌≡◌, ℕ, true, List, [], ◌∷◌, ◌++◌, Option, Some, Ok, refl, sym, ap, subst, ◌∙◌, ◌⊎◌, inl, inr, length, append_assoc}
use Rattle.std.specs.Prelude.{reverse, slice_get, not, ◌==◌, ◌&&◌}
use Rattle.std.proofs.lemmas.List.{map-append, reverse-append, reverse-reverse, nil_from_length}
use Rattle.mz_base.proofs.Offered.{both-true}
use Rattle.mz_cmd.specs.declared.rule.K.TheVariants as k
use Rattle.mz_cmd.specs.declared.code.UnifyCode.{UnifyCode}
use Rattle.mz_cmd.specs.declared.code.UnifyCode.TheVariants.{Term, TermSave, Ref, Dummy, Hyp}
use Rattle.mz_logic_theory.specs.Legality.{sort_of}
use Rattle.mz_logic_theory.specs.Tree.{Tree, var, app, listed}
use Rattle.mz_logic_theory.specs.Signature.{Signature}
use Rattle.mz_logic_theory.specs.declared.binder.Binder.{Binder}
use Rattle.mz_machine_theory.specs.Profile.{strict, tree_parts}
use Rattle.mz_machine_theory.specs.Spells.{trees_of}
use Rattle.mz_machine_theory.specs.Streams.{u_term, u_term_save, u_ref, u_dummy}
use Rattle.mz_machine_theory.specs.Tests.{same_tree, is_bound_var}
use Rattle.mz_machine_theory.specs.UnifyMachine.{in_definition, UnifyState, top_target, operands_of, within_any, is_fresh, unify_step}
use Rattle.mz_machine_theory.proofs.Offered.{from_bind, from_need, from_want, some_is, taken-is, top-is, apart-is, listed-trees_of}
use Rattle.mz_machine_theory.specs.MachineState.{RowsBefore}
use Rattle.mz_trace.specs.Traces.{variable_in, variables_in}
use Rattle.mz_trace.specs.Nodes.{Value, an_expression, expression_of, expression_at, expressions_at, value_of, values, IsExpression, AreExpressions, HaveParts, IsApplication, Applies, IsVariable, IsVariableAt}
use Rattle.mz_trace.specs.Streams.{IsReached, Executes, MayTakeApart, TakesApart}
use Rattle.mz_trace.specs.declared.node.RunNode.{RunNode}
use Rattle.mz_trace.specs.declared.node.RunNode.TheVariants as node
use Rattle.mz_trace.proofs.Adding.{all-values, node-at, shown, application-at}

-- ---- rows

-- there was a top target e, in whose place these are
abbrev Replaces : UnifyState Tree → UnifyState Tree → Tree → List Tree → List Tree → Type 0
Replaces st s e fs rest = (st.targets ≡ e ∷ rest) × (s.targets ≡ fs ++ rest)

abbrev Opens : UnifyState Tree → UnifyState Tree → ℕ → Type 0
Opens st s t = (fs rest : List Tree) × Replaces st s (app t (trees_of fs)) fs rest × (s.apart ≡ st.apart)

abbrev Refers : UnifyState Tree → UnifyState Tree → Type 0
Refers st s = (e : Tree) × (rest : List Tree) × Replaces st s e [] rest × (s.apart ≡ st.apart)

abbrev MeetsVariable : UnifyState Tree → UnifyState Tree → Type 0
MeetsVariable st s = (x : ℕ) × (rest : List Tree) × Replaces st s (var x) [] rest × (s.apart ≡ st.apart ++ var x ∷ [])

module _ (sigs : List Signature) (ctx : List Binder) (st s : UnifyState Tree) where
  opened : (t : ℕ) (top : Tree × List Tree) (fs : List Tree) (r : UnifyState Tree) → top_target st.targets ≡ Ok top
      → operands_of t (tree_parts top.0) ≡ Some fs → r ≡ s → r.targets ≡ fs ++ top.1 → r.apart ≡ st.apart → Opens st s t
  opened t top fs r first at is targets apart =
      let there : st.targets ≡ app t (trees_of fs) ∷ top.1 = top-is st.targets top first ∙ ap (λ (e : Tree). e ∷ top.1) (apart-is top.0 t fs at) in
      (fs, top.1, (there, ap (λ (z : UnifyState Tree). z.targets) (sym is) ∙ targets), ap (λ (z : UnifyState Tree). z.apart) (sym is) ∙ apart)

  term-row : (t : ℕ) → unify_step strict sigs ctx in_definition (u_term t) st ≡ Ok s → Opens st s t
  unfolding unify_step
  term-row t e =
      from_bind (top_target st.targets) _ s e λ top first e1.
      from_want (operands_of t (tree_parts top.0)) k.UnifyTerm _ s e1 λ fs at e2.
      opened t top fs (record st { targets = fs ++ top.1 }) first at (taken-is _ s e2) refl refl

  term_save-row : (t : ℕ) → unify_step strict sigs ctx in_definition (u_term_save t) st ≡ Ok s → Opens st s t
  unfolding unify_step
  term_save-row t e =
      from_bind (top_target st.targets) _ s e λ top first e1.
      from_want (operands_of t (tree_parts top.0)) k.UnifyTerm _ s e1 λ fs at e2.
      opened t top fs (record st { targets = fs ++ top.1; heap = st.heap ++ top.0 ∷ [] }) first at (taken-is _ s e2) refl refl

  ref-row : (i : ℕ) → unify_step strict sigs ctx in_definition (u_ref i) st ≡ Ok s → Refers st s
  unfolding unify_step
  ref-row i e =
      from_bind (top_target st.targets) _ s e λ top first e1.
      from_want (slice_get st.heap i) k.UnifyReference _ s e1 λ x _ e2.
      from_need (same_tree x top.0) k.UnifyReference _ s e2 λ _ e3.
      let is : record st { targets = top.1 } ≡ s = taken-is _ s e3 in
      (top.0, top.1, (top-is st.targets top first, ap (λ (z : UnifyState Tree). z.targets) (sym is)), ap (λ (z : UnifyState Tree). z.apart) (sym is))

  dummy-row : (d : ℕ) → unify_step strict sigs ctx in_definition (u_dummy d) st ≡ Ok s → MeetsVariable st s
  unfolding unify_step
  dummy-row d e =
      from_bind (top_target st.targets) _ s e λ top first e1.
      from_need (is_fresh strict sigs ctx d top.0 st.apart) k.UnifyDummy _ s e1 λ fresh e2.
      go top.0 top.1 (top-is st.targets top first) (bound-is top.0 fresh)
      (taken-is (record st { targets = top.1; heap = st.heap ++ top.0 ∷ []; apart = st.apart ++ top.0 ∷ [] }) s e2)
    where
      bound-is : (f : Tree) → is_fresh strict sigs ctx d f st.apart ≡ true → is_bound_var ctx f ≡ true
      bound-is f fresh = (both-true (is_bound_var ctx f) (sort_of sigs ctx f == d) (both-true (is_bound_var ctx f && sort_of sigs ctx f == d) (not (within_any strict ctx f st.apart)) fresh).0).0

      go : (f : Tree) (rest : List Tree) → st.targets ≡ f ∷ rest → is_bound_var ctx f ≡ true
          → record { heap = st.heap ++ f ∷ []; apart = st.apart ++ f ∷ []; targets = rest; items = st.items } ≡ s → MeetsVariable st s
      go (var x) rest is bound same = (x, rest, (is, ap (λ (z : UnifyState Tree). z.targets) (sym same)), ap (λ (z : UnifyState Tree). z.apart) (sym same))
      go (app t es) rest is bound same = absurd cc

-- ---- variables

abbrev IsVariableOf : ℕ → Option RunNode → Type 0
IsVariableOf x o = IsVariable o × ((y : ℕ) → IsVariableAt o y → x ≡ y)

of-variable : (vs : List Value) (x : ℕ) (n : RunNode) → value_of vs n ≡ an_expression (var x) → IsVariableOf x (Some n)
of-variable vs x (node.Var z) is = let same : z ≡ x = cc in (tt, λ y at. sym same ∙ sym at)
of-variable vs x _ is = absurd cc

variable-at : (tables : RowsBefore) (nodes : List RunNode) (i x : ℕ) → HaveParts tables nodes → slice_get (values nodes) i ≡ Some (an_expression (var x)) → IsVariableOf x (slice_get nodes i)
variable-at tables nodes i x h at =
    let (n, is) = node-at (values nodes) nodes i (an_expression (var x)) (all-values nodes) at in
    rw is (of-variable (values nodes) x n (some_is (shown tables nodes i n h is).0 at))

-- ---- the targets

expression-is : (vs : List Value) (n : ℕ) (e : Tree) → IsExpression vs n → expression_at vs n ≡ e → slice_get vs n ≡ Some (an_expression e)
expression-is vs n e (f, at) is = at ∙ ap (λ z. Some (an_expression z)) (sym (ap expression_of at) ∙ is)

same-trees : (fs gs : List Tree) → trees_of fs ≡ trees_of gs → fs ≡ gs
same-trees fs gs is = sym (listed-trees_of fs) ∙ ap listed is ∙ listed-trees_of gs

head-is : (e f : Tree) (es fs : List Tree) → e ∷ es ≡ f ∷ fs → (e ≡ f) × (es ≡ fs)
head-is e f es fs is = (cc, cc)

pub expressions-both : (vs : List Value) (ns ms : List ℕ) → AreExpressions vs ns → AreExpressions vs ms → AreExpressions vs (ns ++ ms)
expressions-both vs [] ms h k = k
expressions-both vs (n ∷ ns) ms h k = (h.0, expressions-both vs ns ms h.1 k)

variables-more : (es : List Tree) (x : ℕ) → variables_in (es ++ var x ∷ []) ≡ variables_in es ++ x ∷ []
variables-more [] x = refl
variables-more (e ∷ es) x = ap (λ (ns : List ℕ). variable_in e ++ ns) (variables-more es x) ∙ sym (append_assoc (variable_in e) (variables_in es) (x ∷ []))

-- ---- commands by their codes

abbrev IsOpening : UnifyCode → Type 0
IsOpening code = (code ≡ Term) ⊎ (code ≡ TermSave)

module _ (sigs : List Signature) (ctx : List Binder) (st s : UnifyState Tree) where
  opening : (code : UnifyCode) → IsOpening code → Executes sigs ctx code st s → (t : ℕ) × Opens st s t
  opening code (inl is) (value, v, in-kind, row) =
      let term : Some (u_term value) ≡ Some v = rw is at in-kind in
      let same : u_term value ≡ v = cc in
      (value, term-row sigs ctx st s value (rw (sym same) at row))
  opening code (inr is) (value, v, in-kind, row) =
      let term : Some (u_term_save value) ≡ Some v = rw is at in-kind in
      let same : u_term_save value ≡ v = cc in
      (value, term_save-row sigs ctx st s value (rw (sym same) at row))

  referring : (code : UnifyCode) → code ≡ Ref → Executes sigs ctx code st s → Refers st s
  referring code is (value, v, in-kind, row) =
      let ref : Some (u_ref value) ≡ Some v = rw is at in-kind in
      let same : u_ref value ≡ v = cc in
      ref-row sigs ctx st s value (rw (sym same) at row)

  meeting : (code : UnifyCode) → code ≡ Dummy → Executes sigs ctx code st s → MeetsVariable st s
  meeting code is (value, v, in-kind, row) =
      let dummy : Some (u_dummy value) ≡ Some v = rw is at in-kind in
      let same : u_dummy value ≡ v = cc in
      dummy-row sigs ctx st s value (rw (sym same) at row)

  -- each takes the top target
  takes-top : (code : UnifyCode) → Executes sigs ctx code st s → (e : Tree) × (rest : List Tree) × (st.targets ≡ e ∷ rest)
  takes-top Term ran = let (t, (fs, rest, (there, _), _)) = opening Term (inl refl) ran in (app t (trees_of fs), rest, there)
  takes-top TermSave ran = let (t, (fs, rest, (there, _), _)) = opening TermSave (inr refl) ran in (app t (trees_of fs), rest, there)
  takes-top Ref ran = let (e, rest, (there, _), _) = referring Ref refl ran in (e, rest, there)
  takes-top Dummy ran = let (x, rest, (there, _), _) = meeting Dummy refl ran in (var x, rest, there)
  takes-top Hyp (value, v, in-kind, row) = absurd cc

-- ---- what each makes of the targets

module _ (nodes : List RunNode) (code : UnifyCode) (targets met : List ℕ) where
  pub has-top : MayTakeApart nodes code targets met → length targets ≡ 0 → ⊥
  has-top (tables, sigs, ctx, es, st, s, h, (are, is, more), ran) none =
      let (e, rest, there) = takes-top sigs ctx st s code ran in
      let empty : st.targets ≡ [] = is ∙ ap (λ (ns : List ℕ). expressions_at (values nodes) (reverse ns)) (nil_from_length targets none) in
      let no : [] ≡ e ∷ rest = sym empty ∙ there in cc

  module _ (rest : List ℕ) (top : ℕ) (popped : targets ≡ rest ++ top ∷ []) where
    abbrev TopIs : Tree → List Tree → Type 0
    TopIs e others = (slice_get (values nodes) top ≡ Some (an_expression e)) × AreExpressions (values nodes) (reverse rest) × (others ≡ expressions_at (values nodes) (reverse rest))

    reversed : reverse targets ≡ top ∷ reverse rest
    reversed = ap (λ (ns : List ℕ). reverse ns) popped ∙ reverse-append rest (top ∷ [])

    top-of : (es : List Tree) (st : UnifyState Tree) (e : Tree) (others : List Tree) → IsReached nodes es targets met st → st.targets ≡ e ∷ others → TopIs e others
    top-of es st e others (are, is, more) there =
        let here : AreExpressions (values nodes) (top ∷ reverse rest) = subst (AreExpressions (values nodes)) reversed are in
        let both : e ∷ others ≡ expression_at (values nodes) top ∷ expressions_at (values nodes) (reverse rest) = sym there ∙ is ∙ ap (expressions_at (values nodes)) reversed in
        let (first, later) = head-is e (expression_at (values nodes) top) others (expressions_at (values nodes) (reverse rest)) both in
        (expression-is (values nodes) top e here.0 (sym first), here.1, later)

    -- a term opens an application
    pub is-application : IsOpening code → MayTakeApart nodes code targets met → IsApplication (slice_get nodes top)
    is-application is (tables, sigs, ctx, es, st, s, h, reached, ran) =
        let (t, (fs, others, (there, _), _)) = opening sigs ctx st s code is ran in
        (application-at tables nodes top t (trees_of fs) h (top-of es st (app t (trees_of fs)) others reached there).0).0

    pub opens : IsOpening code → (u : ℕ) (os now : List ℕ) → Applies (slice_get nodes top) u os → now ≡ rest ++ reverse os → TakesApart nodes code targets met now met
    opens is u os now applies now-is tables sigs ctx es st s h reached ran =
        let (t, (fs, others, (there, then), apart)) = opening sigs ctx st s code is ran in
        let (at, rest-are, others-are) = top-of es st (app t (trees_of fs)) others reached there in
        let (_, trees-are, os-are, _) = (application-at tables nodes top t (trees_of fs) h at).1 u os applies in
        let turned : reverse now ≡ os ++ reverse rest = ap (λ (ns : List ℕ). reverse ns) now-is ∙ reverse-append rest (reverse os) ∙ ap (λ (ns : List ℕ). ns ++ reverse rest) (reverse-reverse os) in
        let fs-are : fs ≡ expressions_at (values nodes) os = same-trees fs (expressions_at (values nodes) os) trees-are in
        let (more, more-is, more-are) = reached.2 in (
          subst (AreExpressions (values nodes)) (sym turned) (expressions-both (values nodes) os (reverse rest) os-are rest-are),
          then ∙ ap (λ (gs : List Tree). gs ++ others) fs-are ∙ ap (λ (gs : List Tree). expressions_at (values nodes) os ++ gs) others-are
              ∙ sym (map-append (expression_at (values nodes)) os (reverse rest)) ∙ ap (expressions_at (values nodes)) (sym turned),
          (more, apart ∙ more-is, more-are),
        )

    pub refers : code ≡ Ref → TakesApart nodes code targets met rest met
    refers is tables sigs ctx es st s h reached ran =
        let (e, others, (there, then), apart) = referring sigs ctx st s code is ran in
        let (_, rest-are, others-are) = top-of es st e others reached there in
        let (more, more-is, more-are) = reached.2 in
        (rest-are, then ∙ others-are, (more, apart ∙ more-is, more-are))

    -- a dummy meets a variable
    pub is-variable : code ≡ Dummy → MayTakeApart nodes code targets met → IsVariable (slice_get nodes top)
    is-variable is (tables, sigs, ctx, es, st, s, h, reached, ran) =
        let (x, others, (there, _), _) = meeting sigs ctx st s code is ran in
        (variable-at tables nodes top x h (top-of es st (var x) others reached there).0).0

    pub meets : code ≡ Dummy → (y : ℕ) (now : List ℕ) → IsVariableAt (slice_get nodes top) y → now ≡ met ++ y ∷ [] → TakesApart nodes code targets met rest now
    meets is y now is-y now-is tables sigs ctx es st s h reached ran =
        let (x, others, (there, then), apart) = meeting sigs ctx st s code is ran in
        let (at, rest-are, others-are) = top-of es st (var x) others reached there in
        let same : x ≡ y = (variable-at tables nodes top x h at).1 y is-y in
        let (more, more-is, more-are) = reached.2 in (
          rest-are,
          then ∙ others-are,
          (
            more ++ var x ∷ [],
            apart ∙ ap (λ (gs : List Tree). gs ++ var x ∷ []) more-is ∙ append_assoc es more (var x ∷ []),
            variables-more more x ∙ ap (λ (ns : List ℕ). ns ++ x ∷ []) more-are ∙ ap (λ (n : ℕ). met ++ n ∷ []) same ∙ sym now-is,
          ),
        )
