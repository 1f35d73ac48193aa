-- What is read as a list of statements has all its names, over what was declared before.
use Rattle.std.proofs.Common.{ℕ, zero, suc, ◌≡◌, ◌<◌, ◌+◌, Bool, true, false, true≢false, List, [], ◌∷◌, ◌++◌, length, slice_get, All, Some, refl, sym, ap, ◌∙◌, subst, arith, length-append}
use Rattle.std.proofs.lemmas.Option.{none-some}
use Rattle.mz_sexpr.specs.Node.{Node, Nodes, atom, list, no_nodes, node}
use Rattle.mz_logic_theory.specs.Tree.{Tree, Trees, none, more, listed}
use Rattle.mz_logic_theory.specs.Declaration.{Declaration, sort_decl, term_decl, assertion_decl, sorts, signatures, assertions}
use Rattle.mz_logic_theory.specs.Legality.{IsDummy}
use Rattle.mz_logic_theory.specs.LegalLists.{MayBeLocal}
use Rattle.mz_logic_theory.specs.Laws.{SortsThere}
use Rattle.mz_logic_theory.specs.declared.binder.Binder.{Binder}
use Rattle.mz_logic_theory.proofs.Offered.{sorts-append, assertions-append, one_at, all_from_each, signatures-append}
use Rattle.mz_mmu_theory.specs.Name.{Names, scope_of, no_names, names_with}
use Rattle.mz_mmu_theory.specs.Expressions.{IsParam as IsParamNode, IsDummy as IsDummyNode, AreBinders, AreParams, AreDummies}
use Rattle.mz_mmu_theory.specs.Proof.{Proof}
use Rattle.mz_mmu_theory.specs.Statements.{Statement, kind_of, is_local_word, IsHyp, AreHyps, AreNamedHyps, IsDeclared, IsLocal, IsMarked, IsStatement, AreStatements}
use Rattle.mz_mmu_theory.specs.declared.kind.Kind.{Kind}
use Rattle.mz_mmu_theory.specs.declared.kind.Kind.TheVariants.{Sort as sort_kind, Term as term_kind, Axiom as axiom_kind, Def as def_kind, Theorem as theorem_kind, Other as no_kind}
use Rattle.mz_mmu_theory.specs.Names.{ExprThere, ExprsThere, ProofThere, DummiesThere, StatedProofThere, DeclThere, StatementThere, StatementsThere}
use Rattle.mz_mmu_theory.proofs.NamesRead.{number_there, one_more, expr_there, expr_list_there, proof_there}

-- the names are those of the environment
pub record Matches (names : Names) (env : List Declaration) : Type 0 where
  pub sorts_many : length names.sorts ≡ length (sorts env)
  pub terms_many : length names.terms ≡ length (signatures env)
  pub constants_many : length names.constants ≡ length names.terms
  pub assertions_many : length names.assertions ≡ length (assertions env)

-- ---- binders

module _ (names : Names) where
  param_sort : (vars : List (List ℕ)) (n : Node) (x : List ℕ) (b : Binder) → IsParamNode names vars n x b → b.sort < length names.sorts
  param_sort vars (list _ (node y (node s no_nodes))) x b h = number_there names.sorts s b.sort h.1
  param_sort vars (list _ (node y (node s (node ds no_nodes)))) x b h = number_there names.sorts s b.sort h.1
  param_sort vars _ x b h = absurd h

  dummy_shape : (vars : List (List ℕ)) (n : Node) (x : List ℕ) (b : Binder) → IsDummyNode names vars n x b → (b.sort < length names.sorts) × IsDummy b
  dummy_shape vars (list _ (node y (node s no_nodes))) x b h = (number_there names.sorts s b.sort h.1, (h.2, h.3))
  dummy_shape vars _ x b h = absurd h

module _ (Is : List (List ℕ) → Node → List ℕ → Binder → Type 0) where
  binders_many : (vars : List (List ℕ)) (ns : Nodes) (bs : List Binder) (after : List (List ℕ)) → AreBinders Is vars ns bs after → length after ≡ length vars + length bs
  binders_many vars no_nodes bs after (ends, same) = ap length same ∙ none_more (length vars) ∙ ap (λ cs. length vars + length cs) (sym ends)
    where
      none_more : (n : ℕ) → n ≡ n + 0
      none_more n = omega arith
  binders_many vars (node n ns) bs after (x, c, cs, _, h, is) =
      let e : length after ≡ length (vars ++ x ∷ []) + length cs = binders_many (vars ++ x ∷ []) ns cs after h in
      let m : length (vars ++ x ∷ []) ≡ suc (length vars) = one_more vars x in
      let k : suc (length vars) + length cs ≡ length vars + suc (length cs) = omega arith in
      e ∙ ap (λ n. n + length cs) m ∙ k ∙ ap (λ ds. length vars + length ds) (sym is)

  each_binder : (P : Binder → Type 0) → ((vars : List (List ℕ)) (n : Node) (x : List ℕ) (b : Binder) → Is vars n x b → P b)
      → (vars : List (List ℕ)) (ns : Nodes) (bs : List Binder) (after : List (List ℕ)) → AreBinders Is vars ns bs after → All P bs
  each_binder P one vars ns bs after h = all_from_each P bs (go vars ns bs after h)
    where
      go : (vars : List (List ℕ)) (ns : Nodes) (bs : List Binder) (after : List (List ℕ)) → AreBinders Is vars ns bs after → (i : ℕ) (b : Binder) → slice_get bs i ≡ Some b → P b
      go vars no_nodes bs after (ends, _) i b at = absurd (none-some _ (ap (λ cs. slice_get cs i) (sym ends) ∙ at))
      go vars (node n ns) bs after (x, c, cs, here, h, is) zero b at = subst P (one_at refl (ap (λ ds. slice_get ds 0) (sym is) ∙ at)) (one vars n x c here)
      go vars (node n ns) bs after (x, c, cs, here, h, is) (suc i) b at = go (vars ++ x ∷ []) ns cs after h i b (ap (λ ds. slice_get ds (suc i)) (sym is) ∙ at)

-- ---- statements

module _ (names : Names) (env : List Declaration) (m : Matches names env) where
  params_there : (n : Node) (bs : List Binder) (after : List (List ℕ)) → AreParams names n bs after → SortsThere (sorts env) bs × (length after ≡ length bs)
  params_there (atom _ _) bs after h = absurd h
  params_there (list _ ns) bs after h = (
    subst (λ k. All (λ b. b.sort < k) bs) m.sorts_many (each_binder (IsParamNode names) (λ b. b.sort < length names.sorts) (param_sort names) [] ns bs after h),
    binders_many (IsParamNode names) [] ns bs after h ∙ (let e : 0 + length bs ≡ length bs = omega arith in e),
  )

  dummies_there : (vars : List (List ℕ)) (n : Node) (bs : List Binder) (after : List (List ℕ)) → AreDummies names vars n bs after
      → DummiesThere env bs × (length after ≡ length vars + length bs)
  dummies_there vars (atom _ _) bs after h = absurd h
  dummies_there vars (list _ ns) bs after h = (
    (
      subst (λ k. All (λ b. b.sort < k) bs) m.sorts_many (each_binder (IsDummyNode names) (λ b. b.sort < length names.sorts) (λ us n x b d. (dummy_shape names us n x b d).0) vars ns bs after h),
      each_binder (IsDummyNode names) IsDummy (λ us n x b d. (dummy_shape names us n x b d).1) vars ns bs after h,
    ),
    binders_many (IsDummyNode names) vars ns bs after h,
  )

  context_many : (vars all : List (List ℕ)) (ps ds : List Binder) → length vars ≡ length ps → length all ≡ length vars + length ds → length all ≡ length (ps ++ ds)
  context_many vars all ps ds h k = k ∙ ap (λ n. n + length ds) h ∙ sym (length-append ps ds)

  here : (vars : List (List ℕ)) (k : ℕ) (e : Tree) → length vars ≡ k → ExprThere (length names.terms) (length vars) e → ExprThere (length (signatures env)) k e
  here vars k e is h = subst (λ t. ExprThere t k e) m.terms_many (subst (λ n. ExprThere (length names.terms) n e) is h)

  all_here : (vars : List (List ℕ)) (k : ℕ) (es : Trees) → length vars ≡ k → ExprsThere (length names.terms) (length vars) es → ExprsThere (length (signatures env)) k es
  all_here vars k es is h = subst (λ t. ExprsThere t k es) m.terms_many (subst (λ n. ExprsThere (length names.terms) n es) is h)

  hyp_there : (vars : List (List ℕ)) (taken : List (List ℕ)) (n : Node) (w : List ℕ) (f : Tree) → IsHyp (scope_of names vars) taken n w f → ExprThere (length names.terms) (length vars) f
  hyp_there vars taken (list _ (node x (node e no_nodes))) w f h = expr_there (scope_of names vars) m.constants_many e f h.1
  hyp_there vars taken _ w f h = absurd h

  hyps_there : (vars : List (List ℕ)) (taken : List (List ℕ)) (ns : Nodes) (es : Trees) (after : List (List ℕ)) → AreHyps (scope_of names vars) taken ns es after
      → ExprsThere (length names.terms) (length vars) es × (length after ≡ length taken + length (listed es))
  hyps_there vars taken no_nodes es after (is, same) =
      (subst (ExprsThere (length names.terms) (length vars)) (sym is) tt, ap length same ∙ none_more (length taken) ∙ ap (λ x. length taken + length (listed x)) (sym is))
    where
      none_more : (n : ℕ) → n ≡ n + 0
      none_more n = omega arith
  hyps_there vars taken (node n ns) es after (w, f, fs, h, hs, is) =
      let r = hyps_there vars (taken ++ w ∷ []) ns fs after hs in
      let many : length (taken ++ w ∷ []) ≡ suc (length taken) = one_more taken w in
      let k : suc (length taken) + length (listed fs) ≡ length taken + suc (length (listed fs)) = omega arith in (
        subst (ExprsThere (length names.terms) (length vars)) (sym is) (hyp_there vars taken n w f h, r.0),
        r.1 ∙ ap (λ n. n + length (listed fs)) many ∙ k ∙ ap (λ x. length taken + length (listed x)) (sym is),
      )

  named_hyps_there : (vars : List (List ℕ)) (n : Node) (es : Trees) (after : List (List ℕ)) → AreNamedHyps (scope_of names vars) n es after
      → ExprsThere (length names.terms) (length vars) es × (length after ≡ length (listed es))
  named_hyps_there vars (atom _ _) es after h = absurd h
  named_hyps_there vars (list _ ns) es after h =
      let r = hyps_there vars [] ns es after h in
      (r.0, r.1 ∙ (let e : 0 + length (listed es) ≡ length (listed es) = omega arith in e))

  proof_here : (p : Proof) (n k h j : ℕ) → n ≡ k → h ≡ j → ProofThere (length names.terms) n (length names.assertions) h 0 p
      → ProofThere (length (signatures env)) k (length (assertions env)) j 0 p
  proof_here p n k h j is is' r =
      subst (λ x. ProofThere x k (length (assertions env)) j 0 p) m.terms_many
      (subst (λ x. ProofThere (length names.terms) k x j 0 p) m.assertions_many
      (subst (λ x. ProofThere (length names.terms) x (length names.assertions) j 0 p) is
      (subst (λ x. ProofThere (length names.terms) n (length names.assertions) x 0 p) is' r)))

  abbrev There : Declaration → Statement → Type 0
  There d s = DeclThere env d s.dummies s.proof

  declared_there : (k : Kind) (ns : Nodes) (s : Statement) → IsDeclared names k ns s → There s.decl s
  declared_there sort_kind (node x ms) s (_, _, _, is, _, _) = subst (λ d. There d s) (sym is) tt
  declared_there term_kind (node x (node ps (node r no_nodes))) s (params, vars, result, _, ps_are, _, is, _, _) =
      subst (λ d. There d s) (sym is) ((params_there ps params vars ps_are).0, ((λ k d below. absurd (omega arith)), (λ k d below. absurd (omega arith))), tt)
  declared_there axiom_kind (node x (node ps (node hs (node e no_nodes)))) s (params, vars, hyps, conclusion, _, ps_are, hs_are, e_is, is, _, unproved) =
      let p = params_there ps params vars ps_are in
      subst (λ d. There d s) (sym is) (
        p.0,
        all_here vars (length params) hyps p.1 (expr_list_there (scope_of names vars) m.constants_many hs hyps hs_are),
        here vars (length params) conclusion p.1 (expr_there (scope_of names vars) m.constants_many e conclusion e_is),
        subst (StatedProofThere env (record { is_axiom = true; params = params; hyps = hyps; conclusion = conclusion }) s.dummies) (sym unproved) refl,
      )
  declared_there def_kind (node x (node ps (node r (node ds (node e no_nodes))))) s (params, vars, result, dummies, all, body, _, ps_are, _, ds_are, e_is, is, _, _) =
      let p = params_there ps params vars ps_are in
      let q = dummies_there vars ds dummies all ds_are in
      subst (λ d. There d s) (sym is) (
        p.0,
        q.0,
        (here all (length (params ++ dummies)) body (context_many vars all params dummies p.1 q.1) (expr_there (scope_of names all) m.constants_many e body e_is), tt),
      )
  declared_there theorem_kind (node x (node ps (node hs (node e (node ds (node q no_nodes)))))) s (params, vars, hyps, labels, conclusion, all, proof, _, ps_are, hs_are, e_is, ds_are, q_is, is, proved) =
      let p = params_there ps params vars ps_are in
      let d = dummies_there vars ds s.dummies all ds_are in
      let h = named_hyps_there vars hs hyps labels hs_are in
      subst (λ x. There x s) (sym is) (
        p.0,
        all_here vars (length params) hyps p.1 h.0,
        here vars (length params) conclusion p.1 (expr_there (scope_of names vars) m.constants_many e conclusion e_is),
        subst (StatedProofThere env (record { is_axiom = false; params = params; hyps = hyps; conclusion = conclusion }) s.dummies) (sym proved) (
          refl,
          d.0,
          proof_here proof (length all) (length (params ++ s.dummies)) (length labels) (length (listed hyps)) (context_many vars all params s.dummies p.1 d.1) h.1
              (proof_there (scope_of names all) m.constants_many labels [] q proof q_is),
        ),
      )
  declared_there _ _ s h = absurd h

  -- only definitions and theorems may be local
  local_may_be : (k : Kind) (ns : Nodes) (s : Statement) → IsLocal names k ns s → MayBeLocal s.decl × There s.decl s
  local_may_be def_kind (node x (node ps (node r (node ds (node e no_nodes))))) s h =
      (subst MayBeLocal (sym h.11) has_body, declared_there def_kind (node x (node ps (node r (node ds (node e no_nodes))))) s h)
    where
      has_body : more h.5 none ≡ none → ⊥
      has_body is = cc
  local_may_be theorem_kind (node x (node ps (node hs (node e (node ds (node q no_nodes)))))) s h =
      (subst MayBeLocal (sym h.13) refl, declared_there theorem_kind (node x (node ps (node hs (node e (node ds (node q no_nodes)))))) s h)
  local_may_be _ _ s h = absurd h

  marked_there : (b : Bool) (k : Node) (ns : Nodes) (s : Statement) → IsMarked b names k ns s → StatementThere env s
  marked_there false k ns s (is, h) = (declared_there (kind_of k) ns s h, λ loc. absurd (true≢false (sym loc ∙ is)))
  marked_there true k no_nodes s h = absurd h
  marked_there true k (node k' ns) s (is, h) = let r = local_may_be (kind_of k') ns s h in (r.1, λ _. r.0)

  statement_there : (n : Node) (s : Statement) → IsStatement names n s → StatementThere env s
  statement_there (list _ (node k ns)) s h = marked_there (is_local_word k) k ns s h
  statement_there _ s h = absurd h

-- ---- all statements

one_longer : {A : Type 0} (xs : List (List ℕ)) (ys : List A) (w : List ℕ) (y : A) → length xs ≡ length ys → length (xs ++ w ∷ []) ≡ length (ys ++ y ∷ [])
one_longer xs ys w y h = length-append xs (w ∷ []) ∙ ap (λ n. n + 1) h ∙ sym (length-append ys (y ∷ []))

none_longer : {A : Type 0} (xs : List (List ℕ)) (ys : List A) → length xs ≡ length ys → length xs ≡ length (ys ++ [])
none_longer xs ys h = h ∙ (let e : length ys ≡ length ys + 0 = omega arith in e) ∙ sym (length-append ys [])

names_grow : (names : Names) (env : List Declaration) (w : List ℕ) (d : Declaration) → Matches names env → Matches (names_with names w d) (env ++ d ∷ [])
names_grow names env w (sort_decl x) m = record {
  sorts_many = one_longer names.sorts (sorts env) w x m.sorts_many ∙ ap length (sym (sorts-append env (sort_decl x ∷ [])));
  terms_many = none_longer names.terms (signatures env) m.terms_many ∙ ap length (sym (signatures-append env (sort_decl x ∷ [])));
  constants_many = m.constants_many;
  assertions_many = none_longer names.assertions (assertions env) m.assertions_many ∙ ap length (sym (assertions-append env (sort_decl x ∷ [])));
}
names_grow names env w (term_decl x) m = record {
  sorts_many = none_longer names.sorts (sorts env) m.sorts_many ∙ ap length (sym (sorts-append env (term_decl x ∷ [])));
  terms_many = one_longer names.terms (signatures env) w x.signature m.terms_many ∙ ap length (sym (signatures-append env (term_decl x ∷ [])));
  constants_many = one_longer names.constants names.terms _ w m.constants_many;
  assertions_many = none_longer names.assertions (assertions env) m.assertions_many ∙ ap length (sym (assertions-append env (term_decl x ∷ [])));
}
names_grow names env w (assertion_decl x) m = record {
  sorts_many = none_longer names.sorts (sorts env) m.sorts_many ∙ ap length (sym (sorts-append env (assertion_decl x ∷ [])));
  terms_many = none_longer names.terms (signatures env) m.terms_many ∙ ap length (sym (signatures-append env (assertion_decl x ∷ [])));
  constants_many = m.constants_many;
  assertions_many = one_longer names.assertions (assertions env) w x m.assertions_many ∙ ap length (sym (assertions-append env (assertion_decl x ∷ [])));
}

statements_after : (names : Names) (env : List Declaration) (ns : Nodes) (ss : List Statement) → Matches names env → AreStatements names ns ss → StatementsThere env ss
statements_after names env no_nodes ss m is = subst (StatementsThere env) (sym is) tt
statements_after names env (node n ns) ss m (s, rest, h, hs, is) =
    subst (StatementsThere env) (sym is)
    (statement_there names env m n s h, statements_after (names_with names s.name s.decl) (env ++ s.decl ∷ []) ns rest (names_grow names env s.name s.decl m) hs)

pub statements_there : (gaps : Bool) (ns : Nodes) (ss : List Statement) → AreStatements (no_names gaps) ns ss → StatementsThere [] ss
statements_there gaps ns ss h = statements_after (no_names gaps) [] ns ss (record { sorts_many = refl; terms_many = refl; constants_many = refl; assertions_many = refl }) h
