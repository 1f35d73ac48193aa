-- What is asked of a node holds where the node is an expression, a list of variables, a binder, a
-- conversion, a proof.
use Rattle.std.proofs.Common.{ℕ, ◌≡◌, ◌≤◌, length, arith, ◌⊎◌, inl, inr, List, [], ◌∷◌, ◌++◌, refl, sym, ap, ◌∙◌, subst, append_assoc, append-nil}
use Rattle.mz_base.specs.Checks.{Checks, ◌>>◌, AllHold}
use Rattle.mz_base.proofs.Offered.{all_hold-both, new-both, new-parts}
use Rattle.mz_sexpr.specs.Node.{Node, Nodes, atom, list, no_nodes, node, word, place, parts}
use Rattle.mz_logic_theory.specs.Tree.{Tree, Trees}
use Rattle.mz_logic_theory.specs.Conversions.{Conversion, Conversions}
use Rattle.mz_logic_theory.specs.declared.binder.Binder.{Binder}
use Rattle.mz_logic_theory.specs.declared.binder.ResultType.{ResultType}
use Rattle.mz_mmu_theory.specs.declared.fault.Fault.{Fault}
use Rattle.mz_sexpr.specs.declared.rule.U.{U}
use Rattle.mz_mmu_theory.specs.declared.fault.Stop.{Stop}
use Rattle.mz_mmu_theory.specs.declared.fault.Stop.TheVariants.{Refused, Mem}
use Rattle.mz_mmu_theory.specs.Stops.{Stops}
use Rattle.mz_base.specs.Names.{IsNew}
use Rattle.mz_mmu_theory.specs.Name.{Names, Scope, hidden, IsName, HasNumber, IsNewName, IsParamName}
use Rattle.mz_mmu_theory.specs.Expressions.{IsExpr, AreExprs, IsExprList, AreVariables, IsVariableList, AreDeps, IsParam, IsDummy, AreBinders, AreParams, AreDummies, IsResult}
use Rattle.mz_mmu_theory.specs.Proof.{Proof, Proofs}
use Rattle.mz_mmu_theory.specs.Proofs.{Keyword, conv_word, let_word, refl_word, sym_word, unfold_word, sorry_word, no_word, conv_keyword, proof_keyword, IsConv, IsConvBy, AreConvs, IsProof, IsProofBy, AreProofs}
use Rattle.mz_mmu_theory.specs.Cursor.{node_size, nodes_size}
use Rattle.mz_mmu_theory.proofs.Cursors.{node_size_positive}
use Rattle.mz_mmu_theory.specs.FormOrder.{fault, known_asked, new_asked, param_name_asked, expr_asked, exprs_asked, expr_list_asked, variables_asked, variable_list_asked, param_asked, dummy_asked, names_of, first_word, binders_asked, params_asked, dummies_asked, result_asked, conv_asked, conv_asked_by, convs_asked, proof_asked, proof_asked_by, proofs_asked}

pub known_holds : (xs : List (List ℕ)) (n : Node) (i : ℕ) → HasNumber xs n i → AllHold (known_asked xs n)
known_holds xs (atom at w) i h = (h.0, ((i, h.1), tt))
known_holds xs (list at ns) i h = absurd h

pub new_holds : (xs : List (List ℕ)) (n : Node) (w : List ℕ) → IsNewName xs n w → AllHold (new_asked xs n)
new_holds xs (atom at w) x h = (h.1, (h.2, tt))
new_holds xs (list at ns) x h = absurd h

pub param_name_holds : (xs : List (List ℕ)) (n : Node) (w : List ℕ) → IsParamName xs n w → AllHold (param_name_asked xs n)
param_name_holds xs (atom at w) x (e, inl h) = (inl h, (inl h, tt))
param_name_holds xs (atom at w) x (e, inr h) = (inr h.0, (inr h.1, tt))
param_name_holds xs (list at ns) x h = absurd h

-- ---- expressions

mutual
  pub expr_holds : (sc : Scope) (n : Node) (e : Tree) → IsExpr sc n e → AllHold (expr_asked sc n)
  expr_holds sc (atom at w) e (h, inl v) = (h, (inl (v.0, v.1), tt))
  expr_holds sc (atom at w) e (h, inr c) = (h, (inr (c.1.0, c.1.1), tt))
  expr_holds sc (list at no_nodes) e h = absurd h
  expr_holds sc (list at (node h ns)) e (t, es, k, r, is) = all_hold-both (known_asked sc.names.terms h) (exprs_asked sc ns) (known_holds sc.names.terms h t k) (exprs_hold sc ns es r)

  pub exprs_hold : (sc : Scope) (ns : Nodes) (es : Trees) → AreExprs sc ns es → AllHold (exprs_asked sc ns)
  exprs_hold sc no_nodes es h = tt
  exprs_hold sc (node n ns) es (f, fs, h, r, is) = all_hold-both (expr_asked sc n) (exprs_asked sc ns) (expr_holds sc n f h) (exprs_hold sc ns fs r)

pub expr_list_holds : (sc : Scope) (n : Node) (es : Trees) → IsExprList sc n es → AllHold (expr_list_asked sc n)
expr_list_holds sc (atom at w) es h = absurd h
expr_list_holds sc (list at ns) es h = exprs_hold sc ns es h

-- ---- variables and binders

pub variables_hold : (vars : List (List ℕ)) (ns : Nodes) (xs : List ℕ) → AreVariables vars ns xs → AllHold (variables_asked vars ns)
variables_hold vars no_nodes xs h = tt
variables_hold vars (node n ns) xs (y, ys, k, r, is) = all_hold-both (known_asked vars n) (variables_asked vars ns) (known_holds vars n y k) (variables_hold vars ns ys r)

pub variable_list_holds : (vars : List (List ℕ)) (n : Node) (xs : List ℕ) → IsVariableList vars n xs → AllHold (variable_list_asked vars n)
variable_list_holds vars (atom at w) xs h = absurd h
variable_list_holds vars (list at ns) xs h = variables_hold vars ns xs h

pub deps_hold : (vars : List (List ℕ)) (n : Node) (xs : List ℕ) → AreDeps vars n xs → AllHold (variable_list_asked vars n)
deps_hold vars n deps (xs, h, a) = variable_list_holds vars n xs h

pub param_holds : (names : Names) (vars : List (List ℕ)) (n : Node) (w : List ℕ) (b : Binder) → IsParam names vars n w b → AllHold (param_asked names vars n)
param_holds names vars (list at (node y (node s no_nodes))) x b (h, k, r, d) =
    all_hold-both (param_name_asked vars y) (known_asked names.sorts s) (param_name_holds vars y x h) (known_holds names.sorts s b.sort k)
param_holds names vars (list at (node y (node s (node ds no_nodes)))) x b (h, k, r, d) =
    all_hold-both (param_name_asked vars y) (known_asked names.sorts s >> variable_list_asked vars ds) (param_name_holds vars y x h)
    (all_hold-both (known_asked names.sorts s) (variable_list_asked vars ds) (known_holds names.sorts s b.sort k) (deps_hold vars ds b.deps d))
param_holds names vars _ x b h = absurd h

pub dummy_holds : (names : Names) (vars : List (List ℕ)) (n : Node) (w : List ℕ) (b : Binder) → IsDummy names vars n w b → AllHold (dummy_asked names vars n)
dummy_holds names vars (list at (node y (node s no_nodes))) x b (h, k, r, d) =
    all_hold-both (new_asked vars y) (known_asked names.sorts s) (new_holds vars y x h) (known_holds names.sorts s b.sort k)
dummy_holds names vars _ x b h = absurd h

-- the name that a parameter or a dummy has is its first atom
pub param_word : (names : Names) (vars : List (List ℕ)) (n : Node) (w : List ℕ) (b : Binder) → IsParam names vars n w b → w ≡ first_word (parts n)
param_word names vars (list at (node (atom _ _) (node s no_nodes))) x b h = h.0.0
param_word names vars (list at (node (list _ _) (node s no_nodes))) x b h = absurd h.0
param_word names vars (list at (node (atom _ _) (node s (node ds no_nodes)))) x b h = h.0.0
param_word names vars (list at (node (list _ _) (node s (node ds no_nodes)))) x b h = absurd h.0
param_word names vars (list at (node y (node s (node ds (node _ _))))) x b h = absurd h
param_word names vars _ x b h = absurd h

pub dummy_word : (names : Names) (vars : List (List ℕ)) (n : Node) (w : List ℕ) (b : Binder) → IsDummy names vars n w b → w ≡ first_word (parts n)
dummy_word names vars (list at (node (atom _ _) (node s no_nodes))) x b h = h.0.0
dummy_word names vars (list at (node (list _ _) (node s no_nodes))) x b h = absurd h.0
dummy_word names vars (list at (node y (node s (node _ _)))) x b h = absurd h
dummy_word names vars _ x b h = absurd h

module _ (Is : List (List ℕ) → Node → List ℕ → Binder → Type 0) (asked : List (List ℕ) → Node → Checks Fault)
    (holds : (vars : List (List ℕ)) (n : Node) (w : List ℕ) (b : Binder) → Is vars n w b → AllHold (asked vars n))
    (says : (vars : List (List ℕ)) (n : Node) (w : List ℕ) (b : Binder) → Is vars n w b → w ≡ first_word (parts n)) where
  pub binders_hold : (vars : List (List ℕ)) (ns : Nodes) (bs : List Binder) (after : List (List ℕ)) → AreBinders Is vars ns bs after → AllHold (binders_asked asked vars ns)
  binders_hold vars no_nodes bs after h = tt
  binders_hold vars (node n ns) bs after (x, c, cs, h, r, is) =
      all_hold-both (asked vars n) (binders_asked asked (vars ++ first_word (parts n) ∷ []) ns) (holds vars n x c h)
      (binders_hold (vars ++ first_word (parts n) ∷ []) ns cs after (subst (λ w. AreBinders Is (vars ++ w ∷ []) ns cs after) (says vars n x c h) r))

  pub binders_named : (vars : List (List ℕ)) (ns : Nodes) (bs : List Binder) (after : List (List ℕ)) → AreBinders Is vars ns bs after → after ≡ vars ++ names_of ns
  binders_named vars no_nodes bs after h = h.1 ∙ sym (append-nil vars)
  binders_named vars (node n ns) bs after (x, c, cs, h, r, is) =
      binders_named (vars ++ x ∷ []) ns cs after r ∙ append_assoc vars (x ∷ []) (names_of ns) ∙ ap (λ w. vars ++ w ∷ names_of ns) (says vars n x c h)

pub params_hold : (names : Names) (n : Node) (bs : List Binder) (after : List (List ℕ)) → AreParams names n bs after → AllHold (params_asked names n) × (after ≡ names_of (parts n))
params_hold names (atom at w) bs after h = absurd h
params_hold names (list at ns) bs after h = (
  binders_hold (IsParam names) (param_asked names) (param_holds names) (param_word names) [] ns bs after h,
  binders_named (IsParam names) (param_asked names) (param_holds names) (param_word names) [] ns bs after h,
)

pub dummies_hold : (names : Names) (vars : List (List ℕ)) (n : Node) (bs : List Binder) (after : List (List ℕ)) → AreDummies names vars n bs after
    → AllHold (dummies_asked names vars n) × (after ≡ vars ++ names_of (parts n))
dummies_hold names vars (atom at w) bs after h = absurd h
dummies_hold names vars (list at ns) bs after h = (
  binders_hold (IsDummy names) (dummy_asked names) (dummy_holds names) (dummy_word names) vars ns bs after h,
  binders_named (IsDummy names) (dummy_asked names) (dummy_holds names) (dummy_word names) vars ns bs after h,
)

pub result_holds : (names : Names) (vars : List (List ℕ)) (n : Node) (r : ResultType) → IsResult names vars n r → AllHold (result_asked names vars n)
result_holds names vars (list at (node s (node ds no_nodes))) r (k, d) =
    all_hold-both (known_asked names.sorts s) (variable_list_asked vars ds) (known_holds names.sorts s r.sort k) (deps_hold vars ds r.deps d)
result_holds names vars _ r h = absurd h

-- ---- conversions

mutual
  pub conv_holds : (sc : Scope) (n : Node) (c : Conversion) → IsConv sc n c → AllHold (conv_asked sc n)
  conv_holds sc (atom at w) c (e, h, is) = expr_holds sc (atom at w) e h
  conv_holds sc (list at no_nodes) c h = absurd h
  conv_holds sc (list at (node h ns)) c r = conv_holds_by sc (conv_keyword h) at h ns c r

  pub conv_holds_by : (sc : Scope) (k : Keyword) (at : ℕ) (h : Node) (ns : Nodes) (c : Conversion) → IsConvBy sc k h ns c → AllHold (conv_asked_by sc k at h ns)
  conv_holds_by sc refl_word at h (node n no_nodes) c (e, r, is) = expr_holds sc n e r
  conv_holds_by sc sym_word at h (node n no_nodes) c (d, r, is) = conv_holds sc n d r
  conv_holds_by sc unfold_word at h (node t (node es (node ys (node n no_nodes)))) c (u, fs, zs, d, k, e, v, r, is) =
      all_hold-both (known_asked sc.names.terms t) (expr_list_asked sc es >> variable_list_asked sc.vars ys >> conv_asked sc n) (known_holds sc.names.terms t u k)
      (all_hold-both (expr_list_asked sc es) (variable_list_asked sc.vars ys >> conv_asked sc n) (expr_list_holds sc es fs e)
      (all_hold-both (variable_list_asked sc.vars ys) (conv_asked sc n) (variable_list_holds sc.vars ys zs v) (conv_holds sc n d r)))
  conv_holds_by sc sorry_word at h (node l (node m no_nodes)) c (f, g, may, x, y, is) =
      (may, all_hold-both (expr_asked sc l) (expr_asked sc m) (expr_holds sc l f x) (expr_holds sc m g y))
  conv_holds_by sc no_word at h no_nodes c (t, k, is) = known_holds sc.names.terms h t k
  conv_holds_by sc no_word at h (node n ns) c (t, d, ds, k, r, rs, is) =
      all_hold-both (known_asked sc.names.terms h) (conv_asked sc n >> convs_asked sc ns) (known_holds sc.names.terms h t k)
      (all_hold-both (conv_asked sc n) (convs_asked sc ns) (conv_holds sc n d r) (convs_hold sc ns ds rs))
  conv_holds_by sc _ at h _ c r = absurd r

  pub convs_hold : (sc : Scope) (ns : Nodes) (cs : Conversions) → AreConvs sc ns cs → AllHold (convs_asked sc ns)
  convs_hold sc no_nodes cs r = tt
  convs_hold sc (node n ns) cs (d, ds, r, rs, is) = all_hold-both (conv_asked sc n) (convs_asked sc ns) (conv_holds sc n d r) (convs_hold sc ns ds rs)

-- ---- proofs

mutual
  pub proof_holds : (sc : Scope) (hyps lets : List (List ℕ)) (n : Node) (p : Proof) → IsProof sc hyps lets n p → AllHold (proof_asked sc hyps lets n)
  proof_holds sc hyps lets (atom at w) p (h, inl r) = (h, (inl (r.0, r.1), tt))
  proof_holds sc hyps lets (atom at w) p (h, inr r) = (h, (inr (r.1.0, r.1.1), tt))
  proof_holds sc hyps lets (list at no_nodes) p h = absurd h
  proof_holds sc hyps lets (list at (node h ns)) p r = proof_holds_by sc hyps lets (proof_keyword h) at h ns p r

  pub proof_holds_by : (sc : Scope) (hyps lets : List (List ℕ)) (k : Keyword) (at : ℕ) (h : Node) (ns : Nodes) (p : Proof) → IsProofBy sc hyps lets k h ns p
      → AllHold (proof_asked_by sc hyps lets k at h ns)
  proof_holds_by sc hyps lets conv_word at h (node e (node c (node q no_nodes))) p (f, d, s, x, y, z, is) =
      all_hold-both (expr_asked sc e) (conv_asked sc c >> proof_asked sc hyps lets q) (expr_holds sc e f x)
      (all_hold-both (conv_asked sc c) (proof_asked sc hyps lets q) (conv_holds sc c d y) (proof_holds sc hyps lets q s z))
  proof_holds_by sc hyps lets let_word at h (node (list _ _) (node q (node q' no_nodes))) p (w, s, s', n, y, z, is) = absurd n
  proof_holds_by sc hyps lets let_word at h (node (atom i v) (node q (node q' no_nodes))) p (w, s, s', n, y, z, is) =
      all_hold-both (new_asked (hyps ++ lets) (atom i v)) (proof_asked sc hyps lets q >> proof_asked sc hyps (lets ++ v ∷ []) q') (new_holds (hyps ++ lets) (atom i v) w n)
      (all_hold-both (proof_asked sc hyps lets q) (proof_asked sc hyps (lets ++ v ∷ []) q') (proof_holds sc hyps lets q s y)
      (proof_holds sc hyps (lets ++ v ∷ []) q' s' (subst (λ u. IsProof sc hyps (lets ++ u ∷ []) q' s') n.0 z)))
  proof_holds_by sc hyps lets sorry_word at h (node e no_nodes) p (f, may, x, is) = (may, expr_holds sc e f x)
  proof_holds_by sc hyps lets no_word at h (node es ns) p (T, fs, rs, k, e, ps, is) =
      all_hold-both (known_asked sc.names.assertions h) (expr_list_asked sc es >> proofs_asked sc hyps lets ns) (known_holds sc.names.assertions h T k)
      (all_hold-both (expr_list_asked sc es) (proofs_asked sc hyps lets ns) (expr_list_holds sc es fs e) (proofs_hold sc hyps lets ns rs ps))
  proof_holds_by sc hyps lets let_word at h (node x (node q (node q' (node _ _)))) p r = absurd r
  proof_holds_by sc hyps lets _ at h _ p r = absurd r

  pub proofs_hold : (sc : Scope) (hyps lets : List (List ℕ)) (ns : Nodes) (ps : Proofs) → AreProofs sc hyps lets ns ps → AllHold (proofs_asked sc hyps lets ns)
  proofs_hold sc hyps lets no_nodes ps r = tt
  proofs_hold sc hyps lets (node n ns) ps (s, ss, r, rs, is) =
      all_hold-both (proof_asked sc hyps lets n) (proofs_asked sc hyps lets ns) (proof_holds sc hyps lets n s r) (proofs_hold sc hyps lets ns ss rs)

-- ---- what a new name is

pub new_name_is : (xs : List (List ℕ)) (n : Node) (w : List ℕ) → IsNewName xs n w → IsName w × IsNew xs w
new_name_is xs (atom at v) w h = (subst IsName (sym h.0) h.1, subst (IsNew xs) (sym h.0) h.2)
new_name_is xs (list at ns) w h = absurd h

pub dummy_new : (names : Names) (vars : List (List ℕ)) (n : Node) (w : List ℕ) (b : Binder) → IsDummy names vars n w b → IsName w × IsNew vars w
dummy_new names vars (list at (node y (node s no_nodes))) x b h = new_name_is vars y x h.0
dummy_new names vars _ x b h = absurd h

param_name_new : (xs : List (List ℕ)) (n : Node) (w : List ℕ) → IsParamName xs n w → (w ≡ hidden) ⊎ (IsName w × IsNew xs w)
param_name_new xs (atom at v) w (e, inl h) = inl (e ∙ h)
param_name_new xs (atom at v) w (e, inr h) = inr (subst IsName (sym e) h.0, subst (IsNew xs) (sym e) h.1)
param_name_new xs (list at ns) w h = absurd h

pub param_new : (names : Names) (vars : List (List ℕ)) (n : Node) (w : List ℕ) (b : Binder) → IsParam names vars n w b → (w ≡ hidden) ⊎ (IsName w × IsNew vars w)
param_new names vars (list at (node y (node s no_nodes))) x b h = param_name_new vars y x h.0
param_new names vars (list at (node y (node s (node ds no_nodes)))) x b h = param_name_new vars y x h.0
param_new names vars _ x b h = absurd h

-- ---- names in two lists

pub new_name_both : (xs ys : List (List ℕ)) (n : Node) (w : List ℕ) → IsNewName xs n w → IsNew ys w → IsNewName (xs ++ ys) n w
new_name_both xs ys (atom at v) w h k = (h.0, h.1, new-both xs ys v h.2 (subst (IsNew ys) h.0 k))
new_name_both xs ys (list at ns) w h k = absurd h

pub new_name_word : (xs : List (List ℕ)) (n : Node) (w : List ℕ) → IsNewName xs n w → w ≡ word n
new_name_word xs (atom at v) w h = h.0
new_name_word xs (list at ns) w h = absurd h

-- a name that is taken in the first list, or in the second
pub taken_left : (s : Stop) (xs ys : List (List ℕ)) (n : Node) → Stops s (new_asked xs n) → Stops s (new_asked (xs ++ ys) n)
taken_left Mem xs ys n h = tt
taken_left (Refused f) xs ys n (inl h) = inl h
taken_left (Refused f) xs ys n (inr (h, inl k)) = inr (h, inl ((λ new. k.0 (new-parts xs ys (word n) new).0), k.1))
taken_left (Refused f) xs ys n (inr (h, inr k)) = absurd k.1

pub taken_right : (s : Stop) (xs ys : List (List ℕ)) (n : Node) (w : List ℕ) → IsNewName xs n w → (IsNew ys w → ⊥) → s ≡ Refused (fault (place n) U.NameTwice) → Stops s (new_asked (xs ++ ys) n)
taken_right s xs ys (atom at v) w h k is =
    subst (λ t. Stops t (new_asked (xs ++ ys) (atom at v))) (sym is) (inr (h.1, inl ((λ new. k (subst (IsNew ys) (sym h.0) (new-parts xs ys v new).1)), refl)))
taken_right s xs ys (list at ns) w h k is = absurd h

-- ---- there are no more names than nodes

names_few_of : (ns : Nodes) → length (names_of ns) ≤ nodes_size ns
names_few_of no_nodes = omega arith
names_few_of (node n ns) = let h = names_few_of ns in let k = node_size_positive n in omega arith

pub names_few : (m : Node) → length (names_of (parts m)) ≤ node_size m
names_few (atom at w) = omega arith
names_few (list at ns) = let h = names_few_of ns in omega arith
