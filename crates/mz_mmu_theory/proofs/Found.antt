-- Where all that is asked of a node holds, it is an expression, a list of variables, a binder, a
-- conversion, a proof.
use Rattle.std.proofs.Common.{ℕ, ◌≡◌, ◌⊎◌, inl, inr, true, false, List, [], ◌∷◌, ◌++◌, Option, Some, None, refl, sym, ◌∙◌, subst, append_assoc, append-nil}
use Rattle.mz_base.specs.Checks.{Checks, ◌>>◌, AllHold}
use Rattle.mz_base.proofs.Offered.{all_hold-first, all_hold-rest}
use Rattle.mz_sexpr.specs.Node.{Node, Nodes, atom, list, no_nodes, node, word, parts}
use Rattle.mz_logic_theory.specs.Tree.{Tree, Trees, var, app, none, more}
use Rattle.mz_logic_theory.specs.Conversions.{Conversion, Conversions, refl_conv, sym_conv, cong_conv, unfold_conv, gap_conv, no_convs, more_convs}
use Rattle.mz_logic_theory.specs.declared.binder.Binder.{Binder}
use Rattle.mz_logic_theory.specs.declared.binder.ResultType.{ResultType}
use Rattle.mz_mmu_theory.specs.declared.fault.Fault.{Fault}
use Rattle.mz_base.specs.Names.{number_of, IsNew, IsKnown}
use Rattle.mz_mmu_theory.specs.Name.{Names, Scope, hidden, IsName, HasNumber, IsNewName, IsParamName}
use Rattle.mz_mmu_theory.specs.Expressions.{IsVariable, IsConstant, IsExpr, AreExprs, IsExprList, AreVariables, IsVariableList, AreDeps, IsParam, IsDummy, AreBinders, AreParams, AreDummies, IsResult}
use Rattle.mz_mmu_theory.specs.Proof.{Proof, Proofs, by_hyp, by_name, by_citation, by_conv, by_let, by_gap, no_proofs, more_proofs}
use Rattle.mz_mmu_theory.specs.declared.keyword.Keyword.{Keyword}
use Rattle.mz_mmu_theory.specs.declared.keyword.Keyword.TheVariants.{Conv as conv_word, Let as let_word, Refl as refl_word, Sym as sym_word, Unfold as unfold_word, Sorry as sorry_word, Other as no_word}
use Rattle.mz_mmu_theory.specs.Proofs.{conv_keyword, proof_keyword, IsConv, IsConvBy, AreConvs, IsFact, IsProof, IsProofBy, AreProofs}
use Rattle.mz_mmu_theory.specs.FormOrder.{known_asked, new_asked, param_name_asked, expr_asked, exprs_asked, expr_list_asked, variables_asked, variable_list_asked, param_asked, dummy_asked, names_of, first_word, binders_asked, params_asked, dummies_asked, result_asked, conv_asked, conv_asked_by, convs_asked, proof_asked, proof_asked_by, proofs_asked}
use Rattle.mz_mmu_theory.proofs.Ascending.{ascending_found}

-- ---- names

no_name : IsName [] → ⊥
no_name h = let f : false ≡ true = h in cc

pub known_found : (xs : List (List ℕ)) (n : Node) → AllHold (known_asked xs n) → (i : ℕ) × HasNumber xs n i
known_found xs (atom at w) a = (a.1.0.0, (a.0, a.1.0.1))
known_found xs (list at ns) a = absurd (no_name a.0)

pub new_found : (xs : List (List ℕ)) (n : Node) → AllHold (new_asked xs n) → IsNewName xs n (word n)
new_found xs (atom at w) a = (refl, a.0, a.1.0)
new_found xs (list at ns) a = absurd (no_name a.0)

either_name : (xs : List (List ℕ)) (w : List ℕ) → (w ≡ hidden) ⊎ IsName w → (w ≡ hidden) ⊎ IsNew xs w → (w ≡ hidden) ⊎ (IsName w × IsNew xs w)
either_name xs w (inl h) k = inl h
either_name xs w (inr h) (inl k) = inl k
either_name xs w (inr h) (inr k) = inr (h, k)

no_word_named : ([] ≡ hidden) ⊎ IsName [] → ⊥
no_word_named (inl h) = cc
no_word_named (inr h) = no_name h

param_name_found : (xs : List (List ℕ)) (n : Node) → AllHold (param_name_asked xs n) → IsParamName xs n (word n)
param_name_found xs (atom at w) a = (refl, either_name xs w a.0 a.1.0)
param_name_found xs (list at ns) a = absurd (no_word_named a.0)

-- a name is new or known
number_cases : (xs : List (List ℕ)) (w : List ℕ) → IsNew xs w ⊎ IsKnown xs w
number_cases xs w = go (number_of xs w) refl
  where
    go : (o : Option ℕ) → number_of xs w ≡ o → IsNew xs w ⊎ IsKnown xs w
    go None is = inl is
    go (Some i) is = inr (i, is)

-- ---- expressions

variable_or_constant : (sc : Scope) (w : List ℕ) → IsNew sc.vars w ⊎ IsKnown sc.vars w → IsKnown sc.vars w ⊎ IsKnown sc.names.constants w
    → (e : Tree) × (IsVariable sc w e ⊎ IsConstant sc w e)
variable_or_constant sc w (inr k) h = (var k.0, inl (k.0, k.1, refl))
variable_or_constant sc w (inl new) (inl k) = absurd (let f : None ≡ Some k.0 = sym new ∙ k.1 in cc)
variable_or_constant sc w (inl new) (inr k) = (app k.0 none, inr (new, (k.0, k.1, refl)))

mutual
  pub expr_found : (sc : Scope) (n : Node) → AllHold (expr_asked sc n) → (e : Tree) × IsExpr sc n e
  expr_found sc (atom at w) a = let r = variable_or_constant sc w (number_cases sc.vars w) a.1.0 in (r.0, (a.0, r.1))
  expr_found sc (list at no_nodes) a = absurd a.0
  expr_found sc (list at (node h ns)) a =
      let t = known_found sc.names.terms h (all_hold-first (known_asked sc.names.terms h) (exprs_asked sc ns) a) in
      let es = exprs_found sc ns (all_hold-rest (known_asked sc.names.terms h) (exprs_asked sc ns) a) in
      (app t.0 es.0, (t.0, es.0, t.1, es.1, refl))

  pub exprs_found : (sc : Scope) (ns : Nodes) → AllHold (exprs_asked sc ns) → (es : Trees) × AreExprs sc ns es
  exprs_found sc no_nodes a = (none, refl)
  exprs_found sc (node n ns) a =
      let e = expr_found sc n (all_hold-first (expr_asked sc n) (exprs_asked sc ns) a) in
      let es = exprs_found sc ns (all_hold-rest (expr_asked sc n) (exprs_asked sc ns) a) in
      (more e.0 es.0, (e.0, es.0, e.1, es.1, refl))

pub expr_list_found : (sc : Scope) (n : Node) → AllHold (expr_list_asked sc n) → (es : Trees) × IsExprList sc n es
expr_list_found sc (atom at w) a = absurd a.0
expr_list_found sc (list at ns) a = exprs_found sc ns a

-- ---- variables and binders

variables_found : (vars : List (List ℕ)) (ns : Nodes) → AllHold (variables_asked vars ns) → (xs : List ℕ) × AreVariables vars ns xs
variables_found vars no_nodes a = ([], refl)
variables_found vars (node n ns) a =
    let x = known_found vars n (all_hold-first (known_asked vars n) (variables_asked vars ns) a) in
    let xs = variables_found vars ns (all_hold-rest (known_asked vars n) (variables_asked vars ns) a) in
    (x.0 ∷ xs.0, (x.0, xs.0, x.1, xs.1, refl))

variable_list_found : (vars : List (List ℕ)) (n : Node) → AllHold (variable_list_asked vars n) → (xs : List ℕ) × IsVariableList vars n xs
variable_list_found vars (atom at w) a = absurd a.0
variable_list_found vars (list at ns) a = variables_found vars ns a

deps_found : (vars : List (List ℕ)) (n : Node) → AllHold (variable_list_asked vars n) → (deps : List ℕ) × AreDeps vars n deps
deps_found vars n a =
    let xs = variable_list_found vars n a in
    let deps = ascending_found xs.0 in
    (deps.0, (xs.0, xs.1, deps.1))

param_found : (names : Names) (vars : List (List ℕ)) (n : Node) → AllHold (param_asked names vars n) → (b : Binder) × IsParam names vars n (first_word (parts n)) b
param_found names vars (list at (node x (node s no_nodes))) a =
    let k = known_found names.sorts s (all_hold-rest (param_name_asked vars x) (known_asked names.sorts s) a) in
    (record { sort = k.0; bound = true; deps = [] }, (param_name_found vars x (all_hold-first (param_name_asked vars x) (known_asked names.sorts s) a), k.1, refl, refl))
param_found names vars (list at (node x (node s (node ds no_nodes)))) a =
    let K = known_asked names.sorts s in
    let D = variable_list_asked vars ds in
    let later = all_hold-rest (param_name_asked vars x) (K >> D) a in
    let k = known_found names.sorts s (all_hold-first K D later) in
    let deps = deps_found vars ds (all_hold-rest K D later) in
    (record { sort = k.0; bound = false; deps = deps.0 }, (param_name_found vars x (all_hold-first (param_name_asked vars x) (K >> D) a), k.1, refl, deps.1))
param_found names vars _ a = absurd a.0

dummy_found : (names : Names) (vars : List (List ℕ)) (n : Node) → AllHold (dummy_asked names vars n) → (b : Binder) × IsDummy names vars n (first_word (parts n)) b
dummy_found names vars (list at (node x (node s no_nodes))) a =
    let k = known_found names.sorts s (all_hold-rest (new_asked vars x) (known_asked names.sorts s) a) in
    (record { sort = k.0; bound = true; deps = [] }, (new_found vars x (all_hold-first (new_asked vars x) (known_asked names.sorts s) a), k.1, refl, refl))
dummy_found names vars _ a = absurd a.0

module _ (Is : List (List ℕ) → Node → List ℕ → Binder → Type 0) (asked : List (List ℕ) → Node → Checks Fault)
    (found : (vars : List (List ℕ)) (n : Node) → AllHold (asked vars n) → (b : Binder) × Is vars n (first_word (parts n)) b) where
  binders_found : (vars : List (List ℕ)) (ns : Nodes) → AllHold (binders_asked asked vars ns) → (bs : List Binder) × AreBinders Is vars ns bs (vars ++ names_of ns)
  binders_found vars no_nodes a = ([], (refl, append-nil vars))
  binders_found vars (node n ns) a =
      let w = first_word (parts n) in
      let b = found vars n (all_hold-first (asked vars n) (binders_asked asked (vars ++ w ∷ []) ns) a) in
      let bs = binders_found (vars ++ w ∷ []) ns (all_hold-rest (asked vars n) (binders_asked asked (vars ++ w ∷ []) ns) a) in
      (b.0 ∷ bs.0, (w, b.0, bs.0, b.1, subst (AreBinders Is (vars ++ w ∷ []) ns bs.0) (append_assoc vars (w ∷ []) (names_of ns)) bs.1, refl))

pub params_found : (names : Names) (n : Node) → AllHold (params_asked names n) → (bs : List Binder) × AreParams names n bs (names_of (parts n))
params_found names (atom at w) a = absurd a.0
params_found names (list at ns) a = binders_found (IsParam names) (param_asked names) (param_found names) [] ns a

pub dummies_found : (names : Names) (vars : List (List ℕ)) (n : Node) → AllHold (dummies_asked names vars n)
    → (bs : List Binder) × AreDummies names vars n bs (vars ++ names_of (parts n))
dummies_found names vars (atom at w) a = absurd a.0
dummies_found names vars (list at ns) a = binders_found (IsDummy names) (dummy_asked names) (dummy_found names) vars ns a

pub result_found : (names : Names) (vars : List (List ℕ)) (n : Node) → AllHold (result_asked names vars n) → (r : ResultType) × IsResult names vars n r
result_found names vars (list at (node s (node ds no_nodes))) a =
    let K = known_asked names.sorts s in
    let D = variable_list_asked vars ds in
    let k = known_found names.sorts s (all_hold-first K D a) in
    let deps = deps_found vars ds (all_hold-rest K D a) in
    (record { sort = k.0; deps = deps.0 }, (k.1, deps.1))
result_found names vars _ a = absurd a.0

-- ---- conversions

module _ (sc : Scope) where
  mutual
    pub conv_found : (n : Node) → AllHold (conv_asked sc n) → (c : Conversion) × IsConv sc n c
    conv_found (atom at w) a = let e = expr_found sc (atom at w) a in (refl_conv e.0, (e.0, e.1, refl))
    conv_found (list at no_nodes) a = absurd a.0
    conv_found (list at (node h ns)) a = conv_found_by (conv_keyword h) at h ns a

    conv_found_by : (k : Keyword) (at : ℕ) (h : Node) (ns : Nodes) → AllHold (conv_asked_by sc k at h ns) → (c : Conversion) × IsConvBy sc k h ns c
    conv_found_by refl_word at h (node n no_nodes) a = let e = expr_found sc n a in (refl_conv e.0, (e.0, e.1, refl))
    conv_found_by sym_word at h (node n no_nodes) a = let c = conv_found n a in (sym_conv c.0, (c.0, c.1, refl))
    conv_found_by unfold_word at h (node t (node es (node ys (node n no_nodes)))) a =
        let T = known_asked sc.names.terms t in
        let E = expr_list_asked sc es in
        let Y = variable_list_asked sc.vars ys in
        let C = conv_asked sc n in
        let behind = all_hold-rest T (E >> Y >> C) a in
        let later = all_hold-rest E (Y >> C) behind in
        let u = known_found sc.names.terms t (all_hold-first T (E >> Y >> C) a) in
        let fs = expr_list_found sc es (all_hold-first E (Y >> C) behind) in
        let zs = variable_list_found sc.vars ys (all_hold-first Y C later) in
        let c = conv_found n (all_hold-rest Y C later) in
        (unfold_conv u.0 fs.0 zs.0 c.0, (u.0, fs.0, zs.0, c.0, u.1, fs.1, zs.1, c.1, refl))
    conv_found_by sorry_word at h (node l (node r no_nodes)) (may, a) =
        let f = expr_found sc l (all_hold-first (expr_asked sc l) (expr_asked sc r) a) in
        let g = expr_found sc r (all_hold-rest (expr_asked sc l) (expr_asked sc r) a) in
        (gap_conv f.0 g.0, (f.0, g.0, may, f.1, g.1, refl))
    conv_found_by no_word at h no_nodes a = let t = known_found sc.names.terms h a in (cong_conv t.0 no_convs, (t.0, t.1, refl))
    conv_found_by no_word at h (node n ns) a =
        let T = known_asked sc.names.terms h in
        let later = all_hold-rest T (conv_asked sc n >> convs_asked sc ns) a in
        let t = known_found sc.names.terms h (all_hold-first T (conv_asked sc n >> convs_asked sc ns) a) in
        let c = conv_found n (all_hold-first (conv_asked sc n) (convs_asked sc ns) later) in
        let cs = convs_found ns (all_hold-rest (conv_asked sc n) (convs_asked sc ns) later) in
        (cong_conv t.0 (more_convs c.0 cs.0), (t.0, c.0, cs.0, t.1, c.1, cs.1, refl))
    conv_found_by sorry_word at h _ a = absurd a.1.0
    conv_found_by _ at h _ a = absurd a.0

    convs_found : (ns : Nodes) → AllHold (convs_asked sc ns) → (cs : Conversions) × AreConvs sc ns cs
    convs_found no_nodes a = (no_convs, refl)
    convs_found (node n ns) a =
        let c = conv_found n (all_hold-first (conv_asked sc n) (convs_asked sc ns) a) in
        let cs = convs_found ns (all_hold-rest (conv_asked sc n) (convs_asked sc ns) a) in
        (more_convs c.0 cs.0, (c.0, cs.0, c.1, cs.1, refl))

-- ---- proofs

fact_found : (hyps lets : List (List ℕ)) (w : List ℕ) → IsNew hyps w ⊎ IsKnown hyps w → IsKnown hyps w ⊎ IsKnown lets w → (p : Proof) × IsFact hyps lets w p
fact_found hyps lets w (inr k) h = (by_hyp k.0, inl (k.0, k.1, refl))
fact_found hyps lets w (inl new) (inl k) = absurd (let f : None ≡ Some k.0 = sym new ∙ k.1 in cc)
fact_found hyps lets w (inl new) (inr k) = (by_name k.0, inr (new, (k.0, k.1, refl)))

module _ (sc : Scope) (hyps : List (List ℕ)) where
  mutual
    pub proof_found : (lets : List (List ℕ)) (n : Node) → AllHold (proof_asked sc hyps lets n) → (p : Proof) × IsProof sc hyps lets n p
    proof_found lets (atom at w) a = let p = fact_found hyps lets w (number_cases hyps w) a.1.0 in (p.0, (a.0, p.1))
    proof_found lets (list at no_nodes) a = absurd a.0
    proof_found lets (list at (node h ns)) a = proof_found_by lets (proof_keyword h) at h ns a

    proof_found_by : (lets : List (List ℕ)) (k : Keyword) (at : ℕ) (h : Node) (ns : Nodes) → AllHold (proof_asked_by sc hyps lets k at h ns)
        → (p : Proof) × IsProofBy sc hyps lets k h ns p
    proof_found_by lets conv_word at h (node e (node c (node q no_nodes))) a =
        let E = expr_asked sc e in
        let C = conv_asked sc c in
        let Q = proof_asked sc hyps lets q in
        let later = all_hold-rest E (C >> Q) a in
        let f = expr_found sc e (all_hold-first E (C >> Q) a) in
        let d = conv_found sc c (all_hold-first C Q later) in
        let r = proof_found lets q (all_hold-rest C Q later) in
        (by_conv f.0 d.0 r.0, (f.0, d.0, r.0, f.1, d.1, r.1, refl))
    proof_found_by lets let_word at h (node x (node q (node q' no_nodes))) a =
        let X = new_asked (hyps ++ lets) x in
        let P = proof_asked sc hyps lets q in
        let Q = proof_asked sc hyps (lets ++ word x ∷ []) q' in
        let later = all_hold-rest X (P >> Q) a in
        let r = proof_found lets q (all_hold-first P Q later) in
        let r' = proof_found (lets ++ word x ∷ []) q' (all_hold-rest P Q later) in
        (by_let r.0 r'.0, (word x, r.0, r'.0, new_found (hyps ++ lets) x (all_hold-first X (P >> Q) a), r.1, r'.1, refl))
    proof_found_by lets sorry_word at h (node e no_nodes) (may, a) = let f = expr_found sc e a in (by_gap f.0, (f.0, may, f.1, refl))
    proof_found_by lets no_word at h (node es ns) a =
        let T = known_asked sc.names.assertions h in
        let E = expr_list_asked sc es in
        let Q = proofs_asked sc hyps lets ns in
        let later = all_hold-rest T (E >> Q) a in
        let t = known_found sc.names.assertions h (all_hold-first T (E >> Q) a) in
        let fs = expr_list_found sc es (all_hold-first E Q later) in
        let rs = proofs_found lets ns (all_hold-rest E Q later) in
        (by_citation t.0 fs.0 rs.0, (t.0, fs.0, rs.0, t.1, fs.1, rs.1, refl))
    proof_found_by lets sorry_word at h _ a = absurd a.1.0
    proof_found_by lets _ at h _ a = absurd a.0

    proofs_found : (lets : List (List ℕ)) (ns : Nodes) → AllHold (proofs_asked sc hyps lets ns) → (ps : Proofs) × AreProofs sc hyps lets ns ps
    proofs_found lets no_nodes a = (no_proofs, refl)
    proofs_found lets (node n ns) a =
        let p = proof_found lets n (all_hold-first (proof_asked sc hyps lets n) (proofs_asked sc hyps lets ns) a) in
        let ps = proofs_found lets ns (all_hold-rest (proof_asked sc hyps lets n) (proofs_asked sc hyps lets ns) a) in
        (more_proofs p.0 ps.0, (p.0, ps.0, p.1, ps.1, refl))
