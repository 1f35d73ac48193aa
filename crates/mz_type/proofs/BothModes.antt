-- Where the proofs of a text have no gap, it is the same text finished and as a draft.
use Rattle.std.proofs.Common.{ℕ, ◌≡◌, Bool, true, false, List, [], ◌∷◌, ◌++◌, All, Option, Some, None, refl, subst}
use Rattle.std.proofs.lemmas.List.Elements.{All-nil, All-cons, All-head, All-tail}
use Rattle.mz_sexpr.specs.Node.{Node, Nodes, atom, list, no_nodes, node}
use Rattle.mz_logic_theory.specs.Tree.{Tree, Trees}
use Rattle.mz_logic_theory.specs.Conversions.{Conversion, Conversions, refl_conv, sym_conv, cong_conv, unfold_conv, gap_conv, no_convs, more_convs, GapsOnly, AllGapsOnly}
use Rattle.mz_logic_theory.specs.Declaration.{Declaration, sort_decl, term_decl, assertion_decl}
use Rattle.mz_logic_theory.specs.declared.binder.Binder.{Binder}
use Rattle.mz_logic_theory.specs.declared.binder.ResultType.{ResultType}
use Rattle.mz_mmu_theory.specs.Name.{Names, Scope, scope_of, no_names, names_with}
use Rattle.mz_mmu_theory.specs.Expressions.{IsExpr, AreExprs, IsExprList, IsParam, IsDummy, AreBinders, AreParams, AreDummies, IsResult}
use Rattle.mz_mmu_theory.specs.Gaps.{LeavesOnly, AllLeaveOnly, SomeLeavesOnly}
use Rattle.mz_mmu_theory.specs.Statements.{HasGapsOnly, Statement, kind_of, is_local_word, IsHyp, AreHyps, AreNamedHyps, IsDeclared, IsLocal, IsMarked, IsStatement, AreStatements}
use Rattle.mz_mmu_theory.specs.Proof.{Proof, Proofs, by_hyp, by_name, by_citation, by_conv, by_let, by_gap, no_proofs, more_proofs}
use Rattle.mz_mmu_theory.specs.declared.keyword.Keyword.{Keyword}
use Rattle.mz_mmu_theory.specs.declared.keyword.Keyword.TheVariants.{Conv as conv_word, Let as let_word, Refl as refl_word, Sym as sym_word, Unfold as unfold_word, Sorry as sorry_word, Other as no_word}
use Rattle.mz_mmu_theory.specs.declared.kind.Kind.{Kind}
use Rattle.mz_mmu_theory.specs.declared.kind.Kind.TheVariants.{Sort as sort_kind, Term as term_kind, Axiom as axiom_kind, Def as def_kind, Theorem as theorem_kind, Other as no_kind}
use Rattle.mz_mmu_theory.specs.Proofs.{conv_keyword, proof_keyword, IsConv, IsConvBy, AreConvs, IsProof, IsProofBy, AreProofs}
use Rattle.mz_mmu_theory.proofs.Offered.{only_drafts, allowed}
use Rattle.mz_mmu_theory.specs.TypeLaws.{ModesAgree}
use Rattle.mz_mmu_theory.specs.Meaning.{IsProvedAsStated, LegalAsStatedAfter}
use Rattle.mz_mmu_theory.specs.TextOf.{TextOf}

abbrev in_mode : Bool → Names → Names
in_mode h names = record names { gaps = h }

abbrev seen_in : Bool → Scope → Scope
seen_in h sc = record { names = in_mode h sc.names; vars = sc.vars }

-- ---- expressions, conversions and proofs

module _ (h : Bool) (sc : Scope) where
  abbrev G : Type 0
  G = h ≡ true

  abbrev sc' : Scope
  sc' = seen_in h sc

  mutual
    expr_as : (n : Node) (e : Tree) → IsExpr sc n e → IsExpr sc' n e
    expr_as (list at (node m ns)) e (t, es, k, r, is) = (t, es, k, exprs_as ns es r, is)
    expr_as _ e r = r

    exprs_as : (ns : Nodes) (es : Trees) → AreExprs sc ns es → AreExprs sc' ns es
    exprs_as no_nodes es r = r
    exprs_as (node n ns) es (f, fs, r, rs, is) = (f, fs, expr_as n f r, exprs_as ns fs rs, is)

  expr_list_as : (n : Node) (es : Trees) → IsExprList sc n es → IsExprList sc' n es
  expr_list_as (atom at w) es r = r
  expr_list_as (list at ns) es r = exprs_as ns es r

  mutual
    conv_as : (n : Node) (c : Conversion) → IsConv sc n c → GapsOnly G c → IsConv sc' n c
    conv_as (atom at w) c (e, r, is) l = (e, expr_as (atom at w) e r, is)
    conv_as (list at no_nodes) c r l = r
    conv_as (list at (node m ns)) c r l = conv_as_by (conv_keyword m) m ns c r l

    conv_as_by : (k : Keyword) (m : Node) (ns : Nodes) (c : Conversion) → IsConvBy sc k m ns c → GapsOnly G c → IsConvBy sc' k m ns c
    conv_as_by refl_word m (node n no_nodes) c (e, r, is) l = (e, expr_as n e r, is)
    conv_as_by sym_word m (node n no_nodes) c (d, r, is) l = (d, conv_as n d r (subst (GapsOnly G) is l), is)
    conv_as_by unfold_word m (node t (node es (node ys (node n no_nodes)))) c (u, fs, zs, d, k, e, v, r, is) l =
        (u, fs, zs, d, k, expr_list_as es fs e, v, conv_as n d r (subst (GapsOnly G) is l), is)
    conv_as_by sorry_word m (node a (node b no_nodes)) c (f, g, may, x, y, is) l = (f, g, subst (GapsOnly G) is l, expr_as a f x, expr_as b g y, is)
    conv_as_by conv_word m ns c r l = absurd r
    conv_as_by let_word m ns c r l = absurd r
    conv_as_by no_word m (node n ns) c (t, d, ds, k, r, rs, is) l =
        let both : GapsOnly G d × AllGapsOnly G ds = subst (GapsOnly G) is l in
        (t, d, ds, k, conv_as n d r both.0, convs_as ns ds rs both.1, is)
    conv_as_by _ m _ c r l = r

    convs_as : (ns : Nodes) (cs : Conversions) → AreConvs sc ns cs → AllGapsOnly G cs → AreConvs sc' ns cs
    convs_as no_nodes cs r l = r
    convs_as (node n ns) cs (d, ds, r, rs, is) l =
        let both : GapsOnly G d × AllGapsOnly G ds = subst (AllGapsOnly G) is l in
        (d, ds, conv_as n d r both.0, convs_as ns ds rs both.1, is)

  module _ (hyps : List (List ℕ)) where
    mutual
      proof_as : (lets : List (List ℕ)) (n : Node) (p : Proof) → IsProof sc hyps lets n p → LeavesOnly G p → IsProof sc' hyps lets n p
      proof_as lets (list at (node m ns)) p r l = proof_as_by lets (proof_keyword m) m ns p r l
      proof_as lets _ p r l = r

      proof_as_by : (lets : List (List ℕ)) (k : Keyword) (m : Node) (ns : Nodes) (p : Proof) → IsProofBy sc hyps lets k m ns p → LeavesOnly G p → IsProofBy sc' hyps lets k m ns p
      proof_as_by lets conv_word m (node e (node c (node q no_nodes))) p (f, d, s, x, y, z, is) l =
          let both : GapsOnly G d × LeavesOnly G s = subst (LeavesOnly G) is l in
          (f, d, s, expr_as e f x, conv_as c d y both.0, proof_as lets q s z both.1, is)
      proof_as_by lets let_word m (node x (node q (node q' no_nodes))) p (w, s, s', n, y, z, is) l =
          let both : LeavesOnly G s × LeavesOnly G s' = subst (LeavesOnly G) is l in
          (w, s, s', n, proof_as lets q s y both.0, proof_as (lets ++ w ∷ []) q' s' z both.1, is)
      proof_as_by lets sorry_word m (node e no_nodes) p (f, may, x, is) l = (f, subst (LeavesOnly G) is l, expr_as e f x, is)
      proof_as_by lets refl_word m ns p r l = absurd r
      proof_as_by lets sym_word m ns p r l = absurd r
      proof_as_by lets unfold_word m ns p r l = absurd r
      proof_as_by lets no_word m (node es ns) p (T, fs, rs, k, e, ps, is) l =
          (T, fs, rs, k, expr_list_as es fs e, proofs_as lets ns rs ps (subst (LeavesOnly G) is l), is)
      proof_as_by lets _ m _ p r l = r

      proofs_as : (lets : List (List ℕ)) (ns : Nodes) (ps : Proofs) → AreProofs sc hyps lets ns ps → AllLeaveOnly G ps → AreProofs sc' hyps lets ns ps
      proofs_as lets no_nodes ps r l = r
      proofs_as lets (node n ns) ps (s, ss, r, rs, is) l =
          let both : LeavesOnly G s × AllLeaveOnly G ss = subst (AllLeaveOnly G) is l in
          (s, ss, proof_as lets n s r both.0, proofs_as lets ns ss rs both.1, is)

  -- ---- hypotheses

  hyp_as : (taken : List (List ℕ)) (n : Node) (w : List ℕ) (f : Tree) → IsHyp sc taken n w f → IsHyp sc' taken n w f
  hyp_as taken (list at (node x (node e no_nodes))) w f (n, r) = (n, expr_as e f r)
  hyp_as taken _ w f r = r

  hyps_as : (taken : List (List ℕ)) (ns : Nodes) (es : Trees) (after : List (List ℕ)) → AreHyps sc taken ns es after → AreHyps sc' taken ns es after
  hyps_as taken no_nodes es after r = r
  hyps_as taken (node n ns) es after (w, f, fs, r, rs, is) = (w, f, fs, hyp_as taken n w f r, hyps_as (taken ++ w ∷ []) ns fs after rs, is)

  named_hyps_as : (n : Node) (es : Trees) (after : List (List ℕ)) → AreNamedHyps sc n es after → AreNamedHyps sc' n es after
  named_hyps_as (atom at w) es after r = r
  named_hyps_as (list at ns) es after r = hyps_as [] ns es after r

-- ---- binders

module _ (Is Is' : List (List ℕ) → Node → List ℕ → Binder → Type 0) (one : (vars : List (List ℕ)) (n : Node) (w : List ℕ) (b : Binder) → Is vars n w b → Is' vars n w b) where
  binders_as : (vars : List (List ℕ)) (ns : Nodes) (bs : List Binder) (after : List (List ℕ)) → AreBinders Is vars ns bs after → AreBinders Is' vars ns bs after
  binders_as vars no_nodes bs after r = r
  binders_as vars (node n ns) bs after (x, c, cs, r, rs, is) = (x, c, cs, one vars n x c r, binders_as (vars ++ x ∷ []) ns cs after rs, is)

module _ (h : Bool) (names : Names) where
  abbrev names' : Names
  names' = in_mode h names

  param_as : (vars : List (List ℕ)) (n : Node) (w : List ℕ) (b : Binder) → IsParam names vars n w b → IsParam names' vars n w b
  param_as vars (list at (node x (node s (node ds no_nodes)))) w b r = r
  param_as vars _ w b r = r

  dummy_as : (vars : List (List ℕ)) (n : Node) (w : List ℕ) (b : Binder) → IsDummy names vars n w b → IsDummy names' vars n w b
  dummy_as vars (list at (node x (node s no_nodes))) w b r = r
  dummy_as vars _ w b r = r

  params_as : (n : Node) (bs : List Binder) (after : List (List ℕ)) → AreParams names n bs after → AreParams names' n bs after
  params_as (atom at w) bs after r = r
  params_as (list at ns) bs after r = binders_as (IsParam names) (IsParam names') param_as [] ns bs after r

  dummies_as : (vars : List (List ℕ)) (n : Node) (bs : List Binder) (after : List (List ℕ)) → AreDummies names vars n bs after → AreDummies names' vars n bs after
  dummies_as vars (atom at w) bs after r = r
  dummies_as vars (list at ns) bs after r = binders_as (IsDummy names) (IsDummy names') dummy_as vars ns bs after r

  result_as : (vars : List (List ℕ)) (n : Node) (t : ResultType) → IsResult names vars n t → IsResult names' vars n t
  result_as vars (list at (node s (node ds no_nodes))) t r = r
  result_as vars _ t r = r

  -- ---- statements

  abbrev In : Statement → Type 0
  In s = HasGapsOnly (h ≡ true) s

  declared_as : (k : Kind) (ns : Nodes) (s : Statement) → IsDeclared names k ns s → In s → IsDeclared names' k ns s
  declared_as term_kind (node x (node ps (node t no_nodes))) s (params, vars, result, n, p, q, e, i, j) l =
      (params, vars, result, n, params_as ps params vars p, result_as vars t result q, e, i, j)
  declared_as axiom_kind (node x (node ps (node hs (node c no_nodes)))) s (params, vars, hyps, conclusion, n, p, q, r, e, i, j) l =
      (params, vars, hyps, conclusion, n, params_as ps params vars p, expr_list_as h (scope_of names vars) hs hyps q, expr_as h (scope_of names vars) c conclusion r, e, i, j)
  declared_as def_kind (node x (node ps (node t (node ds (node b no_nodes))))) s (params, vars, result, dummies, all, body, n, p, q, d, f, e, i, j) l =
      (params, vars, result, dummies, all, body, n, params_as ps params vars p, result_as vars t result q, dummies_as vars ds dummies all d, expr_as h (scope_of names all) b body f, e, i, j)
  declared_as theorem_kind (node x (node ps (node hs (node c (node ds (node q no_nodes)))))) s (params, vars, hyps, labels, conclusion, all, proof, n, p, k, f, d, r, e, j) l = (
    params,
    vars,
    hyps,
    labels,
    conclusion,
    all,
    proof,
    n,
    params_as ps params vars p,
    named_hyps_as h (scope_of names vars) hs hyps labels k,
    expr_as h (scope_of names vars) c conclusion f,
    dummies_as vars ds s.dummies all d,
    proof_as h (scope_of names all) labels [] q proof r (subst (SomeLeavesOnly (h ≡ true)) j l),
    e,
    j,
  )
  declared_as sort_kind no_nodes s r l = r
  declared_as _ _ s r l = r

  local_as : (k : Kind) (ns : Nodes) (s : Statement) → IsLocal names k ns s → In s → IsLocal names' k ns s
  local_as def_kind ns s r l = declared_as def_kind ns s r l
  local_as theorem_kind ns s r l = declared_as theorem_kind ns s r l
  local_as _ ns s r l = r

  marked_as : (b : Bool) (k : Node) (ns : Nodes) (s : Statement) → IsMarked b names k ns s → In s → IsMarked b names' k ns s
  marked_as false k ns s (mark, r) l = (mark, declared_as (kind_of k) ns s r l)
  marked_as true k no_nodes s r l = r
  marked_as true k (node m ns) s (mark, r) l = (mark, local_as (kind_of m) ns s r l)

  statement_as : (n : Node) (s : Statement) → IsStatement names n s → In s → IsStatement names' n s
  statement_as (list at (node k ns)) s r l = marked_as (is_local_word k) k ns s r l
  statement_as _ s r l = r

mode_stays : (h : Bool) (names : Names) (w : List ℕ) (d : Declaration) → in_mode h (names_with names w d) ≡ names_with (in_mode h names) w d
mode_stays h names w (sort_decl m) = refl
mode_stays h names w _ = refl

statements_as : (h : Bool) (names : Names) (ns : Nodes) (ss : List Statement) → AreStatements names ns ss → All (HasGapsOnly (h ≡ true)) ss → AreStatements (in_mode h names) ns ss
statements_as h names no_nodes ss r l = r
statements_as h names (node n ns) ss (s, rest, r, rs, is) l =
    let all : All (HasGapsOnly (h ≡ true)) (s ∷ rest) = subst (All (HasGapsOnly (h ≡ true))) is l in
    let later = statements_as h (names_with names s.name s.decl) ns rest rs (All-tail (HasGapsOnly (h ≡ true)) s rest all) in
    (s, rest, statement_as h names n s r (All-head (HasGapsOnly (h ≡ true)) s rest all), subst (λ x. AreStatements x ns rest) (mode_stays h names s.name s.decl) later, is)

-- ---- what the proofs mean

proved_as : (g h : Bool) (env : List Declaration) (d : Declaration) (ds : List Binder) (q : Option Proof) → SomeLeavesOnly (h ≡ true) q → IsProvedAsStated g env d ds q → IsProvedAsStated h env d ds q
proved_as g h env (assertion_decl a) ds q l r = λ thm.
    let k = r thm in
    let p : Proof = k.1.0 in
    (k.0, (p, k.1.1, (k.1.2.0, k.1.2.1, allowed h env p (subst (SomeLeavesOnly (h ≡ true)) k.1.1 l))))
proved_as g h env _ ds q l r = tt

legal_as : (g h : Bool) (env : List Declaration) (ss : List Statement) → All (HasGapsOnly (h ≡ true)) ss → LegalAsStatedAfter g env ss → LegalAsStatedAfter h env ss
legal_as g h env [] l r = tt
legal_as g h env (s ∷ ss) l ((legal, mark, proof), r) = (
  (legal, mark, proved_as g h env s.decl s.dummies s.proof (All-head (HasGapsOnly (h ≡ true)) s ss l) proof),
  legal_as g h (env ++ s.decl ∷ []) ss (All-tail (HasGapsOnly (h ≡ true)) s ss l) r,
)

-- ---- where gaps stand

module _ (F G : Type 0) (f : F → G) where
  mutual
    conv_leaves : (c : Conversion) → GapsOnly F c → GapsOnly G c
    conv_leaves (refl_conv e) l = tt
    conv_leaves (sym_conv c) l = conv_leaves c l
    conv_leaves (cong_conv t cs) l = convs_leave cs l
    conv_leaves (unfold_conv t es ys c) l = conv_leaves c l
    conv_leaves (gap_conv a b) l = f l

    convs_leave : (cs : Conversions) → AllGapsOnly F cs → AllGapsOnly G cs
    convs_leave no_convs l = tt
    convs_leave (more_convs c cs) l = (conv_leaves c l.0, convs_leave cs l.1)

  mutual
    proof_leaves : (p : Proof) → LeavesOnly F p → LeavesOnly G p
    proof_leaves (by_citation T es ps) l = proofs_leave ps l
    proof_leaves (by_conv e c p) l = (conv_leaves c l.0, proof_leaves p l.1)
    proof_leaves (by_let p q) l = (proof_leaves p l.0, proof_leaves q l.1)
    proof_leaves (by_gap e) l = f l
    proof_leaves _ l = tt

    proofs_leave : (ps : Proofs) → AllLeaveOnly F ps → AllLeaveOnly G ps
    proofs_leave no_proofs l = tt
    proofs_leave (more_proofs p ps) l = (proof_leaves p l.0, proofs_leave ps l.1)

  some_leave : (q : Option Proof) → SomeLeavesOnly F q → SomeLeavesOnly G q
  some_leave None l = tt
  some_leave (Some p) l = proof_leaves p l

  statements_leave : (ss : List Statement) → All (HasGapsOnly F) ss → All (HasGapsOnly G) ss
  statements_leave [] l = All-nil (HasGapsOnly G)
  statements_leave (s ∷ ss) l = All-cons (HasGapsOnly G) s ss (some_leave s.proof (All-head (HasGapsOnly F) s ss l)) (statements_leave ss (All-tail (HasGapsOnly F) s ss l))

-- ---- whole texts

text_as : (text : List ℕ) (g h : Bool) (ss : List Statement) → All (HasGapsOnly (h ≡ true)) ss → TextOf g text ss → TextOf h text ss
text_as text g h ss l ((ns, (spells, read)), legal) = ((ns, (spells, statements_as h (no_names g) ns ss read l)), legal_as g h [] ss l legal)

finished : (text : List ℕ) (ss : List Statement) → TextOf false text ss → TextOf true text ss
finished text ss ((ns, (spells, read)), legal) =
    text_as text false true ss (statements_leave (false ≡ true) (true ≡ true) (λ is. refl) ss (only_drafts (no_names false) ns ss read)) ((ns, (spells, read)), legal)

pub modes_agree : (text : List ℕ) → ModesAgree text
modes_agree text = record {
  finished_is_draft = finished text;
  draft_is_finished = λ ss l typed. text_as text true false ss (statements_leave ⊥ (false ≡ true) (λ no. absurd no) ss l) typed;
}
