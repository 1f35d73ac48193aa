-- Where all that is asked of a text's nodes holds, they are a list of statements.
use Rattle.std.proofs.Common.{ℕ, suc, ◌≡◌, Bool, true, false, List, [], ◌∷◌, ◌++◌, Some, None, refl, ap, subst, append_assoc, append-nil}
use Rattle.std.specs.Prelude.{unwrap_or}
use Rattle.mz_base.specs.Checks.{◌>>◌, retold, AllHold}
use Rattle.mz_base.proofs.Offered.{all_hold-first, all_hold-rest, retold-held}
use Rattle.mz_sexpr.specs.Node.{Node, Nodes, atom, list, no_nodes, node, word, parts}
use Rattle.mz_logic_theory.specs.Tree.{Tree, Trees, none, more}
use Rattle.mz_logic_theory.specs.Declaration.{sort_decl, term_decl, assertion_decl, plain_form, defined}
use Rattle.mz_logic_theory.specs.declared.binder.Binder.{Binder}
use Rattle.mz_logic_theory.specs.declared.binder.ResultType.{ResultType}
use Rattle.mz_mmu_theory.specs.Name.{Names, Scope, IsNewName, scope_of, names_with}
use Rattle.mz_mmu_theory.specs.Expressions.{IsExpr, AreParams, AreDummies, IsResult}
use Rattle.mz_mmu_theory.specs.Proof.{Proof}
use Rattle.mz_mmu_theory.specs.Statements.{Statement, kind_of, is_local_word, Modifiers, no_modifiers, modifier_bits, with_modifier, AreModifiers, IsHyp, AreHyps, AreNamedHyps, IsDeclared, IsLocal, IsMarked, IsStatement, AreStatements}
use Rattle.mz_mmu_theory.specs.Proofs.{IsProof}
use Rattle.mz_mmu_theory.specs.declared.kind.Kind.{Kind}
use Rattle.mz_mmu_theory.specs.declared.kind.Kind.TheVariants.{Sort as sort_kind, Term as term_kind, Axiom as axiom_kind, Def as def_kind, Theorem as theorem_kind, Other as no_kind}
use Rattle.mz_mmu_theory.specs.FormOrder.{new_asked, expr_asked, expr_list_asked, first_word, names_of, binders_asked, params_asked, dummies_asked, result_asked, proof_asked}
use Rattle.mz_mmu_theory.specs.StatementOrder.{modifiers_asked, hyp_asked, hyps_asked, declared_asked, local_asked, marked_asked, statement_asked, in_statement, names_after, statements_asked}
use Rattle.mz_mmu_theory.proofs.Declaring.{statement_says}
use Rattle.mz_mmu_theory.proofs.Found.{new_found, expr_found, expr_list_found, params_found, dummies_found, result_found, proof_found}

-- ---- modifiers and hypotheses

modifiers_found : (m : Modifiers) (ns : Nodes) → AllHold (modifiers_asked m ns) → (k : Modifiers) × AreModifiers m ns k
modifiers_found m no_nodes a = (m, refl)
modifiers_found m (node (atom at w) ns) (next, later) =
    let same : unwrap_or (with_modifier m w) m ≡ next.0 = ap (λ o. unwrap_or o m) next.1 in
    let k = modifiers_found next.0 ns (subst (λ x. AllHold (modifiers_asked x ns)) same later) in
    (k.0, (next.0, next.1, k.1))
modifiers_found m (node (list at _) ns) (next, later) = absurd (let f : None ≡ Some next.0 = next.1 in cc)

hyp_found : (sc : Scope) (taken : List (List ℕ)) (n : Node) → AllHold (hyp_asked sc taken n) → (e : Tree) × IsHyp sc taken n (first_word (parts n)) e
hyp_found sc taken (list at (node x (node e no_nodes))) a =
    let f = expr_found sc e (all_hold-rest (new_asked taken x) (expr_asked sc e) a) in
    (f.0, (new_found taken x (all_hold-first (new_asked taken x) (expr_asked sc e) a), f.1))
hyp_found sc taken _ a = absurd a.0

hyps_found_from : (sc : Scope) (taken : List (List ℕ)) (ns : Nodes) → AllHold (binders_asked (hyp_asked sc) taken ns) → (es : Trees) × AreHyps sc taken ns es (taken ++ names_of ns)
hyps_found_from sc taken no_nodes a = (none, (refl, append-nil taken))
hyps_found_from sc taken (node n ns) a =
    let w = first_word (parts n) in
    let f = hyp_found sc taken n (all_hold-first (hyp_asked sc taken n) (binders_asked (hyp_asked sc) (taken ++ w ∷ []) ns) a) in
    let fs = hyps_found_from sc (taken ++ w ∷ []) ns (all_hold-rest (hyp_asked sc taken n) (binders_asked (hyp_asked sc) (taken ++ w ∷ []) ns) a) in
    (more f.0 fs.0, (w, f.0, fs.0, f.1, subst (AreHyps sc (taken ++ w ∷ []) ns fs.0) (append_assoc taken (w ∷ []) (names_of ns)) fs.1, refl))

hyps_found : (sc : Scope) (n : Node) → AllHold (hyps_asked sc n) → (es : Trees) × AreNamedHyps sc n es (names_of (parts n))
hyps_found sc (atom at w) a = absurd a.0
hyps_found sc (list at ns) a = hyps_found_from sc [] ns a

-- ---- statements, with this visibility

abbrev Found : Bool → (Statement → Type 0) → Type 0
Found mark Is = (s : Statement) × Is s × (s.is_local ≡ mark)

-- a definition and a theorem by their parts
def_stated : (mark : Bool) (names : Names) (x ps r ds e : Node) (params : List Binder) (vars : List (List ℕ)) (result : ResultType) (dummies : List Binder) (all : List (List ℕ)) (body : Tree)
    → IsNewName names.terms x (word x) → AreParams names ps params vars → IsResult names vars r result → AreDummies names vars ds dummies all → IsExpr (scope_of names all) e body
    → Found mark (IsDeclared names def_kind (node x (node ps (node r (node ds (node e no_nodes))))))
def_stated mark names x ps r ds e params vars result dummies all body n p q d b =
    let s : Statement = record {
      is_local = mark;
      name = word x;
      decl = term_decl (record { signature = record { params = params; result = result }; form = defined dummies body });
      dummies = [];
      proof = None;
    } in
    (s, (params, vars, result, dummies, all, body, n, p, q, d, b, refl, refl, refl), refl)

theorem_stated : (mark : Bool) (names : Names) (x ps hs e ds q : Node) (params : List Binder) (vars : List (List ℕ)) (hyps : Trees) (labels : List (List ℕ)) (conclusion : Tree)
    (dummies : List Binder) (all : List (List ℕ)) (proof : Proof) → IsNewName names.assertions x (word x) → AreParams names ps params vars
    → AreNamedHyps (scope_of names vars) hs hyps labels → IsExpr (scope_of names vars) e conclusion → AreDummies names vars ds dummies all → IsProof (scope_of names all) labels [] q proof
    → Found mark (IsDeclared names theorem_kind (node x (node ps (node hs (node e (node ds (node q no_nodes)))))))
theorem_stated mark names x ps hs e ds q params vars hyps labels conclusion dummies all proof n p h c d r =
    let s : Statement = record {
      is_local = mark;
      name = word x;
      decl = assertion_decl (record { is_axiom = false; params = params; hyps = hyps; conclusion = conclusion });
      dummies = dummies;
      proof = Some proof;
    } in
    (s, (params, vars, hyps, labels, conclusion, all, proof, n, p, h, c, d, r, refl, refl), refl)

declared_found : (mark : Bool) (k : Kind) (at : ℕ) (names : Names) (ns : Nodes) → AllHold (declared_asked k at names ns) → Found mark (IsDeclared names k ns)
declared_found mark sort_kind at names (node x ms) a =
    let m = modifiers_found no_modifiers ms (all_hold-rest (new_asked names.sorts x) (modifiers_asked no_modifiers ms) a) in
    let s : Statement = record { is_local = mark; name = word x; decl = sort_decl (record { 0 = modifier_bits m.0 }); dummies = []; proof = None } in
    (s, (m.0, new_found names.sorts x (all_hold-first (new_asked names.sorts x) (modifiers_asked no_modifiers ms) a), m.1, refl, refl, refl), refl)
declared_found mark term_kind at names (node x (node ps (node r no_nodes))) a =
    let V = names_of (parts ps) in
    let X = new_asked names.terms x in
    let P = params_asked names ps in
    let R = result_asked names V r in
    let later = all_hold-rest X (P >> R) a in
    let params = params_found names ps (all_hold-first P R later) in
    let result = result_found names V r (all_hold-rest P R later) in
    let s : Statement = record {
      is_local = mark;
      name = word x;
      decl = term_decl (record { signature = record { params = params.0; result = result.0 }; form = plain_form });
      dummies = [];
      proof = None;
    } in
    (s, (params.0, V, result.0, new_found names.terms x (all_hold-first X (P >> R) a), params.1, result.1, refl, refl, refl), refl)
declared_found mark axiom_kind at names (node x (node ps (node hs (node e no_nodes)))) a =
    let V = names_of (parts ps) in
    let sc = scope_of names V in
    let X = new_asked names.assertions x in
    let P = params_asked names ps in
    let H = expr_list_asked sc hs in
    let C = expr_asked sc e in
    let behind = all_hold-rest X (P >> H >> C) a in
    let later = all_hold-rest P (H >> C) behind in
    let params = params_found names ps (all_hold-first P (H >> C) behind) in
    let hyps = expr_list_found sc hs (all_hold-first H C later) in
    let conclusion = expr_found sc e (all_hold-rest H C later) in
    let s : Statement = record {
      is_local = mark;
      name = word x;
      decl = assertion_decl (record { is_axiom = true; params = params.0; hyps = hyps.0; conclusion = conclusion.0 });
      dummies = [];
      proof = None;
    } in
    (s, (params.0, V, hyps.0, conclusion.0, new_found names.assertions x (all_hold-first X (P >> H >> C) a), params.1, hyps.1, conclusion.1, refl, refl, refl), refl)
declared_found mark def_kind at names (node x (node ps (node r (node ds (node e no_nodes))))) a =
    let V = names_of (parts ps) in
    let all = V ++ names_of (parts ds) in
    let X = new_asked names.terms x in
    let P = params_asked names ps in
    let R = result_asked names V r in
    let D = dummies_asked names V ds in
    let B = expr_asked (scope_of names all) e in
    let from_params = all_hold-rest X (P >> R >> D >> B) a in
    let from_result = all_hold-rest P (R >> D >> B) from_params in
    let from_dummies = all_hold-rest R (D >> B) from_result in
    let params = params_found names ps (all_hold-first P (R >> D >> B) from_params) in
    let result = result_found names V r (all_hold-first R (D >> B) from_result) in
    let dummies = dummies_found names V ds (all_hold-first D B from_dummies) in
    let body = expr_found (scope_of names all) e (all_hold-rest D B from_dummies) in
    def_stated mark names x ps r ds e params.0 V result.0 dummies.0 all body.0
    (new_found names.terms x (all_hold-first X (P >> R >> D >> B) a)) params.1 result.1 dummies.1 body.1
declared_found mark theorem_kind at names (node x (node ps (node hs (node e (node ds (node q no_nodes)))))) a =
    let V = names_of (parts ps) in
    let labels = names_of (parts hs) in
    let all = V ++ names_of (parts ds) in
    let sc = scope_of names V in
    let X = new_asked names.assertions x in
    let P = params_asked names ps in
    let H = hyps_asked sc hs in
    let C = expr_asked sc e in
    let D = dummies_asked names V ds in
    let Q = proof_asked (scope_of names all) labels [] q in
    let from_params = all_hold-rest X (P >> H >> C >> D >> Q) a in
    let from_hyps = all_hold-rest P (H >> C >> D >> Q) from_params in
    let from_conclusion = all_hold-rest H (C >> D >> Q) from_hyps in
    let from_dummies = all_hold-rest C (D >> Q) from_conclusion in
    let params = params_found names ps (all_hold-first P (H >> C >> D >> Q) from_params) in
    let hyps = hyps_found sc hs (all_hold-first H (C >> D >> Q) from_hyps) in
    let conclusion = expr_found sc e (all_hold-first C (D >> Q) from_conclusion) in
    let dummies = dummies_found names V ds (all_hold-first D Q from_dummies) in
    let proof = proof_found (scope_of names all) labels [] q (all_hold-rest D Q from_dummies) in
    theorem_stated mark names x ps hs e ds q params.0 V hyps.0 labels conclusion.0 dummies.0 all proof.0
    (new_found names.assertions x (all_hold-first X (P >> H >> C >> D >> Q) a)) params.1 hyps.1 conclusion.1 dummies.1 proof.1
declared_found mark _ at names _ a = absurd a.0

local_found : (k : Kind) (at : ℕ) (names : Names) (ns : Nodes) → AllHold (local_asked k at names ns) → Found true (IsLocal names k ns)
local_found def_kind at names ns a = declared_found true def_kind at names ns a
local_found theorem_kind at names ns a = declared_found true theorem_kind at names ns a
local_found _ at names ns a = absurd a.0

marked_found : (b : Bool) (at : ℕ) (names : Names) (k : Node) (ns : Nodes) → AllHold (marked_asked b at names k ns) → (s : Statement) × IsMarked b names k ns s
marked_found false at names k ns a = let s = declared_found false (kind_of k) at names ns a in (s.0, (s.2, s.1))
marked_found true at names k no_nodes a = absurd a.0
marked_found true at names k (node k' ns) a = let s = local_found (kind_of k') at names ns a in (s.0, (s.2, s.1))

statement_found : (names : Names) (n : Node) → AllHold (statement_asked names n) → (s : Statement) × IsStatement names n s
statement_found names (list at (node k ns)) a = marked_found (is_local_word k) at names k ns a
statement_found names _ a = absurd a.0

-- ---- the whole text

pub statements_found : (k : ℕ) (names : Names) (ns : Nodes) → AllHold (statements_asked k names ns) → (ss : List Statement) × AreStatements names ns ss
statements_found k names no_nodes a = ([], refl)
statements_found k names (node n ns) a =
    let first = retold (in_statement k) (statement_asked names n) in
    let later = statements_asked (suc k) (names_after names n) ns in
    let s = statement_found names n (retold-held (in_statement k) (statement_asked names n) (all_hold-first first later a)) in
    let after = (statement_says names n s.0 s.1).1 in
    let ss = statements_found (suc k) (names_with names s.0.name s.0.decl) ns (subst (λ x. AllHold (statements_asked (suc k) x ns)) after (all_hold-rest first later a)) in
    (s.0 ∷ ss.0, (s.0, ss.0, s.1, ss.1, refl))
