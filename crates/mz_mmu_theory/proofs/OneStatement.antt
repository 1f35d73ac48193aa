-- A node is at most one statement, and nodes are at most one list of statements.
use Rattle.std.proofs.Common.{ℕ, ◌≡◌, Bool, true, false, List, [], ◌∷◌, ◌++◌, Some, sym, ap, ◌∙◌, subst}
use Rattle.mz_sexpr.specs.Node.{Node, Nodes, atom, list, no_nodes, node}
use Rattle.mz_logic_theory.specs.Tree.{Tree, Trees, more}
use Rattle.mz_logic_theory.specs.Declaration.{sort_decl, term_decl, assertion_decl, plain_form, defined}
use Rattle.mz_logic_theory.specs.declared.binder.Binder.{Binder}
use Rattle.mz_logic_theory.specs.declared.binder.ResultType.{ResultType}
use Rattle.mz_mmu_theory.specs.Name.{Names, Scope, scope_of, names_with}
use Rattle.mz_mmu_theory.specs.Expressions.{IsExpr, IsExprList, AreDummies, IsResult}
use Rattle.mz_mmu_theory.specs.Statements.{Statement, kind_of, is_local_word, Modifiers, no_modifiers, modifier_bits, with_modifier, AreModifiers, IsHyp, AreHyps, AreNamedHyps, IsDeclared, IsLocal, IsMarked, IsStatement, AreStatements}
use Rattle.mz_mmu_theory.specs.Proofs.{IsProof}
use Rattle.mz_mmu_theory.specs.declared.kind.Kind.{Kind}
use Rattle.mz_mmu_theory.specs.declared.kind.Kind.TheVariants.{Sort as sort_kind, Term as term_kind, Axiom as axiom_kind, Def as def_kind, Theorem as theorem_kind, Other as no_kind}
use Rattle.mz_mmu_theory.proofs.OneReading.{some_once, new_name_once, expr_once, expr_list_once, params_once, dummies_once, result_once, proof_once}

-- ---- modifiers and hypotheses

modifiers_once : (m : Modifiers) (ns : Nodes) (k l : Modifiers) → AreModifiers m ns k → AreModifiers m ns l → k ≡ l
modifiers_once m no_nodes k l h h' = h ∙ sym h'
modifiers_once m (node (atom at w) ns) k l (next, is, r) (next', is', r') =
    modifiers_once next ns k l r (subst (λ x. AreModifiers x ns l) (some_once (with_modifier m w) next' next is' is) r')
modifiers_once m (node (list at _) ns) k l h h' = absurd h

hyp_once : (sc : Scope) (taken : List (List ℕ)) (n : Node) (v w : List ℕ) (e f : Tree) → IsHyp sc taken n v e → IsHyp sc taken n w f → (v ≡ w) × (e ≡ f)
hyp_once sc taken (list at (node x (node g no_nodes))) v w e f h k = (new_name_once taken x v w h.0 k.0, expr_once sc g e f h.1 k.1)
hyp_once sc taken _ v w e f h k = absurd h

hyps_once_from : (sc : Scope) (taken : List (List ℕ)) (ns : Nodes) (es fs : Trees) (after after' : List (List ℕ)) → AreHyps sc taken ns es after → AreHyps sc taken ns fs after'
    → (es ≡ fs) × (after ≡ after')
hyps_once_from sc taken no_nodes es fs after after' h k = (h.0 ∙ sym k.0, h.1 ∙ sym k.1)
hyps_once_from sc taken (node n ns) es fs after after' (v, e, es', h, hs, is) (w, f, fs', k, ks, is') =
    let same = hyp_once sc taken n v w e f h k in
    let later = hyps_once_from sc (taken ++ v ∷ []) ns es' fs' after after' hs (subst (λ u. AreHyps sc (taken ++ u ∷ []) ns fs' after') (sym same.0) ks) in
    (is ∙ ap (λ x. more x es') same.1 ∙ ap (more f) later.0 ∙ sym is', later.1)

hyps_once : (sc : Scope) (n : Node) (es fs : Trees) (after after' : List (List ℕ)) → AreNamedHyps sc n es after → AreNamedHyps sc n fs after' → (es ≡ fs) × (after ≡ after')
hyps_once sc (atom at w) es fs after after' h k = absurd h
hyps_once sc (list at ns) es fs after after' h k = hyps_once_from sc [] ns es fs after after' h k

-- ---- statements

-- all but the visibility
record Alike (s t : Statement) : Type 0 where
  name : s.name ≡ t.name
  decl : s.decl ≡ t.decl
  dummies : s.dummies ≡ t.dummies
  proof : s.proof ≡ t.proof

statement_is : (s t : Statement) → s.is_local ≡ t.is_local → Alike s t → s ≡ t
statement_is s t mark a =
    ap (λ x. record s { is_local = x }) mark
    ∙ ap (λ x. record s { is_local = t.is_local; name = x }) a.name
    ∙ ap (λ x. record t { decl = x; dummies = s.dummies; proof = s.proof }) a.decl
    ∙ ap (λ x. record t { dummies = x; proof = s.proof }) a.dummies
    ∙ ap (λ x. record t { proof = x }) a.proof

term_is : (params params' : List Binder) (result result' : ResultType) → params ≡ params' → result ≡ result'
    → term_decl (record { signature = record { params = params; result = result }; form = plain_form }) ≡ term_decl (record { signature = record { params = params'; result = result' }; form = plain_form })
term_is params params' result result' p r =
    ap (λ x. term_decl (record { signature = record { params = x; result = result }; form = plain_form })) p
    ∙ ap (λ x. term_decl (record { signature = record { params = params'; result = x }; form = plain_form })) r

def_is : (params params' : List Binder) (result result' : ResultType) (dummies dummies' : List Binder) (body body' : Tree) → params ≡ params' → result ≡ result' → dummies ≡ dummies' → body ≡ body'
    → term_decl (record { signature = record { params = params; result = result }; form = defined dummies body })
    ≡ term_decl (record { signature = record { params = params'; result = result' }; form = defined dummies' body' })
def_is params params' result result' dummies dummies' body body' p r d b =
    ap (λ x. term_decl (record { signature = record { params = x; result = result }; form = defined dummies body })) p
    ∙ ap (λ x. term_decl (record { signature = record { params = params'; result = x }; form = defined dummies body })) r
    ∙ ap (λ x. term_decl (record { signature = record { params = params'; result = result' }; form = defined x body })) d
    ∙ ap (λ x. term_decl (record { signature = record { params = params'; result = result' }; form = defined dummies' x })) b

assertion_is : (ax : Bool) (params params' : List Binder) (hyps hyps' : Trees) (conclusion conclusion' : Tree) → params ≡ params' → hyps ≡ hyps' → conclusion ≡ conclusion'
    → assertion_decl (record { is_axiom = ax; params = params; hyps = hyps; conclusion = conclusion })
    ≡ assertion_decl (record { is_axiom = ax; params = params'; hyps = hyps'; conclusion = conclusion' })
assertion_is ax params params' hyps hyps' conclusion conclusion' p h c =
    ap (λ x. assertion_decl (record { is_axiom = ax; params = x; hyps = hyps; conclusion = conclusion })) p
    ∙ ap (λ x. assertion_decl (record { is_axiom = ax; params = params'; hyps = x; conclusion = conclusion })) h
    ∙ ap (λ x. assertion_decl (record { is_axiom = ax; params = params'; hyps = hyps'; conclusion = x })) c

declared_once : (names : Names) (k : Kind) (ns : Nodes) (s t : Statement) → IsDeclared names k ns s → IsDeclared names k ns t → Alike s t
declared_once names sort_kind no_nodes s t h h' = absurd h
declared_once names sort_kind (node x ms) s t (m, n, r, e, i, j) (m', n', r', e', i', j') = record {
  name = new_name_once names.sorts x s.name t.name n n';
  decl = e ∙ ap (λ y. sort_decl (record { 0 = modifier_bits y })) (modifiers_once no_modifiers ms m m' r r') ∙ sym e';
  dummies = i ∙ sym i';
  proof = j ∙ sym j';
}
declared_once names term_kind no_nodes s t h h' = absurd h
declared_once names term_kind (node x no_nodes) s t h h' = absurd h
declared_once names term_kind (node x (node ps no_nodes)) s t h h' = absurd h
declared_once names term_kind (node x (node ps (node r no_nodes))) s t (params, vars, result, n, p, q, e, i, j) (params', vars', result', n', p', q', e', i', j') =
    let same = params_once names ps params params' vars vars' p p' in
    record {
      name = new_name_once names.terms x s.name t.name n n';
      decl = e ∙ term_is params params' result result' same.0 (result_once names vars r result result' q (subst (λ vs. IsResult names vs r result') (sym same.1) q')) ∙ sym e';
      dummies = i ∙ sym i';
      proof = j ∙ sym j';
    }
declared_once names term_kind (node x (node ps (node r (node _ _)))) s t h h' = absurd h
declared_once names axiom_kind no_nodes s t h h' = absurd h
declared_once names axiom_kind (node x no_nodes) s t h h' = absurd h
declared_once names axiom_kind (node x (node ps no_nodes)) s t h h' = absurd h
declared_once names axiom_kind (node x (node ps (node hs no_nodes))) s t h h' = absurd h
declared_once names axiom_kind (node x (node ps (node hs (node c no_nodes)))) s t (params, vars, hyps, conclusion, n, p, q, r, e, i, j) (params', vars', hyps', conclusion', n', p', q', r', e', i', j') =
    let same = params_once names ps params params' vars vars' p p' in
    record {
      name = new_name_once names.assertions x s.name t.name n n';
      decl =
          e ∙ assertion_is true params params' hyps hyps' conclusion conclusion' same.0
          (expr_list_once (scope_of names vars) hs hyps hyps' q (subst (λ vs. IsExprList (scope_of names vs) hs hyps') (sym same.1) q'))
          (expr_once (scope_of names vars) c conclusion conclusion' r (subst (λ vs. IsExpr (scope_of names vs) c conclusion') (sym same.1) r')) ∙ sym e';
      dummies = i ∙ sym i';
      proof = j ∙ sym j';
    }
declared_once names axiom_kind (node x (node ps (node hs (node c (node _ _))))) s t h h' = absurd h
declared_once names def_kind no_nodes s t h h' = absurd h
declared_once names def_kind (node x no_nodes) s t h h' = absurd h
declared_once names def_kind (node x (node ps no_nodes)) s t h h' = absurd h
declared_once names def_kind (node x (node ps (node r no_nodes))) s t h h' = absurd h
declared_once names def_kind (node x (node ps (node r (node ds no_nodes)))) s t h h' = absurd h
declared_once names def_kind (node x (node ps (node r (node ds (node b no_nodes))))) s t
    (params, vars, result, dummies, all, body, n, p, q, d, f, e, i, j) (params', vars', result', dummies', all', body', n', p', q', d', f', e', i', j') =
    let same = params_once names ps params params' vars vars' p p' in
    let dummied = dummies_once names vars ds dummies dummies' all all' d (subst (λ vs. AreDummies names vs ds dummies' all') (sym same.1) d') in
    record {
      name = new_name_once names.terms x s.name t.name n n';
      decl =
          e ∙ def_is params params' result result' dummies dummies' body body' same.0 (result_once names vars r result result' q (subst (λ vs. IsResult names vs r result') (sym same.1) q')) dummied.0
          (expr_once (scope_of names all) b body body' f (subst (λ vs. IsExpr (scope_of names vs) b body') (sym dummied.1) f')) ∙ sym e';
      dummies = i ∙ sym i';
      proof = j ∙ sym j';
    }
declared_once names def_kind (node x (node ps (node r (node ds (node b (node _ _)))))) s t h h' = absurd h
declared_once names theorem_kind no_nodes s t h h' = absurd h
declared_once names theorem_kind (node x no_nodes) s t h h' = absurd h
declared_once names theorem_kind (node x (node ps no_nodes)) s t h h' = absurd h
declared_once names theorem_kind (node x (node ps (node hs no_nodes))) s t h h' = absurd h
declared_once names theorem_kind (node x (node ps (node hs (node c no_nodes)))) s t h h' = absurd h
declared_once names theorem_kind (node x (node ps (node hs (node c (node ds no_nodes))))) s t h h' = absurd h
declared_once names theorem_kind (node x (node ps (node hs (node c (node ds (node q no_nodes)))))) s t
    (params, vars, hyps, labels, conclusion, all, proof, n, p, h, f, d, r, e, j) (params', vars', hyps', labels', conclusion', all', proof', n', p', h', f', d', r', e', j') =
    let same = params_once names ps params params' vars vars' p p' in
    let named = hyps_once (scope_of names vars) hs hyps hyps' labels labels' h (subst (λ vs. AreNamedHyps (scope_of names vs) hs hyps' labels') (sym same.1) h') in
    let dummied = dummies_once names vars ds s.dummies t.dummies all all' d (subst (λ vs. AreDummies names vs ds t.dummies all') (sym same.1) d') in
    record {
      name = new_name_once names.assertions x s.name t.name n n';
      decl =
          e ∙ assertion_is false params params' hyps hyps' conclusion conclusion' same.0 named.0
          (expr_once (scope_of names vars) c conclusion conclusion' f (subst (λ vs. IsExpr (scope_of names vs) c conclusion') (sym same.1) f')) ∙ sym e';
      dummies = dummied.0;
      proof =
          j ∙ ap Some (proof_once (scope_of names all) labels [] q proof proof' r
          (subst (λ vs. IsProof (scope_of names vs) labels [] q proof') (sym dummied.1) (subst (λ ls. IsProof (scope_of names all') ls [] q proof') (sym named.1) r'))) ∙ sym j';
    }
declared_once names theorem_kind (node x (node ps (node hs (node c (node ds (node q (node _ _))))))) s t h h' = absurd h
declared_once names no_kind ns s t h h' = absurd h

local_once : (names : Names) (k : Kind) (ns : Nodes) (s t : Statement) → IsLocal names k ns s → IsLocal names k ns t → Alike s t
local_once names def_kind ns s t h h' = declared_once names def_kind ns s t h h'
local_once names theorem_kind ns s t h h' = declared_once names theorem_kind ns s t h h'
local_once names _ ns s t h h' = absurd h

marked_once : (b : Bool) (names : Names) (k : Node) (ns : Nodes) (s t : Statement) → IsMarked b names k ns s → IsMarked b names k ns t → s ≡ t
marked_once false names k ns s t h h' = statement_is s t (h.0 ∙ sym h'.0) (declared_once names (kind_of k) ns s t h.1 h'.1)
marked_once true names k no_nodes s t h h' = absurd h
marked_once true names k (node l ns) s t h h' = statement_is s t (h.0 ∙ sym h'.0) (local_once names (kind_of l) ns s t h.1 h'.1)

statement_once : (names : Names) (n : Node) (s t : Statement) → IsStatement names n s → IsStatement names n t → s ≡ t
statement_once names (list at (node k ns)) s t h h' = marked_once (is_local_word k) names k ns s t h h'
statement_once names _ s t h h' = absurd h

pub statements_once : (names : Names) (ns : Nodes) (ss ts : List Statement) → AreStatements names ns ss → AreStatements names ns ts → ss ≡ ts
statements_once names no_nodes ss ts h h' = h ∙ sym h'
statements_once names (node n ns) ss ts (s, ss', h, hs, is) (t, ts', h', hs', is') =
    let same = statement_once names n s t h h' in
    let later = statements_once (names_with names s.name s.decl) ns ss' ts' hs (subst (λ u. AreStatements (names_with names u.name u.decl) ns ts') (sym same) hs') in
    is ∙ ap (λ u. u ∷ ss') same ∙ ap (λ us. t ∷ us) later ∙ sym is'
