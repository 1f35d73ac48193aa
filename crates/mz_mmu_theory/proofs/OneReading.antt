-- A node is at most one expression, list of variables, binder, conversion, proof.
use Rattle.std.proofs.Common.{ℕ, ◌≡◌, ◌⊎◌, inl, inr, List, [], ◌∷◌, ◌++◌, Option, Some, None, sym, ap, ◌∙◌, subst}
use Rattle.std.specs.Prelude.{unwrap_or}
use Rattle.mz_sexpr.specs.Node.{Node, Nodes, atom, list, no_nodes, node}
use Rattle.mz_logic_theory.specs.Tree.{Tree, Trees, var, app, none, more}
use Rattle.mz_logic_theory.specs.Conversions.{Conversion, Conversions, refl_conv, sym_conv, cong_conv, unfold_conv, gap_conv, no_convs, more_convs}
use Rattle.mz_logic_theory.specs.declared.binder.Binder.{Binder}
use Rattle.mz_logic_theory.specs.declared.binder.ResultType.{ResultType}
use Rattle.mz_base.specs.Names.{number_of, IsNew}
use Rattle.mz_mmu_theory.specs.Name.{Names, Scope, HasNumber, IsNewName, IsParamName}
use Rattle.mz_mmu_theory.specs.Expressions.{IsVariable, IsConstant, IsExpr, AreExprs, IsExprList, AreVariables, IsVariableList, IsAscending, AreDeps, IsParam, IsDummy, AreBinders, AreParams, AreDummies, IsResult}
use Rattle.mz_mmu_theory.specs.Proof.{Proof, Proofs, by_hyp, by_name, by_citation, by_conv, by_let, by_gap, more_proofs}
use Rattle.mz_mmu_theory.specs.declared.keyword.Keyword.{Keyword}
use Rattle.mz_mmu_theory.specs.declared.keyword.Keyword.TheVariants.{Conv as conv_word, Let as let_word, Refl as refl_word, Sym as sym_word, Unfold as unfold_word, Sorry as sorry_word, Other as no_word}
use Rattle.mz_mmu_theory.specs.Proofs.{conv_keyword, proof_keyword, IsConv, IsConvBy, AreConvs, IsFact, IsProof, IsProofBy, AreProofs}
use Rattle.mz_mmu_theory.proofs.Ascending.{ascending_once}

-- ---- names

pub some_once : {A : Type 0} (o : Option A) (a b : A) → o ≡ Some a → o ≡ Some b → a ≡ b
some_once o a b p q = ap (λ x. unwrap_or x a) (sym p ∙ q)

new_or_known : (xs : List (List ℕ)) (w : List ℕ) (i : ℕ) → IsNew xs w → number_of xs w ≡ Some i → ⊥
new_or_known xs w i new known = let f : None ≡ Some i = sym new ∙ known in cc

pub number_once : (xs : List (List ℕ)) (n : Node) (i j : ℕ) → HasNumber xs n i → HasNumber xs n j → i ≡ j
number_once xs (atom at w) i j h k = some_once (number_of xs w) i j h.1 k.1
number_once xs (list at ns) i j h k = absurd h

pub new_name_once : (xs : List (List ℕ)) (n : Node) (v w : List ℕ) → IsNewName xs n v → IsNewName xs n w → v ≡ w
new_name_once xs (atom at u) v w h k = h.0 ∙ sym k.0
new_name_once xs (list at ns) v w h k = absurd h

param_name_once : (xs : List (List ℕ)) (n : Node) (v w : List ℕ) → IsParamName xs n v → IsParamName xs n w → v ≡ w
param_name_once xs (atom at u) v w h k = h.0 ∙ sym k.0
param_name_once xs (list at ns) v w h k = absurd h

-- ---- expressions

atom_once : (sc : Scope) (w : List ℕ) (e f : Tree) → IsVariable sc w e ⊎ IsConstant sc w e → IsVariable sc w f ⊎ IsConstant sc w f → e ≡ f
atom_once sc w e f (inl (x, h, is)) (inl (y, k, is')) = is ∙ ap var (some_once (number_of sc.vars w) x y h k) ∙ sym is'
atom_once sc w e f (inl (x, h, is)) (inr k) = absurd (new_or_known sc.vars w x k.0 h)
atom_once sc w e f (inr h) (inl (x, k, is)) = absurd (new_or_known sc.vars w x h.0 k)
atom_once sc w e f (inr h) (inr k) = h.1.2 ∙ ap (λ t. app t none) (some_once (number_of sc.names.constants w) h.1.0 k.1.0 h.1.1 k.1.1) ∙ sym k.1.2

mutual
  pub expr_once : (sc : Scope) (n : Node) (e f : Tree) → IsExpr sc n e → IsExpr sc n f → e ≡ f
  expr_once sc (atom at w) e f h k = atom_once sc w e f h.1 k.1
  expr_once sc (list at no_nodes) e f h k = absurd h
  expr_once sc (list at (node n ns)) e f (t, es, h, hs, is) (u, fs, k, ks, is') =
      is ∙ ap (λ x. app x es) (number_once sc.names.terms n t u h k) ∙ ap (app u) (exprs_once sc ns es fs hs ks) ∙ sym is'

  pub exprs_once : (sc : Scope) (ns : Nodes) (es fs : Trees) → AreExprs sc ns es → AreExprs sc ns fs → es ≡ fs
  exprs_once sc no_nodes es fs h k = h ∙ sym k
  exprs_once sc (node n ns) es fs (e, es', h, hs, is) (f, fs', k, ks, is') =
      is ∙ ap (λ x. more x es') (expr_once sc n e f h k) ∙ ap (more f) (exprs_once sc ns es' fs' hs ks) ∙ sym is'

pub expr_list_once : (sc : Scope) (n : Node) (es fs : Trees) → IsExprList sc n es → IsExprList sc n fs → es ≡ fs
expr_list_once sc (atom at w) es fs h k = absurd h
expr_list_once sc (list at ns) es fs h k = exprs_once sc ns es fs h k

-- ---- variables and binders

variables_once : (vars : List (List ℕ)) (ns : Nodes) (xs ys : List ℕ) → AreVariables vars ns xs → AreVariables vars ns ys → xs ≡ ys
variables_once vars no_nodes xs ys h k = h ∙ sym k
variables_once vars (node n ns) xs ys (x, xs', h, hs, is) (y, ys', k, ks, is') =
    is ∙ ap (λ z. z ∷ xs') (number_once vars n x y h k) ∙ ap (λ zs. y ∷ zs) (variables_once vars ns xs' ys' hs ks) ∙ sym is'

variable_list_once : (vars : List (List ℕ)) (n : Node) (xs ys : List ℕ) → IsVariableList vars n xs → IsVariableList vars n ys → xs ≡ ys
variable_list_once vars (atom at w) xs ys h k = absurd h
variable_list_once vars (list at ns) xs ys h k = variables_once vars ns xs ys h k

deps_once : (vars : List (List ℕ)) (n : Node) (xs ys : List ℕ) → AreDeps vars n xs → AreDeps vars n ys → xs ≡ ys
deps_once vars n xs ys (zs, h, rise) (zs', k, rise') =
    ascending_once zs xs ys rise (subst (λ u. IsAscending u ys) (variable_list_once vars n zs' zs k h) rise')

binder_is : (b c : Binder) → b.sort ≡ c.sort → b.bound ≡ c.bound → b.deps ≡ c.deps → b ≡ c
binder_is b c sorts bounds deps =
    ap (λ s. record b { sort = s }) sorts ∙ ap (λ x. record b { sort = c.sort; bound = x }) bounds ∙ ap (λ xs. record c { deps = xs }) deps

param_once : (names : Names) (vars : List (List ℕ)) (n : Node) (v w : List ℕ) (b c : Binder) → IsParam names vars n v b → IsParam names vars n w c → (v ≡ w) × (b ≡ c)
param_once names vars (list at (node x (node s no_nodes))) v w b c (x1, s1, b1, d1) (x2, s2, b2, d2) =
    (param_name_once vars x v w x1 x2, binder_is b c (number_once names.sorts s b.sort c.sort s1 s2) (b1 ∙ sym b2) (d1 ∙ sym d2))
param_once names vars (list at (node x (node s (node ds no_nodes)))) v w b c (x1, s1, b1, d1) (x2, s2, b2, d2) =
    (param_name_once vars x v w x1 x2, binder_is b c (number_once names.sorts s b.sort c.sort s1 s2) (b1 ∙ sym b2) (deps_once vars ds b.deps c.deps d1 d2))
param_once names vars _ v w b c h k = absurd h

dummy_once : (names : Names) (vars : List (List ℕ)) (n : Node) (v w : List ℕ) (b c : Binder) → IsDummy names vars n v b → IsDummy names vars n w c → (v ≡ w) × (b ≡ c)
dummy_once names vars (list at (node x (node s no_nodes))) v w b c (x1, s1, b1, d1) (x2, s2, b2, d2) =
    (new_name_once vars x v w x1 x2, binder_is b c (number_once names.sorts s b.sort c.sort s1 s2) (b1 ∙ sym b2) (d1 ∙ sym d2))
dummy_once names vars _ v w b c h k = absurd h

module _ (Is : List (List ℕ) → Node → List ℕ → Binder → Type 0)
    (once : (vars : List (List ℕ)) (n : Node) (v w : List ℕ) (b c : Binder) → Is vars n v b → Is vars n w c → (v ≡ w) × (b ≡ c)) where
  binders_once : (vars : List (List ℕ)) (ns : Nodes) (bs cs : List Binder) (after after' : List (List ℕ)) → AreBinders Is vars ns bs after → AreBinders Is vars ns cs after'
      → (bs ≡ cs) × (after ≡ after')
  binders_once vars no_nodes bs cs after after' h k = (h.0 ∙ sym k.0, h.1 ∙ sym k.1)
  binders_once vars (node n ns) bs cs after after' (v, b, bs', h, hs, is) (w, c, cs', k, ks, is') =
      let same = once vars n v w b c h k in
      let later = binders_once (vars ++ v ∷ []) ns bs' cs' after after' hs (subst (λ u. AreBinders Is (vars ++ u ∷ []) ns cs' after') (sym same.0) ks) in
      (is ∙ ap (λ x. x ∷ bs') same.1 ∙ ap (λ xs. c ∷ xs) later.0 ∙ sym is', later.1)

pub params_once : (names : Names) (n : Node) (bs cs : List Binder) (after after' : List (List ℕ)) → AreParams names n bs after → AreParams names n cs after' → (bs ≡ cs) × (after ≡ after')
params_once names (atom at w) bs cs after after' h k = absurd h
params_once names (list at ns) bs cs after after' h k = binders_once (IsParam names) (param_once names) [] ns bs cs after after' h k

pub dummies_once : (names : Names) (vars : List (List ℕ)) (n : Node) (bs cs : List Binder) (after after' : List (List ℕ)) → AreDummies names vars n bs after
    → AreDummies names vars n cs after' → (bs ≡ cs) × (after ≡ after')
dummies_once names vars (atom at w) bs cs after after' h k = absurd h
dummies_once names vars (list at ns) bs cs after after' h k = binders_once (IsDummy names) (dummy_once names) vars ns bs cs after after' h k

pub result_once : (names : Names) (vars : List (List ℕ)) (n : Node) (q r : ResultType) → IsResult names vars n q → IsResult names vars n r → q ≡ r
result_once names vars (list at (node s (node ds no_nodes))) q r (s1, d1) (s2, d2) =
    ap (λ s. record q { sort = s }) (number_once names.sorts s q.sort r.sort s1 s2) ∙ ap (λ xs. record r { deps = xs }) (deps_once vars ds q.deps r.deps d1 d2)
result_once names vars _ q r h k = absurd h

-- ---- conversions

module _ (sc : Scope) where
  mutual
    pub conv_once : (n : Node) (c d : Conversion) → IsConv sc n c → IsConv sc n d → c ≡ d
    conv_once (atom at w) c d (e, h, is) (f, k, is') = is ∙ ap refl_conv (expr_once sc (atom at w) e f h k) ∙ sym is'
    conv_once (list at no_nodes) c d h k = absurd h
    conv_once (list at (node m ns)) c d h k = conv_once_by (conv_keyword m) m ns c d h k

    conv_once_by : (key : Keyword) (m : Node) (ns : Nodes) (c d : Conversion) → IsConvBy sc key m ns c → IsConvBy sc key m ns d → c ≡ d
    conv_once_by refl_word m (node n no_nodes) c d (e, h, is) (f, k, is') = is ∙ ap refl_conv (expr_once sc n e f h k) ∙ sym is'
    conv_once_by sym_word m (node n no_nodes) c d (c', h, is) (d', k, is') = is ∙ ap sym_conv (conv_once n c' d' h k) ∙ sym is'
    conv_once_by unfold_word m (node t (node es (node ys (node n no_nodes)))) c d (u, fs, zs, c', h1, h2, h3, h4, is) (u', fs', zs', d', k1, k2, k3, k4, is') =
        is ∙ ap (λ x. unfold_conv x fs zs c') (number_once sc.names.terms t u u' h1 k1) ∙ ap (λ x. unfold_conv u' x zs c') (expr_list_once sc es fs fs' h2 k2)
        ∙ ap (λ x. unfold_conv u' fs' x c') (variable_list_once sc.vars ys zs zs' h3 k3) ∙ ap (unfold_conv u' fs' zs') (conv_once n c' d' h4 k4) ∙ sym is'
    conv_once_by sorry_word m (node l (node r no_nodes)) c d (f, g, may, h1, h2, is) (f', g', may', k1, k2, is') =
        is ∙ ap (λ x. gap_conv x g) (expr_once sc l f f' h1 k1) ∙ ap (gap_conv f') (expr_once sc r g g' h2 k2) ∙ sym is'
    conv_once_by no_word m no_nodes c d (t, h, is) (u, k, is') = is ∙ ap (λ x. cong_conv x no_convs) (number_once sc.names.terms m t u h k) ∙ sym is'
    conv_once_by no_word m (node n ns) c d (t, c', cs, h1, h2, h3, is) (u, d', ds, k1, k2, k3, is') =
        is ∙ ap (λ x. cong_conv x (more_convs c' cs)) (number_once sc.names.terms m t u h1 k1) ∙ ap (λ x. cong_conv u (more_convs x cs)) (conv_once n c' d' h2 k2)
        ∙ ap (λ x. cong_conv u (more_convs d' x)) (convs_once ns cs ds h3 k3) ∙ sym is'
    conv_once_by _ m _ c d h k = absurd h

    convs_once : (ns : Nodes) (cs ds : Conversions) → AreConvs sc ns cs → AreConvs sc ns ds → cs ≡ ds
    convs_once no_nodes cs ds h k = h ∙ sym k
    convs_once (node n ns) cs ds (c, cs', h, hs, is) (d, ds', k, ks, is') =
        is ∙ ap (λ x. more_convs x cs') (conv_once n c d h k) ∙ ap (more_convs d) (convs_once ns cs' ds' hs ks) ∙ sym is'

-- ---- proofs

fact_once : (hyps lets : List (List ℕ)) (w : List ℕ) (p q : Proof) → IsFact hyps lets w p → IsFact hyps lets w q → p ≡ q
fact_once hyps lets w p q (inl (i, h, is)) (inl (j, k, is')) = is ∙ ap by_hyp (some_once (number_of hyps w) i j h k) ∙ sym is'
fact_once hyps lets w p q (inl (i, h, is)) (inr k) = absurd (new_or_known hyps w i k.0 h)
fact_once hyps lets w p q (inr h) (inl (i, k, is)) = absurd (new_or_known hyps w i h.0 k)
fact_once hyps lets w p q (inr h) (inr k) = h.1.2 ∙ ap by_name (some_once (number_of lets w) h.1.0 k.1.0 h.1.1 k.1.1) ∙ sym k.1.2

module _ (sc : Scope) (hyps : List (List ℕ)) where
  mutual
    pub proof_once : (lets : List (List ℕ)) (n : Node) (p q : Proof) → IsProof sc hyps lets n p → IsProof sc hyps lets n q → p ≡ q
    proof_once lets (atom at w) p q h k = fact_once hyps lets w p q h.1 k.1
    proof_once lets (list at no_nodes) p q h k = absurd h
    proof_once lets (list at (node m ns)) p q h k = proof_once_by lets (proof_keyword m) m ns p q h k

    proof_once_by : (lets : List (List ℕ)) (key : Keyword) (m : Node) (ns : Nodes) (p q : Proof) → IsProofBy sc hyps lets key m ns p → IsProofBy sc hyps lets key m ns q → p ≡ q
    proof_once_by lets conv_word m (node e (node c (node n no_nodes))) p q (f, d, r, h1, h2, h3, is) (f', d', r', k1, k2, k3, is') =
        is ∙ ap (λ x. by_conv x d r) (expr_once sc e f f' h1 k1) ∙ ap (λ x. by_conv f' x r) (conv_once sc c d d' h2 k2) ∙ ap (by_conv f' d') (proof_once lets n r r' h3 k3) ∙ sym is'
    proof_once_by lets let_word m (node x (node n (node n' no_nodes))) p q (v, r, s, h1, h2, h3, is) (w, r', s', k1, k2, k3, is') =
        let same = new_name_once (hyps ++ lets) x v w h1 k1 in
        is ∙ ap (λ y. by_let y s) (proof_once lets n r r' h2 k2)
        ∙ ap (by_let r') (proof_once (lets ++ v ∷ []) n' s s' h3 (subst (λ u. IsProof sc hyps (lets ++ u ∷ []) n' s') (sym same) k3)) ∙ sym is'
    proof_once_by lets sorry_word m (node e no_nodes) p q (f, may, h, is) (f', may', k, is') = is ∙ ap by_gap (expr_once sc e f f' h k) ∙ sym is'
    proof_once_by lets no_word m (node es ns) p q (t, fs, rs, h1, h2, h3, is) (t', fs', rs', k1, k2, k3, is') =
        is ∙ ap (λ x. by_citation x fs rs) (number_once sc.names.assertions m t t' h1 k1) ∙ ap (λ x. by_citation t' x rs) (expr_list_once sc es fs fs' h2 k2)
        ∙ ap (by_citation t' fs') (proofs_once lets ns rs rs' h3 k3) ∙ sym is'
    proof_once_by lets _ m _ p q h k = absurd h

    proofs_once : (lets : List (List ℕ)) (ns : Nodes) (ps qs : Proofs) → AreProofs sc hyps lets ns ps → AreProofs sc hyps lets ns qs → ps ≡ qs
    proofs_once lets no_nodes ps qs h k = h ∙ sym k
    proofs_once lets (node n ns) ps qs (p, ps', h, hs, is) (q, qs', k, ks, is') =
        is ∙ ap (λ x. more_proofs x ps') (proof_once lets n p q h k) ∙ ap (more_proofs q) (proofs_once lets ns ps' qs' hs ks) ∙ sym is'
