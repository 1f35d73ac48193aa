-- Where no proof may have a gap, none has one.
use Rattle.std.proofs.Common.{ℕ, ◌≡◌, inl, inr, Bool, true, false, List, [], ◌∷◌, ◌++◌, All, None, refl, sym, subst}
use Rattle.std.proofs.lemmas.List.Elements.{All-nil, All-cons}
use Rattle.mz_sexpr.specs.Node.{Node, Nodes, atom, list, no_nodes, node}
use Rattle.mz_logic_theory.specs.Conversions.{Conversion, Conversions, GapsOnly, AllGapsOnly}
use Rattle.mz_logic_theory.specs.Declaration.{Declaration, sort_decl, term_decl, assertion_decl}
use Rattle.mz_mmu_theory.specs.Name.{Names, Scope, scope_of, names_with}
use Rattle.mz_mmu_theory.specs.Gaps.{LeavesOnly, AllLeaveOnly, SomeLeavesOnly}
use Rattle.mz_mmu_theory.specs.Statements.{HasGapsOnly, Statement, kind_of, is_local_word, IsDeclared, IsLocal, IsMarked, IsStatement}
use Rattle.mz_mmu_theory.specs.Proof.{Proof, Proofs}
use Rattle.mz_mmu_theory.specs.declared.keyword.Keyword.{Keyword}
use Rattle.mz_mmu_theory.specs.declared.keyword.Keyword.TheVariants.{Conv as conv_word, Let as let_word, Refl as refl_word, Sym as sym_word, Unfold as unfold_word, Sorry as sorry_word, Other as no_word}
use Rattle.mz_mmu_theory.specs.Proofs.{conv_keyword, proof_keyword, IsConv, IsConvBy, AreConvs, IsProof, IsProofBy, AreProofs}
use Rattle.mz_mmu_theory.specs.declared.kind.Kind.{Kind}
use Rattle.mz_mmu_theory.specs.declared.kind.Kind.TheVariants.{Sort as sort_kind, Term as term_kind, Axiom as axiom_kind, Def as def_kind, Theorem as theorem_kind, Other as no_kind}
use Rattle.mz_mmu_theory.specs.ReadingLaws.{OnlyDraftsHaveGaps}

abbrev Allowed : Scope → Type 0
Allowed sc = sc.names.gaps ≡ true

-- ---- conversions

module _ (sc : Scope) where
  mutual
    conv_leaves : (n : Node) (c : Conversion) → IsConv sc n c → GapsOnly (Allowed sc) c
    conv_leaves (atom at w) c (e, h, is) = subst (GapsOnly (Allowed sc)) (sym is) tt
    conv_leaves (list at no_nodes) c h = absurd h
    conv_leaves (list at (node h ns)) c r = conv_leaves_by (conv_keyword h) h ns c r

    conv_leaves_by : (k : Keyword) (h : Node) (ns : Nodes) (c : Conversion) → IsConvBy sc k h ns c → GapsOnly (Allowed sc) c
    conv_leaves_by refl_word h (node n no_nodes) c (e, r, is) = subst (GapsOnly (Allowed sc)) (sym is) tt
    conv_leaves_by sym_word h (node n no_nodes) c (d, r, is) = subst (GapsOnly (Allowed sc)) (sym is) (conv_leaves n d r)
    conv_leaves_by unfold_word h (node t (node es (node ys (node n no_nodes)))) c (u, fs, zs, d, k, e, v, r, is) = subst (GapsOnly (Allowed sc)) (sym is) (conv_leaves n d r)
    conv_leaves_by sorry_word h (node l (node m no_nodes)) c (f, g, may, x, y, is) = subst (GapsOnly (Allowed sc)) (sym is) may
    conv_leaves_by no_word h no_nodes c (t, k, is) = subst (GapsOnly (Allowed sc)) (sym is) tt
    conv_leaves_by no_word h (node n ns) c (t, d, ds, k, r, rs, is) = subst (GapsOnly (Allowed sc)) (sym is) (conv_leaves n d r, convs_leave ns ds rs)
    conv_leaves_by _ h _ c r = absurd r

    convs_leave : (ns : Nodes) (cs : Conversions) → AreConvs sc ns cs → AllGapsOnly (Allowed sc) cs
    convs_leave no_nodes cs r = subst (AllGapsOnly (Allowed sc)) (sym r) tt
    convs_leave (node n ns) cs (d, ds, r, rs, is) = subst (AllGapsOnly (Allowed sc)) (sym is) (conv_leaves n d r, convs_leave ns ds rs)

-- ---- proofs

module _ (sc : Scope) (hyps : List (List ℕ)) where
  mutual
    proof_leaves : (lets : List (List ℕ)) (n : Node) (p : Proof) → IsProof sc hyps lets n p → LeavesOnly (Allowed sc) p
    proof_leaves lets (atom at w) p (h, inl (i, k, is)) = subst (LeavesOnly (Allowed sc)) (sym is) tt
    proof_leaves lets (atom at w) p (h, inr (new, (i, k, is))) = subst (LeavesOnly (Allowed sc)) (sym is) tt
    proof_leaves lets (list at no_nodes) p h = absurd h
    proof_leaves lets (list at (node h ns)) p r = proof_leaves_by lets (proof_keyword h) h ns p r

    proof_leaves_by : (lets : List (List ℕ)) (k : Keyword) (h : Node) (ns : Nodes) (p : Proof) → IsProofBy sc hyps lets k h ns p → LeavesOnly (Allowed sc) p
    proof_leaves_by lets conv_word h (node e (node c (node q no_nodes))) p (f, d, s, x, y, z, is) =
        subst (LeavesOnly (Allowed sc)) (sym is) (conv_leaves sc c d y, proof_leaves lets q s z)
    proof_leaves_by lets let_word h (node x (node q (node q' no_nodes))) p (w, s, s', n, y, z, is) =
        subst (LeavesOnly (Allowed sc)) (sym is) (proof_leaves lets q s y, proof_leaves (lets ++ w ∷ []) q' s' z)
    proof_leaves_by lets sorry_word h (node e no_nodes) p (f, may, x, is) = subst (LeavesOnly (Allowed sc)) (sym is) may
    proof_leaves_by lets no_word h (node es ns) p (T, fs, rs, k, e, ps, is) = subst (LeavesOnly (Allowed sc)) (sym is) (proofs_leave lets ns rs ps)
    proof_leaves_by lets _ h _ p r = absurd r

    proofs_leave : (lets : List (List ℕ)) (ns : Nodes) (ps : Proofs) → AreProofs sc hyps lets ns ps → AllLeaveOnly (Allowed sc) ps
    proofs_leave lets no_nodes ps r = subst (AllLeaveOnly (Allowed sc)) (sym r) tt
    proofs_leave lets (node n ns) ps (s, ss, r, rs, is) = subst (AllLeaveOnly (Allowed sc)) (sym is) (proof_leaves lets n s r, proofs_leave lets ns ss rs)

-- ---- statements

abbrev Leaves : Names → Statement → Type 0
Leaves names s = HasGapsOnly (names.gaps ≡ true) s

no_proof : (names : Names) (s : Statement) → s.proof ≡ None → Leaves names s
no_proof names s is = subst (SomeLeavesOnly (names.gaps ≡ true)) (sym is) tt

declared_leaves : (names : Names) (k : Kind) (ns : Nodes) (s : Statement) → IsDeclared names k ns s → Leaves names s
declared_leaves names sort_kind (node x ms) s (m, n, r, e, i, j) = no_proof names s j
declared_leaves names term_kind (node x (node ps (node r no_nodes))) s (params, vars, result, n, p, q, e, i, j) = no_proof names s j
declared_leaves names axiom_kind (node x (node ps (node hs (node c no_nodes)))) s (params, vars, hyps, conclusion, n, p, q, r, e, i, j) = no_proof names s j
declared_leaves names def_kind (node x (node ps (node r (node ds (node b no_nodes))))) s (params, vars, result, dummies, all, body, n, p, q, d, f, e, i, j) = no_proof names s j
declared_leaves names theorem_kind (node x (node ps (node hs (node c (node ds (node q no_nodes)))))) s (params, vars, hyps, labels, conclusion, all, proof, n, p, h, f, d, r, e, j) =
    subst (SomeLeavesOnly (names.gaps ≡ true)) (sym j) (proof_leaves (scope_of names all) labels [] q proof r)
declared_leaves names _ _ s h = absurd h

local_leaves : (names : Names) (k : Kind) (ns : Nodes) (s : Statement) → IsLocal names k ns s → Leaves names s
local_leaves names def_kind ns s h = declared_leaves names def_kind ns s h
local_leaves names theorem_kind ns s h = declared_leaves names theorem_kind ns s h
local_leaves names _ ns s h = absurd h

marked_leaves : (b : Bool) (names : Names) (k : Node) (ns : Nodes) (s : Statement) → IsMarked b names k ns s → Leaves names s
marked_leaves false names k ns s (unset, h) = declared_leaves names (kind_of k) ns s h
marked_leaves true names k no_nodes s h = absurd h
marked_leaves true names k (node l ns) s (is, h) = local_leaves names (kind_of l) ns s h

statement_leaves : (names : Names) (n : Node) (s : Statement) → IsStatement names n s → Leaves names s
statement_leaves names (list at (node k ns)) s h = marked_leaves (is_local_word k) names k ns s h
statement_leaves names _ s h = absurd h

-- what a statement adds to the names lets no gap in
gaps_stay : (names : Names) (w : List ℕ) (d : Declaration) → (names_with names w d).gaps ≡ names.gaps
gaps_stay names w (sort_decl m) = refl
gaps_stay names w _ = refl

pub only_drafts : (names : Names) (ns : Nodes) → OnlyDraftsHaveGaps names ns
only_drafts names no_nodes ss h = subst (All (Leaves names)) (sym h) (All-nil (Leaves names))
only_drafts names (node n ns) ss (s, ss', h, hs, is) =
    subst (All (Leaves names)) (sym is)
    (All-cons (Leaves names) s ss' (statement_leaves names n s h)
    (subst (λ g. All (HasGapsOnly (g ≡ true)) ss') (gaps_stay names s.name s.decl) (only_drafts (names_with names s.name s.decl) ns ss' hs)))
