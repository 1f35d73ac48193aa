-- No more is written in a text than it has nodes.
use Rattle.std.proofs.Common.{ℕ, ◌≡◌, ◌≤◌, ◌<◌, ◌+◌, ◌^◌, Bool, true, false, List, [], ◌∷◌, ◌++◌, length, inl, inr, refl, ap, arith, length-append}
use Rattle.mz_sexpr.specs.Node.{Node, Nodes, atom, list, no_nodes, node}
use Rattle.mz_sexpr.specs.Number.{tails, tails_within, node_count}
use Rattle.mz_logic_theory.specs.Tree.{Tree, Trees, size, trees_size}
use Rattle.mz_logic_theory.specs.Conversions.{Conversion, Conversions}
use Rattle.mz_logic_theory.specs.declared.binder.Binder.{Binder}
use Rattle.mz_mmu_theory.specs.Cursor.{node_size, nodes_size}
use Rattle.mz_mmu_theory.specs.Name.{Names, Scope, scope_of, no_names, names_with}
use Rattle.mz_mmu_theory.specs.Expressions.{IsExpr, AreExprs, IsExprList, AreVariables, IsVariableList, IsParam, IsDummy, AreBinders, AreParams, AreDummies}
use Rattle.mz_mmu_theory.specs.Proof.{Proof, Proofs}
use Rattle.mz_mmu_theory.specs.Statements.{Statement, kind_of, is_local_word, IsHyp, AreHyps, AreNamedHyps, IsDeclared, IsLocal, IsMarked, IsStatement, AreStatements}
use Rattle.mz_mmu_theory.specs.Proofs.{conv_keyword, proof_keyword, IsConv, IsConvBy, AreConvs, IsFact, IsProof, IsProofBy, AreProofs}
use Rattle.mz_mmu_theory.specs.declared.keyword.Keyword.{Keyword}
use Rattle.mz_mmu_theory.specs.declared.keyword.Keyword.TheVariants.{Conv as conv_word, Let as let_word, Refl as refl_word, Sym as sym_word, Unfold as unfold_word, Sorry as sorry_word, Other as no_word}
use Rattle.mz_mmu_theory.proofs.Offered.{node_size_positive}
use Rattle.mz_mmu_theory.specs.declared.kind.Kind.{Kind}
use Rattle.mz_mmu_theory.specs.declared.kind.Kind.TheVariants.{Sort as sort_kind, Term as term_kind, Axiom as axiom_kind, Def as def_kind, Theorem as theorem_kind, Other as no_kind}
use Rattle.mz_type.specs.Sizes.{conv_size, convs_size, proof_size, proofs_size, stated_size, statement_size, text_size}
use Rattle.mz_mmu_theory.specs.Weight.{declaration_weight, weight_of}
use Rattle.mz_type.proofs.WeightBound.{weight_bound, square_bound}

-- ---- expressions and variables

module _ (sc : Scope) where
  mutual
    expr_written : (n : Node) (e : Tree) → IsExpr sc n e → size e ≤ node_size n
    expr_written (atom _ w) e (_, inl (x, _, is)) = omega (arith, ap size is)
    expr_written (atom _ w) e (_, inr (_, (t, _, is))) = omega (arith, ap size is)
    expr_written (list _ no_nodes) e h = absurd h
    expr_written (list _ (node k ns)) e (t, es, _, hs, is) = omega (arith, ap size is, exprs_written ns es hs)

    exprs_written : (ns : Nodes) (es : Trees) → AreExprs sc ns es → trees_size es ≤ nodes_size ns
    exprs_written no_nodes es is = omega (arith, ap trees_size is)
    exprs_written (node n ns) es (f, fs, h, hs, is) = omega (arith, ap trees_size is, expr_written n f h, exprs_written ns fs hs)

  expr_list_written : (n : Node) (es : Trees) → IsExprList sc n es → trees_size es ≤ node_size n
  expr_list_written (atom _ _) es h = absurd h
  expr_list_written (list _ ns) es h = omega (arith, exprs_written ns es h)

  variables_written : (ns : Nodes) (ys : List ℕ) → AreVariables sc.vars ns ys → length ys ≤ nodes_size ns
  variables_written no_nodes ys is = omega (arith, ap length is)
  variables_written (node n ns) ys (x, xs, _, h, is) = omega (arith, ap length is, node_size_positive n, variables_written ns xs h)

  variable_list_written : (n : Node) (ys : List ℕ) → IsVariableList sc.vars n ys → length ys ≤ node_size n
  variable_list_written (atom _ _) ys h = absurd h
  variable_list_written (list _ ns) ys h = omega (arith, variables_written ns ys h)

  -- ---- conversions

  mutual
    conv_written : (n : Node) (c : Conversion) → IsConv sc n c → conv_size c ≤ node_size n
    conv_written (atom at w) c (e, h, is) = omega (arith, ap conv_size is, expr_written (atom at w) e h)
    conv_written (list _ no_nodes) c h = absurd h
    conv_written (list _ (node k ns)) c g = omega (arith, conv_written_by (conv_keyword k) k ns c g)

    conv_written_by : (k : Keyword) (h : Node) (ns : Nodes) (c : Conversion) → IsConvBy sc k h ns c → conv_size c ≤ 1 + nodes_size ns
    conv_written_by refl_word h (node n no_nodes) c (e, g, is) = omega (arith, ap conv_size is, expr_written n e g)
    conv_written_by sym_word h (node n no_nodes) c (d, g, is) = omega (arith, ap conv_size is, conv_written n d g)
    conv_written_by unfold_word h (node t (node es (node ys (node n no_nodes)))) c (u, fs, zs, d, _, are, vars, g, is) =
        omega (arith, ap conv_size is, expr_list_written es fs are, variable_list_written ys zs vars, conv_written n d g)
    conv_written_by no_word h no_nodes c (t, _, is) = omega (arith, ap conv_size is)
    conv_written_by no_word h (node n ns) c (t, d, ds, _, g, gs, is) = omega (arith, ap conv_size is, conv_written n d g, convs_written ns ds gs)
    conv_written_by sorry_word h (node l (node r no_nodes)) c (e, f, _, g, k, is) = omega (arith, ap conv_size is, expr_written l e g, expr_written r f k)
    conv_written_by _ h _ c g = absurd g

    convs_written : (ns : Nodes) (cs : Conversions) → AreConvs sc ns cs → convs_size cs ≤ nodes_size ns
    convs_written no_nodes cs is = omega (arith, ap convs_size is)
    convs_written (node n ns) cs (d, ds, h, hs, is) = omega (arith, ap convs_size is, conv_written n d h, convs_written ns ds hs)

  -- ---- proofs

  module _ (hyps : List (List ℕ)) where
    fact_written : (lets : List (List ℕ)) (w : List ℕ) (p : Proof) → IsFact hyps lets w p → proof_size p ≤ 1
    fact_written lets w p (inl (i, _, is)) = omega (arith, ap proof_size is)
    fact_written lets w p (inr (_, (i, _, is))) = omega (arith, ap proof_size is)

    mutual
      proof_written : (lets : List (List ℕ)) (n : Node) (p : Proof) → IsProof sc hyps lets n p → proof_size p ≤ node_size n
      proof_written lets (atom _ w) p (_, h) = fact_written lets w p h
      proof_written lets (list _ no_nodes) p h = absurd h
      proof_written lets (list _ (node k ns)) p g = omega (arith, proof_written_by lets (proof_keyword k) k ns p g)

      proof_written_by : (lets : List (List ℕ)) (k : Keyword) (h : Node) (ns : Nodes) (p : Proof) → IsProofBy sc hyps lets k h ns p → proof_size p ≤ 1 + nodes_size ns
      proof_written_by lets conv_word h (node e (node c (node q no_nodes))) p (f, d, r, he, hc, hq, is) =
          omega (arith, ap proof_size is, expr_written e f he, conv_written c d hc, proof_written lets q r hq)
      proof_written_by lets let_word h (node x (node q (node q' no_nodes))) p (w, r, r', _, hq, hq', is) =
          omega (arith, ap proof_size is, proof_written lets q r hq, proof_written (lets ++ w ∷ []) q' r' hq')
      proof_written_by lets no_word h (node es ns) p (T, fs, rs, _, are, hs, is) =
          omega (arith, ap proof_size is, expr_list_written es fs are, proofs_written lets ns rs hs)
      proof_written_by lets sorry_word h (node e no_nodes) p (f, _, g, is) = omega (arith, ap proof_size is, expr_written e f g)
      proof_written_by lets _ h _ p g = absurd g

      proofs_written : (lets : List (List ℕ)) (ns : Nodes) (ps : Proofs) → AreProofs sc hyps lets ns ps → proofs_size ps ≤ nodes_size ns
      proofs_written lets no_nodes ps is = omega (arith, ap proofs_size is)
      proofs_written lets (node n ns) ps (r, rs, h, hs, is) = omega (arith, ap proofs_size is, proof_written lets n r h, proofs_written lets ns rs hs)

  -- ---- hypotheses of a theorem

  hyp_written : (taken : List (List ℕ)) (n : Node) (w : List ℕ) (f : Tree) → IsHyp sc taken n w f → size f ≤ node_size n
  hyp_written taken (list _ (node x (node e no_nodes))) w f h = omega (arith, expr_written e f h.1)
  hyp_written taken _ w f h = absurd h

  hyps_written : (taken : List (List ℕ)) (ns : Nodes) (es : Trees) (after : List (List ℕ)) → AreHyps sc taken ns es after → trees_size es ≤ nodes_size ns
  hyps_written taken no_nodes es after (is, _) = omega (arith, ap trees_size is)
  hyps_written taken (node n ns) es after (w, f, fs, h, hs, is) =
      omega (arith, ap trees_size is, hyp_written taken n w f h, hyps_written (taken ++ w ∷ []) ns fs after hs)

  named_hyps_written : (n : Node) (es : Trees) (after : List (List ℕ)) → AreNamedHyps sc n es after → trees_size es ≤ node_size n
  named_hyps_written (atom _ _) es after h = absurd h
  named_hyps_written (list _ ns) es after h = omega (arith, hyps_written [] ns es after h)

-- ---- binders

binders_written : (Is : List (List ℕ) → Node → List ℕ → Binder → Type 0) (vars : List (List ℕ)) (ns : Nodes) (bs : List Binder) (after : List (List ℕ)) → AreBinders Is vars ns bs after → length bs ≤ nodes_size ns
binders_written Is vars no_nodes bs after (ends, _) = omega (arith, ap length ends)
binders_written Is vars (node n ns) bs after (x, c, cs, _, h, is) = omega (arith, ap length is, node_size_positive n, binders_written Is (vars ++ x ∷ []) ns cs after h)

-- ---- statements

module _ (names : Names) where
  params_written : (n : Node) (bs : List Binder) (after : List (List ℕ)) → AreParams names n bs after → length bs ≤ node_size n
  params_written (atom _ _) bs after h = absurd h
  params_written (list _ ns) bs after h = omega (arith, binders_written (IsParam names) [] ns bs after h)

  dummies_written : (vars : List (List ℕ)) (n : Node) (bs : List Binder) (after : List (List ℕ)) → AreDummies names vars n bs after → length bs ≤ node_size n
  dummies_written vars (atom _ _) bs after h = absurd h
  dummies_written vars (list _ ns) bs after h = omega (arith, binders_written (IsDummy names) vars ns bs after h)

  abbrev Written : Nodes → Statement → Type 0
  Written ns s = declaration_weight s.decl + length s.dummies + stated_size s.proof ≤ nodes_size ns

  declared_written : (k : Kind) (ns : Nodes) (s : Statement) → IsDeclared names k ns s → Written ns s
  declared_written sort_kind (node x ms) s (_, _, _, is, none, unproved) = omega (arith, ap declaration_weight is, ap length none, ap stated_size unproved)
  declared_written term_kind (node x (node ps (node r no_nodes))) s (params, vars, result, _, ps_are, _, is, none, unproved) =
      omega (arith, ap declaration_weight is, ap length none, ap stated_size unproved, params_written ps params vars ps_are)
  declared_written axiom_kind (node x (node ps (node hs (node e no_nodes)))) s (params, vars, hyps, conclusion, _, ps_are, hs_are, e_is, is, none, unproved) =
      omega (
        arith,
        ap declaration_weight is,
        ap length none,
        ap stated_size unproved,
        params_written ps params vars ps_are,
        expr_list_written (scope_of names vars) hs hyps hs_are,
        expr_written (scope_of names vars) e conclusion e_is,
      )
  declared_written def_kind (node x (node ps (node r (node ds (node e no_nodes))))) s (params, vars, result, dummies, all, body, _, ps_are, _, ds_are, e_is, is, none, unproved) =
      omega (
        arith,
        ap declaration_weight is,
        ap length none,
        ap stated_size unproved,
        params_written ps params vars ps_are,
        dummies_written vars ds dummies all ds_are,
        expr_written (scope_of names all) e body e_is,
      )
  declared_written theorem_kind (node x (node ps (node hs (node e (node ds (node q no_nodes)))))) s (params, vars, hyps, labels, conclusion, all, proof, _, ps_are, hs_are, e_is, ds_are, q_is, is, proved) =
      omega (
        arith,
        ap declaration_weight is,
        ap stated_size proved,
        params_written ps params vars ps_are,
        named_hyps_written (scope_of names vars) hs hyps labels hs_are,
        expr_written (scope_of names vars) e conclusion e_is,
        dummies_written vars ds s.dummies all ds_are,
        proof_written (scope_of names all) labels [] q proof q_is,
      )
  declared_written _ _ s h = absurd h

  local_written : (k : Kind) (ns : Nodes) (s : Statement) → IsLocal names k ns s → Written ns s
  local_written def_kind ns s h = declared_written def_kind ns s h
  local_written theorem_kind ns s h = declared_written theorem_kind ns s h
  local_written _ ns s h = absurd h

  marked_written : (b : Bool) (k : Node) (ns : Nodes) (s : Statement) → IsMarked b names k ns s → Written ns s
  marked_written false k ns s h = declared_written (kind_of k) ns s h.1
  marked_written true k no_nodes s h = absurd h
  marked_written true k (node k' ns) s h = omega (arith, local_written (kind_of k') ns s h.1)

  statement_written : (n : Node) (s : Statement) → IsStatement names n s → statement_size s ≤ node_size n
  statement_written (list _ (node k ns)) s h = omega (arith, marked_written (is_local_word k) k ns s h, node_size_positive k)
  statement_written _ s h = absurd h

pub text_written : (names : Names) (ns : Nodes) (ss : List Statement) → AreStatements names ns ss → text_size ss ≤ nodes_size ns
text_written names no_nodes ss is = omega (arith, ap text_size is)
text_written names (node n ns) ss (s, rest, h, hs, is) =
    omega (arith, ap text_size is, statement_written names n s h, text_written (names_with names s.name s.decl) ns rest hs)

-- ---- nodes, counted

mutual
  count_within : (n : Node) → 1 + length (tails_within n) ≡ node_size n
  count_within (atom _ _) = refl
  count_within (list _ ns) = omega (arith, count_is ns)

  count_is : (ns : Nodes) → length (tails ns) ≡ nodes_size ns
  count_is no_nodes = refl
  count_is (node n ns) = omega (arith, length-append (tails_within n) (tails ns), count_within n, count_is ns)

pub few_weigh : (gaps : Bool) (ns : Nodes) (ss : List Statement) → AreStatements (no_names gaps) ns ss → node_count ns < 2 ^ 32 → weight_of ss < 2 ^ 64
few_weigh gaps ns ss read few =
    square_bound (text_size ss) (weight_of ss) (omega (arith, text_written (no_names gaps) ns ss read, count_is ns, few)) (weight_bound ss)
