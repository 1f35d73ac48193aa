-- What is read has all its names.
use Rattle.std.proofs.Common.{ℕ, suc, ◌≡◌, ◌<◌, inl, inr, List, [], ◌∷◌, ◌++◌, length, refl, sym, ap, subst}
use Rattle.mz_sexpr.specs.Node.{Node, Nodes, atom, list, no_nodes, node}
use Rattle.mz_logic_theory.specs.Tree.{Tree, Trees}
use Rattle.mz_logic_theory.specs.Conversions.{Conversion, Conversions}
use Rattle.mz_base.proofs.Offered.{number-within}
use Rattle.mz_mmu_theory.specs.Name.{Scope, HasNumber}
use Rattle.mz_mmu_theory.specs.Expressions.{IsExpr, AreExprs, IsExprList}
use Rattle.mz_mmu_theory.specs.Proof.{Proof, Proofs}
use Rattle.mz_mmu_theory.specs.declared.keyword.Keyword.{Keyword}
use Rattle.mz_mmu_theory.specs.declared.keyword.Keyword.TheVariants.{Conv as conv_word, Let as let_word, Refl as refl_word, Sym as sym_word, Unfold as unfold_word, Sorry as sorry_word, Other as no_word}
use Rattle.mz_mmu_theory.specs.Proofs.{conv_keyword, proof_keyword, IsConv, IsConvBy, AreConvs, IsFact, IsProof, IsProofBy, AreProofs}
use Rattle.mz_mmu_theory.specs.Names.{ExprThere, ExprsThere, ConvThere, ConvsThere, ProofThere, ProofsThere}

-- ---- numbers are in range

pub number_there : (xs : List (List ℕ)) (n : Node) (i : ℕ) → HasNumber xs n i → i < length xs
number_there xs (atom _ w) i (_, is) = number-within xs w i is
number_there xs (list _ _) i h = absurd h

pub one_more : (xs : List (List ℕ)) (w : List ℕ) → length (xs ++ w ∷ []) ≡ suc (length xs)
one_more [] w = refl
one_more (x ∷ xs) w = ap suc (one_more xs w)

module _ (sc : Scope) (many : length sc.names.constants ≡ length sc.names.terms) where
  abbrev ts : ℕ
  ts = length sc.names.terms

  abbrev vs : ℕ
  vs = length sc.vars

  -- ---- expressions

  mutual
    pub expr_there : (n : Node) (e : Tree) → IsExpr sc n e → ExprThere ts vs e
    expr_there (atom _ w) e (_, inl (x, at, is)) = subst (ExprThere ts vs) (sym is) (number-within sc.vars w x at)
    expr_there (atom _ w) e (_, inr (_, (t, at, is))) = subst (ExprThere ts vs) (sym is) (subst (λ k. t < k) many (number-within sc.names.constants w t at), tt)
    expr_there (list _ no_nodes) e h = absurd h
    expr_there (list _ (node h ns)) e (t, es, has, are, is) = subst (ExprThere ts vs) (sym is) (number_there sc.names.terms h t has, exprs_there ns es are)

    pub exprs_there : (ns : Nodes) (es : Trees) → AreExprs sc ns es → ExprsThere ts vs es
    exprs_there no_nodes es is = subst (ExprsThere ts vs) (sym is) tt
    exprs_there (node n ns) es (f, fs, h, hs, is) = subst (ExprsThere ts vs) (sym is) (expr_there n f h, exprs_there ns fs hs)

  pub expr_list_there : (n : Node) (es : Trees) → IsExprList sc n es → ExprsThere ts vs es
  expr_list_there (atom _ _) es h = absurd h
  expr_list_there (list _ ns) es h = exprs_there ns es h

  -- ---- conversions

  mutual
    pub conv_there : (n : Node) (c : Conversion) → IsConv sc n c → ConvThere ts vs c
    conv_there (atom at w) c (e, h, is) = subst (ConvThere ts vs) (sym is) (expr_there (atom at w) e h)
    conv_there (list _ no_nodes) c h = absurd h
    conv_there (list _ (node h ns)) c g = conv_there_by (conv_keyword h) h ns c g

    conv_there_by : (k : Keyword) (h : Node) (ns : Nodes) (c : Conversion) → IsConvBy sc k h ns c → ConvThere ts vs c
    conv_there_by refl_word h (node n no_nodes) c (e, g, is) = subst (ConvThere ts vs) (sym is) (expr_there n e g)
    conv_there_by sym_word h (node n no_nodes) c (d, g, is) = subst (ConvThere ts vs) (sym is) (conv_there n d g)
    conv_there_by unfold_word h (node t (node es (node ys (node n no_nodes)))) c (u, fs, zs, d, has, are, _, g, is) =
        subst (ConvThere ts vs) (sym is) (number_there sc.names.terms t u has, expr_list_there es fs are, conv_there n d g)
    conv_there_by no_word h no_nodes c (t, has, is) = subst (ConvThere ts vs) (sym is) (number_there sc.names.terms h t has, tt)
    conv_there_by no_word h (node n ns) c (t, d, ds, has, g, gs, is) =
        subst (ConvThere ts vs) (sym is) (number_there sc.names.terms h t has, (conv_there n d g, convs_there ns ds gs))
    conv_there_by sorry_word h (node l (node r no_nodes)) c (e, f, _, g, k, is) = subst (ConvThere ts vs) (sym is) (expr_there l e g, expr_there r f k)
    conv_there_by _ h _ c g = absurd g

    pub convs_there : (ns : Nodes) (cs : Conversions) → AreConvs sc ns cs → ConvsThere ts vs cs
    convs_there no_nodes cs is = subst (ConvsThere ts vs) (sym is) tt
    convs_there (node n ns) cs (d, ds, h, hs, is) = subst (ConvsThere ts vs) (sym is) (conv_there n d h, convs_there ns ds hs)

  -- ---- proofs

  module _ (hyps : List (List ℕ)) where
    abbrev Fits : List (List ℕ) → Proof → Type 0
    Fits lets p = ProofThere ts vs (length sc.names.assertions) (length hyps) (length lets) p

    abbrev AllFit : List (List ℕ) → Proofs → Type 0
    AllFit lets ps = ProofsThere ts vs (length sc.names.assertions) (length hyps) (length lets) ps

    fact_there : (lets : List (List ℕ)) (w : List ℕ) (p : Proof) → IsFact hyps lets w p → Fits lets p
    fact_there lets w p (inl (i, at, is)) = subst (Fits lets) (sym is) (number-within hyps w i at)
    fact_there lets w p (inr (_, (i, at, is))) = subst (Fits lets) (sym is) (number-within lets w i at)

    mutual
      pub proof_there : (lets : List (List ℕ)) (n : Node) (p : Proof) → IsProof sc hyps lets n p → Fits lets p
      proof_there lets (atom _ w) p (_, h) = fact_there lets w p h
      proof_there lets (list _ no_nodes) p h = absurd h
      proof_there lets (list _ (node h ns)) p g = proof_there_by lets (proof_keyword h) h ns p g

      proof_there_by : (lets : List (List ℕ)) (k : Keyword) (h : Node) (ns : Nodes) (p : Proof) → IsProofBy sc hyps lets k h ns p → Fits lets p
      proof_there_by lets conv_word h (node e (node c (node q no_nodes))) p (f, d, r, he, hc, hq, is) =
          subst (Fits lets) (sym is) (expr_there e f he, conv_there c d hc, proof_there lets q r hq)
      proof_there_by lets let_word h (node x (node q (node q' no_nodes))) p (w, r, r', _, hq, hq', is) =
          subst (Fits lets) (sym is) (
            proof_there lets q r hq,
            subst (λ l. ProofThere ts vs (length sc.names.assertions) (length hyps) l r') (one_more lets w) (proof_there (lets ++ w ∷ []) q' r' hq'),
          )
      proof_there_by lets no_word h (node es ns) p (T, fs, rs, has, are, hs, is) =
          subst (Fits lets) (sym is) (number_there sc.names.assertions h T has, expr_list_there es fs are, proofs_there lets ns rs hs)
      proof_there_by lets sorry_word h (node e no_nodes) p (f, _, g, is) = subst (Fits lets) (sym is) (expr_there e f g)
      proof_there_by lets _ h _ p g = absurd g

      pub proofs_there : (lets : List (List ℕ)) (ns : Nodes) (ps : Proofs) → AreProofs sc hyps lets ns ps → AllFit lets ps
      proofs_there lets no_nodes ps is = subst (AllFit lets) (sym is) tt
      proofs_there lets (node n ns) ps (r, rs, h, hs, is) = subst (AllFit lets) (sym is) (proof_there lets n r h, proofs_there lets ns rs hs)
