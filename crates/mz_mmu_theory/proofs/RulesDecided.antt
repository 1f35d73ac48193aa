-- The type rules are decided, each under those before it: so each text whose names are there has a
-- first rule that it breaks, or breaks none.
use Rattle.std.proofs.Common.{ℕ, suc, ◌≡◌, ◌<◌, inl, inr, Bool, true, false, List, [], ◌∷◌, ◌++◌, length, slice_get, All, Contains, Some, None, Option, refl, subst, arith, length-append, not-suc-le-zero}
use Rattle.std.proofs.lemmas.Bool.{cases_eq}
use Rattle.std.proofs.lemmas.Option.{slice_get_within}
use Rattle.std.proofs.lemmas.List.Elements.{All-contains}
use Rattle.mz_base.proofs.Offered.{true-decided, are_decided-both, implied-decided, both-decided, retold-decided}
use Rattle.mz_base.specs.Checks.{retold, AreDecided}
use Rattle.mz_sexpr.specs.Node.{Node, Nodes, parts}
use Rattle.mz_sexpr.specs.Number.{first, rest}
use Rattle.mz_logic_theory.specs.Tree.{Tree, Trees, var, app, none, more, listed, instance, instances, followed_by, variables}
use Rattle.mz_logic_theory.specs.Signature.{Signature}
use Rattle.mz_logic_theory.specs.Declaration.{Form, plain_form, abstract_form, defined, Term, Assertion, Declaration, sort_decl, term_decl, assertion_decl, dummies_of, body_of, sorts, signatures, is_defined, body_tree}
use Rattle.mz_logic_theory.specs.Variables.{IsBoundAt}
use Rattle.mz_logic_theory.specs.Legality.{signature_at, sort_of, AreParams, IsDummy}
use Rattle.mz_logic_theory.specs.Conversions.{Conversion, Conversions, refl_conv, sym_conv, cong_conv, unfold_conv, gap_conv, no_convs, more_convs}
use Rattle.mz_logic_theory.specs.declared.binder.Binder.{Binder}
use Rattle.mz_logic_theory.proofs.Offered.{split_at, each_from_all, range_of_sort, DepsInside}
use Rattle.mz_mmu_theory.specs.StatementOrder.{in_statement}
use Rattle.mz_mmu_theory.specs.Proof.{Proof, Proofs, by_hyp, by_name, by_citation, by_conv, by_let, by_gap, no_proofs, more_proofs}
use Rattle.mz_mmu_theory.specs.Statements.{Statement}
use Rattle.mz_mmu_theory.specs.Parts.{is_list, after, part, declared_parts}
use Rattle.mz_mmu_theory.specs.Sides.{left, right, assertion_at, term_at, with_fact, proved, all_proved}
use Rattle.mz_mmu_theory.specs.Rules.{operand_rules, expr_rules, exprs_rules, conv_count, side_rules, variable_rules, refl_node, unfold_rules, conv_rules, convs_rules, subproof_rules, citation_rules, proof_rules, proofs_rules, param_rules, dummy_rules, claim_rules, hyp_node, claims_rules, body_rules, assertion_rules, theorem_rules, decl_rules, statement_rules}
use Rattle.mz_mmu_theory.specs.Names.{ExprsThere, DeclThere, StatementsThere}
use Rattle.mz_mmu_theory.proofs.ParamRules.{are_params}
use Rattle.mz_mmu_theory.proofs.ExprRules.{sort_by_checks}
use Rattle.mz_mmu_theory.specs.TextRules.{rules_from}
use Rattle.mz_mmu_theory.proofs.TypesDecided.{tree-decided, all-decided, claim_sort-decided, result_sort-decided, dummy_sort-decided, bound_at-decided, bound_of-decided, param-decided, bound_var-decided, new-decided, free_vars-decided, apart-decided}

-- ---- expressions, conversions and proofs

module _ (sigs : List Signature) (ctx : List Binder) where
  operands : (es : Trees) (ns : Nodes) (ps : List Binder) → AreDecided (operand_rules sigs ctx es ns ps)
  operands (more e es) ns (p ∷ ps) =
      (cases_eq (sort_of sigs ctx e) p.sort, λ _. (implied-decided (true-decided p.bound) (bound_var-decided ctx e), λ _. operands es (rest ns) ps))
  operands _ ns _ = tt

  mutual
    pub expr : (e : Tree) (n : Node) → AreDecided (expr_rules sigs ctx e n)
    expr (var x) n = tt
    expr (app t es) n =
        are_decided-both (exprs_rules sigs ctx es (rest (parts n))) _ (exprs es (rest (parts n)))
        (λ _. (cases_eq (length (listed es)) (length (signature_at sigs t).params), λ _. operands es (rest (parts n)) (signature_at sigs t).params))

    pub exprs : (es : Trees) (ns : Nodes) → AreDecided (exprs_rules sigs ctx es ns)
    exprs none ns = tt
    exprs (more e es) ns = are_decided-both (expr_rules sigs ctx e (first ns)) _ (expr e (first ns)) (λ _. exprs es (rest ns))

  sides : (cs : Conversions) (ns : Nodes) (ps : List Binder) → AreDecided (side_rules sigs ctx cs ns ps)
  sides (more_convs c cs) ns (p ∷ ps) = (
    both-decided (cases_eq (sort_of sigs ctx (left c)) p.sort) (cases_eq (sort_of sigs ctx (right c)) p.sort),
    λ _. (
      implied-decided (true-decided p.bound) (both-decided (bound_var-decided ctx (left c)) (bound_var-decided ctx (right c))),
      λ _. sides cs (rest ns) ps,
    ),
  )
  sides _ ns _ = tt

  fresh_variables : (ys : List ℕ) (ns : Nodes) (bs : List Binder) → AreDecided (variable_rules ctx ys ns bs)
  fresh_variables (y ∷ ys) ns (b ∷ bs) = (bound_of-decided ctx y b.sort, λ _. fresh_variables ys (rest ns) bs)
  fresh_variables _ ns _ = tt

  unfold_decided : (d : Term) (es : Trees) (ys : List ℕ) (l : Tree) (n : Node) → AreDecided (unfold_rules sigs ctx d es ys l n)
  unfold_decided d es ys l n = (
    true-decided (is_defined d.form),
    λ _. (
      both-decided (cases_eq (length (listed es)) (length d.signature.params)) (cases_eq (length ys) (length (dummies_of d.form))),
      λ _. are_decided-both (operand_rules sigs ctx es (parts (part (parts n) 2)) d.signature.params) _ (operands es (parts (part (parts n) 2)) d.signature.params)
          (λ _. are_decided-both (variable_rules ctx ys (parts (part (parts n) 3)) (dummies_of d.form)) _ (fresh_variables ys (parts (part (parts n) 3)) (dummies_of d.form))
          (λ _. (new-decided ctx es ys, λ _. (tree-decided l (instance (followed_by es (variables ys)) (body_tree d.form)), λ _. tt)))),
    ),
  )

module _ (env : List Declaration) (ctx : List Binder) where
  claim : (e : Tree) (n : Node) → AreDecided (claim_rules env ctx e n)
  claim e n =
      are_decided-both (expr_rules (signatures env) ctx e n) _ (expr (signatures env) ctx e n) (λ _. (claim_sort-decided (sorts env) (sort_of (signatures env) ctx e), λ _. tt))

  mutual
    conv : (c : Conversion) (n : Node) → AreDecided (conv_rules env ctx c n)
    conv (refl_conv e) n = expr (signatures env) ctx e (refl_node (is_list n) n)
    conv (sym_conv c) n = conv c (part (parts n) 1)
    conv (cong_conv t cs) n =
        are_decided-both (convs_rules env ctx cs (rest (parts n))) _ (convs cs (rest (parts n)))
        (λ _. (
          cases_eq (conv_count cs) (length (signature_at (signatures env) t).params),
          λ _. sides (signatures env) ctx cs (rest (parts n)) (signature_at (signatures env) t).params,
        ))
    conv (unfold_conv t es ys c) n =
        are_decided-both (exprs_rules (signatures env) ctx es (parts (part (parts n) 2))) _ (exprs (signatures env) ctx es (parts (part (parts n) 2)))
        (λ _. are_decided-both (conv_rules env ctx c (part (parts n) 4)) _ (conv c (part (parts n) 4)) (λ _. unfold_decided (signatures env) ctx (term_at env t) es ys (left c) n))
    conv (gap_conv l r) n =
        are_decided-both (expr_rules (signatures env) ctx l (part (parts n) 1)) _ (expr (signatures env) ctx l (part (parts n) 1))
        (λ _. are_decided-both (expr_rules (signatures env) ctx r (part (parts n) 2)) _ (expr (signatures env) ctx r (part (parts n) 2))
        (λ _. (cases_eq (sort_of (signatures env) ctx l) (sort_of (signatures env) ctx r), λ _. tt)))

    convs : (cs : Conversions) (ns : Nodes) → AreDecided (convs_rules env ctx cs ns)
    convs no_convs ns = tt
    convs (more_convs c cs) ns = are_decided-both (conv_rules env ctx c (first ns)) _ (conv c (first ns)) (λ _. convs cs (rest ns))

  module _ (hyps : Trees) where
    subproofs : (claims : Trees) (ns : Nodes) (hs : Trees) → AreDecided (subproof_rules claims ns hs)
    subproofs (more e es) ns (more h hs) = (tree-decided e h, λ _. subproofs es (rest ns) hs)
    subproofs _ ns _ = tt

    citation : (a : Assertion) (es claims : Trees) (n : Node) → AreDecided (citation_rules (signatures env) ctx a es claims n)
    citation a es claims n = (
      both-decided (cases_eq (length (listed es)) (length a.params)) (cases_eq (length (listed claims)) (length (listed a.hyps))),
      λ _. are_decided-both (operand_rules (signatures env) ctx es (parts (part (parts n) 1)) a.params) _ (operands (signatures env) ctx es (parts (part (parts n) 1)) a.params)
          (λ _. (apart-decided ctx es a.params, λ _. subproofs claims (after 2 (parts n)) (instances es a.hyps))),
    )

    mutual
      proof : (lets : Trees) (p : Proof) (n : Node) → AreDecided (proof_rules env ctx hyps lets p n)
      proof lets (by_citation T es ps) n =
          are_decided-both (exprs_rules (signatures env) ctx es (parts (part (parts n) 1))) _ (exprs (signatures env) ctx es (parts (part (parts n) 1)))
          (λ _. are_decided-both (proofs_rules env ctx hyps lets ps (after 2 (parts n))) _ (proofs lets ps (after 2 (parts n))) (λ _. citation (assertion_at env T) es (all_proved env hyps lets ps) n))
      proof lets (by_conv e c p) n =
          are_decided-both (expr_rules (signatures env) ctx e (part (parts n) 1)) _ (expr (signatures env) ctx e (part (parts n) 1))
          (λ _. are_decided-both (conv_rules env ctx c (part (parts n) 2)) _ (conv c (part (parts n) 2))
          (λ _. are_decided-both (proof_rules env ctx hyps lets p (part (parts n) 3)) _ (proof lets p (part (parts n) 3))
          (λ _. (both-decided (tree-decided (left c) e) (tree-decided (right c) (proved env hyps lets p)), λ _. tt))))
      proof lets (by_let p q) n =
          are_decided-both (proof_rules env ctx hyps lets p (part (parts n) 2)) _ (proof lets p (part (parts n) 2))
          (λ _. proof (with_fact lets (proved env hyps lets p)) q (part (parts n) 3))
      proof lets (by_gap e) n = claim e (part (parts n) 1)
      proof lets _ n = tt

      proofs : (lets : Trees) (ps : Proofs) (ns : Nodes) → AreDecided (proofs_rules env ctx hyps lets ps ns)
      proofs lets no_proofs ns = tt
      proofs lets (more_proofs p ps) ns = are_decided-both (proof_rules env ctx hyps lets p (first ns)) _ (proof lets p (first ns)) (λ _. proofs lets ps (rest ns))

-- ---- statements

module _ (env : List Declaration) where
  params_decided : (params : List Binder) (i : ℕ) (bs : List Binder) (ns : Nodes) → AreDecided (param_rules env params i bs ns)
  params_decided params i [] ns = tt
  params_decided params i (b ∷ bs) ns = (param-decided (sorts env) params i b, λ _. params_decided params (suc i) bs (rest ns))

  dummies_decided : (bs : List Binder) (ns : Nodes) → AreDecided (dummy_rules env bs ns)
  dummies_decided [] ns = tt
  dummies_decided (b ∷ bs) ns = (dummy_sort-decided (sorts env) b.sort, λ _. dummies_decided bs (rest ns))

  claims : (ctx : List Binder) (ax : Bool) (es : Trees) (ns : Nodes) → AreDecided (claims_rules env ctx ax es ns)
  claims ctx ax none ns = tt
  claims ctx ax (more e es) ns =
      are_decided-both (claim_rules env ctx e (hyp_node ax (first ns))) _ (claim env ctx e (hyp_node ax (first ns))) (λ _. claims ctx ax es (rest ns))

  none_in : (x : ℕ) (xs : List ℕ) → xs ≡ [] → Contains xs x → ⊥
  none_in x xs is has = go (subst (λ ys. Contains ys x) is has)
    where
      go : Contains [] x → ⊥
      go (k, below, _) = not-suc-le-zero below

  -- variables depend on places of the context
  pub inside : (params ds : List Binder) → AreParams (sorts env) params → All IsDummy ds → DepsInside (params ++ ds)
  inside params ds right dummies i b at x has = elim (split_at params ds i b at) [
    | inl here ↦ of_param here b.bound refl
    | inr later ↦ absurd (none_in x b.deps (each_from_all IsDummy ds dummies later.0 b later.2).1 has)
  ]
    where
      of_param : slice_get params i ≡ Some b → (v : Bool) → b.bound ≡ v → x < length (params ++ ds)
      of_param here true bd = absurd (none_in x b.deps ((right i b here).0 bd).0 has)
      of_param here false reg =
          let within : i < length params = slice_get_within params i b here in
          let below : x < i = (All-contains (λ j. (j < i) × IsBoundAt params j) b.deps x ((right i b here).1 reg) has).0 in
          omega (arith, within, below, length-append params ds)

  body : (d : Signature) (F : Form) (ps : Nodes) → AreParams (sorts env) d.params → All IsDummy (dummies_of F)
      → ExprsThere (length (signatures env)) (length (d.params ++ dummies_of F)) (body_of F) → AreDecided (body_rules env d F ps)
  body d (defined ds e) ps right dummies (there, _) =
      are_decided-both (dummy_rules env ds (parts (part ps 4))) _ (dummies_decided ds (parts (part ps 4)))
      (λ _. are_decided-both (expr_rules (signatures env) (d.params ++ ds) e (part ps 5)) _ (expr (signatures env) (d.params ++ ds) e (part ps 5))
      (λ all. (
        free_vars-decided (signatures env) (d.params ++ ds) e d.result.deps (inside d.params ds right dummies)
            (range_of_sort (signatures env) (d.params ++ ds) e _ (sort_by_checks (signatures env) (d.params ++ ds) e (part ps 5) there all)),
        λ _. (cases_eq (sort_of (signatures env) (d.params ++ ds) e) d.result.sort, λ _. tt),
      )))
  body d _ ps right dummies there = tt

  theorem : (a : Assertion) (ds : List Binder) (p : Option Proof) (ps : Nodes) → AreDecided (theorem_rules env a ds p ps)
  theorem a ds None ps = tt
  theorem a ds (Some p) ps =
      are_decided-both (dummy_rules env ds (parts (part ps 5))) _ (dummies_decided ds (parts (part ps 5)))
      (λ _. are_decided-both (proof_rules env (a.params ++ ds) a.hyps none p (part ps 6)) _ (proof env (a.params ++ ds) a.hyps none p (part ps 6))
      (λ _. (tree-decided (proved env a.hyps none p) a.conclusion, λ _. tt)))

  pub decl : (d : Declaration) (ds : List Binder) (p : Option Proof) (ps : Nodes) → DeclThere env d ds p → AreDecided (decl_rules env d ds p ps)
  decl (sort_decl m) ds p ps there = tt
  decl (term_decl d) ds p ps (_, dummies_there, body_there) =
      are_decided-both (param_rules env d.signature.params 0 d.signature.params (parts (part ps 2))) _ (params_decided d.signature.params 0 d.signature.params (parts (part ps 2)))
      (λ all. (
        both-decided (result_sort-decided (sorts env) d.signature.result.sort) (all-decided (IsBoundAt d.signature.params) d.signature.result.deps (bound_at-decided d.signature.params)),
        λ _. body d.signature d.form ps (are_params env d.signature.params (parts (part ps 2)) all) dummies_there.1 body_there,
      ))
  decl (assertion_decl a) ds p ps there =
      are_decided-both (assertion_rules env a ps) _
      (are_decided-both (param_rules env a.params 0 a.params (parts (part ps 2))) _ (params_decided a.params 0 a.params (parts (part ps 2)))
      (λ _. are_decided-both (claims_rules env a.params a.is_axiom a.hyps (parts (part ps 3))) _ (claims a.params a.is_axiom a.hyps (parts (part ps 3)))
      (λ _. claim env a.params a.conclusion (part ps 4))))
      (λ _. theorem a ds p ps)

-- ---- all statements

pub statements-decided : (k : ℕ) (env : List Declaration) (ss : List Statement) (ns : Nodes) → StatementsThere env ss → AreDecided (rules_from k env ss ns)
statements-decided k env [] ns there = tt
statements-decided k env (s ∷ ss) ns (here, there) =
    are_decided-both (retold (in_statement k) (statement_rules env s (first ns))) _
    (retold-decided (in_statement k) (statement_rules env s (first ns)) (decl env s.decl s.dummies s.proof (declared_parts (first ns)) here.0))
    (λ _. statements-decided (suc k) (env ++ s.decl ∷ []) ss (rest ns) there)
