-- Steps of the checks of proofs.
use Rattle.std.proofs.Common.{ℕ, zero, suc, refl, ◌≡◌, ◌<◌, ◌≤◌, ◌+◌, Result, List, [], ◌∷◌, length, get_or, drop, slice_get, None, sym, ap, ◌∙◌, subst, inl, inr, arith}
use Rattle.std.specs.Prelude.{OnOk}
use Rattle.std.proofs.lemmas.List.{drop_more}
use Rattle.std.proofs.lemmas.Option.{slice_get-get_or, none-some}
use Rattle.mz_base.specs.Checks.{Checks, demand, ◌>>◌, AllHold, FailsFirst}
use Rattle.mz_base.proofs.Offered.{fails-after, all_hold-both}
use Rattle.mz_sexpr.specs.declared.rule.U.{U}
use Rattle.mz_sexpr.specs.Node.{Node, Nodes, place, parts}
use Rattle.mz_sexpr.specs.Number.{first, rest}
use Rattle.mz_logic_theory.specs.Tree.{Tree, Trees, more, listed, operand, instance, instances}
use Rattle.mz_logic_theory.specs.Signature.{Signature}
use Rattle.mz_logic_theory.specs.Declaration.{Assertion, Declaration, signatures}
use Rattle.mz_logic_theory.specs.Sorts.{Fits}
use Rattle.mz_logic_theory.specs.Variables.{AreDisjoint}
use Rattle.mz_logic_theory.specs.View.{tree, trees}
use Rattle.mz_logic_theory.specs.declared.binder.Binder.{Binder}
use Rattle.mz_logic_theory.specs.declared.expr.Expr.{Expr}
use Rattle.mz_mmu_theory.specs.ConvView.{conversion}
use Rattle.mz_mmu_theory.specs.FormOrder.{fault}
use Rattle.mz_mmu_theory.specs.Stops.{Stops}
use Rattle.mz_mmu_theory.specs.declared.fault.Fault.{Fault}
use Rattle.mz_mmu_theory.specs.declared.fault.Stop.{Stop}
use Rattle.mz_mmu_theory.specs.declared.conv.Conv.{Conv as ConvRead}
use Rattle.mz_mmu_theory.specs.declared.proof.Proof.{Proof as Coded}
use Rattle.mz_mmu_theory.specs.declared.proof.Proof.TheVariants as codes
use Rattle.mz_mmu_theory.specs.Proof.{Proof, Proofs, by_citation, by_conv, by_let, more_proofs}
use Rattle.mz_mmu_theory.specs.ProofCode.{proof_steps, proofs_steps}
use Rattle.mz_mmu_theory.specs.ProofView.{proof_view, proofs_view}
use Rattle.mz_logic_theory.specs.Conversions.{Conversion}
use Rattle.mz_type_rules.specs.Answers.{Judged}
use Rattle.mz_type_rules.specs.Claims.{claim_tree, claim_trees}
use Rattle.mz_type_rules.specs.declared.claim.Claim.{Claim}
use Rattle.mz_mmu_theory.specs.Names.{ExprsThere, ProofThere, ProofsThere}
use Rattle.mz_mmu_theory.specs.Parts.{part, after}
use Rattle.mz_mmu_theory.specs.Rules.{operand_rules, expr_rules, exprs_rules, conv_rules, subproof_rules, citation_rules, proof_rules, proofs_rules}
use Rattle.mz_mmu_theory.specs.Sides.{left, right, proved, all_proved, with_fact}
use Rattle.mz_type_rules.proofs.Claims.{claims_cut}
use Rattle.mz_mmu_theory.proofs.Offered.{fits_by_checks}
use Rattle.mz_type_rules.proofs.Judging.{stopped_before, stopped_after, stopped_asked}
use Rattle.mz_type_rules.proofs.Steps.{trees_cut}

pub is_there : {A : Type 0} (xs : List A) (i : ℕ) → i < length xs → None ≡ slice_get xs i → ⊥
is_there (x ∷ xs) i below h = none-some _ (h ∙ slice_get-get_or (x ∷ xs) i x below)
is_there [] i below h = absurd (omega (arith, below))

-- ---- subproofs

pub subproofs_cut : (es : Trees) (xs : List Claim) (hs : List Expr) (i : ℕ) (c : Claim) (h : Expr) → i < length xs → c ≡ get_or xs i c → i < length hs → h ≡ get_or hs i h → (ns : Nodes)
    → subproof_rules (claim_trees (drop i xs)) ns (instances es (trees (drop i hs)))
    ≡ (demand (fault (place (first ns)) U.Hypothesis) (claim_tree c ≡ instance es (tree h)) >> subproof_rules (claim_trees (drop (i + 1) xs)) (rest ns) (instances es (trees (drop (i + 1) hs))))
subproofs_cut es xs hs i c h below is below' is' ns =
    ap (λ cs. subproof_rules cs ns (instances es (trees (drop i hs)))) (claims_cut xs i c below is)
    ∙ ap (λ gs. subproof_rules (more (claim_tree c) (claim_trees (drop (i + 1) xs))) ns (instances es gs)) (trees_cut hs i h below' is')

-- ---- a citation's own rules

module _ (sigs : List Signature) (ctx : List Binder) (a : Assertion) (es claims : Trees) (n : Node) where
  abbrev ops : Checks Fault
  ops = operand_rules sigs ctx es (parts (part (parts n) 1)) a.params

  abbrev subs : Checks Fault
  subs = subproof_rules claims (after 2 (parts n)) (instances es a.hyps)

  abbrev whole : Checks Fault
  whole = citation_rules sigs ctx a es claims n

  module _ (many : (length (listed es) ≡ length a.params) × (length (listed claims) ≡ length (listed a.hyps))) where
    pub operands_stop : (s : Stop) → Stops s ops → Stops s whole
    operands_stop s h = stopped_asked _ _ _ s many (stopped_before ops _ s h)

    pub disjoint_rule_fails : (f : Fault) → AllHold ops → f ≡ fault (place n) U.Disjoint → (AreDisjoint ctx es a.params → ⊥) → FailsFirst whole f
    disjoint_rule_fails f h is out = inr (many, fails-after ops _ f h (inl (out, is)))

    pub subs_stop : (s : Stop) → AllHold ops → AreDisjoint ctx es a.params → Stops s subs → Stops s whole
    subs_stop s h apart k = stopped_asked _ _ _ s many (stopped_after ops _ s h (stopped_asked _ _ _ s apart k))

    pub citation_holds : AllHold ops → AreDisjoint ctx es a.params → AllHold subs → AllHold whole
    citation_holds h apart k = (many, all_hold-both ops _ h (apart, k))

    pub operands_fit : ExprsThere (length sigs) (length ctx) es → AllHold (exprs_rules sigs ctx es (parts (part (parts n) 1))) → AllHold ops → Fits sigs ctx es a.params
    operands_fit there sorted h = fits_by_checks sigs ctx es (parts (part (parts n) 1)) (parts (part (parts n) 1)) a.params there sorted many.0 h

-- ---- citations

module _ (env : List Declaration) (ctx : List Binder) (hyps lets : Trees) where
  module _ (T : ℕ) (es : Trees) (ps : Proofs) (n : Node) where
    abbrev of_operands : Checks Fault
    of_operands = exprs_rules (signatures env) ctx es (parts (part (parts n) 1))

    abbrev of_subproofs : Checks Fault
    of_subproofs = proofs_rules env ctx hyps lets ps (after 2 (parts n))

    abbrev of_citation : Checks Fault
    of_citation = proof_rules env ctx hyps lets (by_citation T es ps) n

    pub citation_operands_stop : (s : Stop) → Stops s of_operands → Stops s of_citation
    citation_operands_stop s h = stopped_before of_operands _ s h

    pub citation_subproofs_stop : (s : Stop) → AllHold of_operands → Stops s of_subproofs → Stops s of_citation
    citation_subproofs_stop s h k = stopped_after of_operands _ s h (stopped_before of_subproofs _ s k)

  -- one proof more of a list
  module _ (xs : List Coded) (i : ℕ) (p : Coded) (below : i < length xs) (is : p ≡ get_or xs i p) where
    pub proofs_cut : proofs_view (drop i xs) ≡ more_proofs (proof_view p) (proofs_view (drop (i + 1) xs))
    proofs_cut = ap proofs_view (drop_more xs i p below) ∙ ap (λ x. more_proofs (proof_view x) (proofs_view (drop (i + 1) xs))) (sym is)

    pub proofs_rules_cut : (ns : Nodes) → proofs_rules env ctx hyps lets (proofs_view (drop i xs)) ns
        ≡ (proof_rules env ctx hyps lets (proof_view p) (first ns) >> proofs_rules env ctx hyps lets (proofs_view (drop (i + 1) xs)) (rest ns))
    proofs_rules_cut ns = ap (λ ps. proofs_rules env ctx hyps lets ps ns) proofs_cut

    pub all_proved_cut : all_proved env hyps lets (proofs_view (drop i xs)) ≡ more (proved env hyps lets (proof_view p)) (all_proved env hyps lets (proofs_view (drop (i + 1) xs)))
    all_proved_cut = ap (all_proved env hyps lets) proofs_cut

    pub proofs_there_cut : (ts vs ths hs ls : ℕ) → ProofsThere ts vs ths hs ls (proofs_view (drop i xs)) → ProofsThere ts vs ths hs ls (proofs_view (drop (i + 1) xs))
    proofs_there_cut ts vs ths hs ls there = (subst (ProofsThere ts vs ths hs ls) proofs_cut there).1

    pub proofs_size_step : (m : ℕ) → proofs_steps (proofs_view (drop i xs)) ≤ m → (proof_steps (proof_view p) ≤ m) × (proofs_steps (proofs_view (drop (i + 1) xs)) ≤ m)
    proofs_size_step m h = (omega (arith, ap proofs_steps proofs_cut), omega (arith, ap proofs_steps proofs_cut))

  -- ---- conversions of proofs

  module _ (e : Tree) (c : Conversion) (p : Proof) (n : Node) where
    abbrev of_expr : Checks Fault
    of_expr = expr_rules (signatures env) ctx e (part (parts n) 1)

    abbrev of_conv : Checks Fault
    of_conv = conv_rules env ctx c (part (parts n) 2)

    abbrev of_proof : Checks Fault
    of_proof = proof_rules env ctx hyps lets p (part (parts n) 3)

    abbrev of_conversion : Checks Fault
    of_conversion = proof_rules env ctx hyps lets (by_conv e c p) n

    pub conversion_proof_stop : (s : Stop) → AllHold of_expr → AllHold of_conv → Stops s of_proof → Stops s of_conversion
    conversion_proof_stop s h k l = stopped_after of_expr _ s h (stopped_after of_conv _ s k (stopped_before of_proof _ s l))

    pub conversion_differs : (f : Fault) → AllHold of_expr → AllHold of_conv → AllHold of_proof → f ≡ fault (place n) U.Conversion
        → ((left c ≡ e) × (right c ≡ proved env hyps lets p) → ⊥) → FailsFirst of_conversion f
    conversion_differs f h k l is out = fails-after of_expr _ f h (fails-after of_conv _ f k (fails-after of_proof _ f l (inl (out, is))))

    pub conversion_holds : AllHold of_expr → AllHold of_conv → AllHold of_proof → (left c ≡ e) × (right c ≡ proved env hyps lets p) → AllHold of_conversion
    conversion_holds h k l is = all_hold-both of_expr _ h (all_hold-both of_conv _ k (all_hold-both of_proof _ l (is, tt)))

-- what each of a list proves
module _ (env : List Declaration) (hyps lets : Trees) where
  pub proved_many : (xs : List Coded) → length (listed (all_proved env hyps lets (proofs_view xs))) ≡ length xs
  proved_many [] = refl
  proved_many (x ∷ xs) = ap suc (proved_many xs)

  pub proved_read : (xs : List Coded) (i : ℕ) (p : Coded) → i < length xs → p ≡ get_or xs i p → operand (all_proved env hyps lets (proofs_view xs)) i ≡ proved env hyps lets (proof_view p)
  proved_read [] i p below is = absurd (omega (arith, below))
  proved_read (x ∷ xs) zero p below is = ap (λ q. proved env hyps lets (proof_view q)) (sym is)
  proved_read (x ∷ xs) (suc i) p below is = proved_read xs i p (omega (arith, below)) is

-- what is asked and reported of a proof is asked and reported of an equal one
module _ {p q : Proof} (is : q ≡ p) where
  pub there_as : (ts n ths hs ls : ℕ) → ProofThere ts n ths hs ls q → ProofThere ts n ths hs ls p
  there_as ts n ths hs ls = subst (ProofThere ts n ths hs ls) is

  pub judged_as : {A : Type 0} (r : Result A Stop) (env : List Declaration) (ctx : List Binder) (hyps lets : Trees) (n : Node)
      → Judged r (proof_rules env ctx hyps lets p n) → Judged r (proof_rules env ctx hyps lets q n)
  judged_as r env ctx hyps lets n = subst (λ x. Judged r (proof_rules env ctx hyps lets x n)) (sym is)

  pub claims_as : {A : Type 0} (r : Result A Stop) (env : List Declaration) (hyps lets before after : Trees)
      → OnOk r (after ≡ with_fact before (proved env hyps lets p)) → OnOk r (after ≡ with_fact before (proved env hyps lets q))
  claims_as r env hyps lets before after = subst (λ x. OnOk r (after ≡ with_fact before (proved env hyps lets x))) (sym is)

-- the parts of a proof, as they are read
pub conv_is : (read : Coded) (e : Expr) (conv : Conversion) (part : Proof) (c : ConvRead) (p : Coded) → read ≡ codes.Conv e conv part → conversion c ≡ conv → proof_view p ≡ part
    → proof_view read ≡ by_conv (tree e) (conversion c) (proof_view p)
conv_is read e conv part c p is conv-is part-is = ap proof_view is ∙ ap (λ z. by_conv (tree e) z part) (sym conv-is) ∙ ap (by_conv (tree e) (conversion c)) (sym part-is)

pub let_is : (read : Coded) (one two : Proof) (p q : Coded) → read ≡ codes.Let one two → proof_view p ≡ one → proof_view q ≡ two → proof_view read ≡ by_let (proof_view p) (proof_view q)
let_is read one two p q is one-is two-is = ap proof_view is ∙ ap (λ z. by_let z two) (sym one-is) ∙ ap (by_let (proof_view p)) (sym two-is)
