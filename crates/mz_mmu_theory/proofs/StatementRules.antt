-- The rules of a statement hold exactly where it is legal by its proof.
use Rattle.std.proofs.Common.{ℕ, zero, suc, ◌≡◌, Bool, true, true≢false, List, [], ◌∷◌, ◌++◌, slice_get, length, All, Contains, Option, Some, None, refl, sym, ◌∙◌, subst}
use Rattle.std.proofs.lemmas.Option.{none-some}
use Rattle.mz_base.specs.Checks.{AllHold}
use Rattle.mz_base.proofs.Offered.{all_hold-first, all_hold-rest, all_hold-both}
use Rattle.mz_sexpr.specs.Node.{Node, Nodes, parts}
use Rattle.mz_sexpr.specs.Number.{first, rest}
use Rattle.mz_logic_theory.specs.Tree.{Trees, none, more}
use Rattle.mz_logic_theory.specs.Signature.{Signature}
use Rattle.mz_logic_theory.specs.Declaration.{Form, plain_form, abstract_form, defined, Assertion, Declaration, sort_decl, term_decl, assertion_decl, dummies_of, body_of, sorts, signatures}
use Rattle.mz_logic_theory.specs.Modifiers.{MayBeDummySort}
use Rattle.mz_logic_theory.specs.Sorts.{HasSort, HasProvable, AreProvable}
use Rattle.mz_logic_theory.specs.Variables.{InFV}
use Rattle.mz_logic_theory.specs.Legality.{EachTree, IsDummy, IsLegalDecl}
use Rattle.mz_logic_theory.specs.LegalLists.{AreDummies}
use Rattle.mz_logic_theory.specs.Derivations.{Derives, no_derivs}
use Rattle.mz_logic_theory.specs.declared.binder.Binder.{Binder}
use Rattle.mz_logic_theory.proofs.Offered.{one_at, sort_is, each_from_all, all_from_each, legal_by_rules, terms_are_sorted, assertions_are_sorted}
use Rattle.mz_mmu_theory.specs.Gaps.{SomeLeavesOnly}
use Rattle.mz_mmu_theory.specs.Statements.{HasGapsOnly, Statement}
use Rattle.mz_mmu_theory.specs.Proof.{Proof}
use Rattle.mz_mmu_theory.specs.Parts.{part, declared_parts}
use Rattle.mz_mmu_theory.specs.Rules.{expr_rules, param_rules, dummy_rules, claim_rules, claims_rules, hyp_node, body_rules, assertion_rules, theorem_rules, decl_rules, proof_rules, statement_rules}
use Rattle.mz_mmu_theory.specs.Names.{ExprsThere, DummiesThere, StatedProofThere, DeclThere, StatementThere}
use Rattle.mz_mmu_theory.proofs.ParamRules.{are_params, param_rules_hold}
use Rattle.mz_mmu_theory.proofs.ExprRules.{checks_by_sort, claim_from, claim_to, sort_by_checks}
use Rattle.mz_mmu_theory.specs.Meaning.{derivation, IsProofOf, IsProvedAsStated, IsLegalAsStated}
use Rattle.mz_mmu_theory.proofs.GapFree.{allowed}
use Rattle.mz_mmu_theory.proofs.ProofRules.{derives_by_checks, checks_by_derives}

-- ---- dummies

module _ (env : List Declaration) where
  dummies_from : (bs : List Binder) (ns : Nodes) → AllHold (dummy_rules env bs ns) → (i : ℕ) (b : Binder) → slice_get bs i ≡ Some b → MayBeDummySort (sorts env) b.sort
  dummies_from [] ns all i b at = absurd (none-some _ at)
  dummies_from (c ∷ bs) ns (here, all) zero b at = subst (λ x. MayBeDummySort (sorts env) x.sort) (one_at refl at) here
  dummies_from (c ∷ bs) ns (here, all) (suc i) b at = dummies_from bs (rest ns) all i b at

  dummies_to : (bs : List Binder) (ns : Nodes) → ((i : ℕ) (b : Binder) → slice_get bs i ≡ Some b → MayBeDummySort (sorts env) b.sort) → AllHold (dummy_rules env bs ns)
  dummies_to [] ns h = tt
  dummies_to (c ∷ bs) ns h = (h zero c refl, dummies_to bs (rest ns) (λ i b at. h (suc i) b at))

  pub are_dummies : (ds : List Binder) (ns : Nodes) → DummiesThere env ds → AllHold (dummy_rules env ds ns) → AreDummies (sorts env) ds
  are_dummies ds ns (_, shape) all i b at = (each_from_all IsDummy ds shape i b at, dummies_from ds ns all i b at)

  dummy_rules_hold : (ds : List Binder) (ns : Nodes) → AreDummies (sorts env) ds → AllHold (dummy_rules env ds ns)
  dummy_rules_hold ds ns right = dummies_to ds ns (λ i b at. (right i b at).1)

  all_dummies : (ds : List Binder) → AreDummies (sorts env) ds → All (λ b. IsDummy b × MayBeDummySort (sorts env) b.sort) ds
  all_dummies ds right = all_from_each (λ b. IsDummy b × MayBeDummySort (sorts env) b.sort) ds right

  each_dummy : (ds : List Binder) → All (λ b. IsDummy b × MayBeDummySort (sorts env) b.sort) ds → AreDummies (sorts env) ds
  each_dummy ds all = each_from_all (λ b. IsDummy b × MayBeDummySort (sorts env) b.sort) ds all

-- ---- hypotheses and conclusions

module _ (env : List Declaration) (ctx : List Binder) where
  abbrev sigs : List Signature
  sigs = signatures env

  claims_from : (ax : _) (es : Trees) (ns : Nodes) → ExprsThere (length sigs) (length ctx) es → AllHold (claims_rules env ctx ax es ns) → AreProvable env ctx es
  claims_from ax none ns there all i e at = absurd (none-some _ at)
  claims_from ax (more d es) ns (there, inner) all zero e at =
      subst (HasProvable env ctx) (one_at refl at) (claim_from env ctx d (hyp_node ax (first ns)) there (all_hold-first (claim_rules env ctx d (hyp_node ax (first ns))) _ all))
  claims_from ax (more d es) ns (there, inner) all (suc i) e at =
      claims_from ax es (rest ns) inner (all_hold-rest (claim_rules env ctx d (hyp_node ax (first ns))) _ all) i e at

  claims_to : (ax : _) (es : Trees) (ns : Nodes) → AreProvable env ctx es → AllHold (claims_rules env ctx ax es ns)
  claims_to ax none ns h = tt
  claims_to ax (more e es) ns h =
      all_hold-both (claim_rules env ctx e (hyp_node ax (first ns))) _ (claim_to env ctx e (hyp_node ax (first ns)) (h zero e refl)) (claims_to ax es (rest ns) (λ i d at. h (suc i) d at))

-- ---- terms

module _ (env : List Declaration) (sig : Signature) where
  abbrev BodyRight : Form → Type 0
  BodyRight F = AreDummies (sorts env) (dummies_of F)
      × EachTree (λ e. HasSort (signatures env) (sig.params ++ dummies_of F) e sig.result.sort
      × ((x : ℕ) → InFV (signatures env) (sig.params ++ dummies_of F) x e → Contains sig.result.deps x)) (body_of F)

  body_from : (F : Form) (ps : Nodes) → DummiesThere env (dummies_of F) → ExprsThere (length (signatures env)) (length (sig.params ++ dummies_of F)) (body_of F)
      → AllHold (body_rules env sig F ps) → BodyRight F
  body_from (defined ds e) ps dummies (there, _) all =
      let ctx = sig.params ++ ds in
      let A = dummy_rules env ds (parts (part ps 4)) in
      let B = expr_rules (signatures env) ctx e (part ps 5) in
      let on = all_hold-rest A _ all in
      let own = all_hold-rest B _ on in (
        are_dummies env ds (parts (part ps 4)) dummies (all_hold-first A _ all),
        (
          (
            subst (HasSort (signatures env) ctx e) own.1.0 (sort_by_checks (signatures env) ctx e (part ps 5) there (all_hold-first B _ on)),
            own.0,
          ),
          tt,
        ),
      )
  body_from _ ps dummies there all = (λ i b at. absurd (none-some _ at), tt)

  body_to : (F : Form) (ps : Nodes) → BodyRight F → AllHold (body_rules env sig F ps)
  body_to (defined ds e) ps (right, ((h, fv), _)) =
      all_hold-both (dummy_rules env ds (parts (part ps 4))) _ (dummy_rules_hold env ds (parts (part ps 4)) right)
      (all_hold-both (expr_rules (signatures env) (sig.params ++ ds) e (part ps 5)) _ (checks_by_sort (signatures env) (sig.params ++ ds) e (part ps 5) _ h)
      (fv, (sort_is (signatures env) (sig.params ++ ds) e _ h, tt)))
  body_to _ ps h = tt

-- ---- proofs of theorems

module _ (gaps : Bool) (env : List Declaration) (a : Assertion) where
  proof_from : (ds : List Binder) (p : Option Proof) (ps : Nodes) → StatedProofThere env a ds p → SomeLeavesOnly (gaps ≡ true) p → AllHold (theorem_rules env a ds p ps) → IsProvedAsStated gaps env (assertion_decl a) ds p
  proof_from ds None ps there leaves all thm = absurd (true≢false (sym there ∙ thm))
  proof_from ds (Some p) ps (thm, dummies, there) leaves all thm' =
      let A = dummy_rules env ds (parts (part ps 5)) in
      let B = proof_rules env (a.params ++ ds) a.hyps none p (part ps 6) in
      let on = all_hold-rest A _ all in
      let own = all_hold-rest B _ on in
      let k = derives_by_checks env (a.params ++ ds) a.hyps p no_derivs none (part ps 6) tt there (all_hold-first B _ on) in (
        are_dummies env ds (parts (part ps 5)) dummies (all_hold-first A _ all),
        (p, refl, (subst (Derives env (a.params ++ ds) a.hyps (derivation no_derivs p)) own.0 k.0, k.1, allowed gaps env p leaves)),
      )

  proof_to : (ds : List Binder) (p : Option Proof) (ps : Nodes) → StatedProofThere env a ds p → IsProvedAsStated gaps env (assertion_decl a) ds p → AllHold (theorem_rules env a ds p ps)
  proof_to ds None ps there h = tt
  proof_to ds (Some p) ps (thm, dummies, there) h = go (h thm)
    where
      go : AreDummies (sorts env) ds × ((q : Proof) × (Some p ≡ Some q) × IsProofOf gaps env (a.params ++ ds) a q) → AllHold (theorem_rules env a ds (Some p) ps)
      go (right, (q, is, proof)) =
          let same : q ≡ p = (let e : Some p ≡ Some q = is in cc) in
          let mine : IsProofOf gaps env (a.params ++ ds) a p = subst (IsProofOf gaps env (a.params ++ ds) a) same proof in
          let k = checks_by_derives env (a.params ++ ds) a.hyps p no_derivs none (part ps 6) a.conclusion tt there mine.0 mine.1 in
          all_hold-both (dummy_rules env ds (parts (part ps 5))) _ (dummy_rules_hold env ds (parts (part ps 5)) right)
          (all_hold-both (proof_rules env (a.params ++ ds) a.hyps none p (part ps 6)) _ k.0 (k.1, tt))

-- ---- statements

legal_by_checks : (env : List Declaration) (d : Declaration) (ds : List Binder) (p : Option Proof) (ps : Nodes) → DeclThere env d ds p → AllHold (decl_rules env d ds p ps) → IsLegalDecl env d
legal_by_checks env (sort_decl m) ds p ps there all = legal_by_rules env (sort_decl m) tt tt tt tt tt tt tt tt
legal_by_checks env (term_decl d) ds p ps (sorts_there, dummies_there, body_there) all =
    let A = param_rules env d.signature.params 0 d.signature.params (parts (part ps 2)) in
    let own = all_hold-rest A _ all in
    let body = body_from env d.signature d.form ps dummies_there body_there own.1 in
    (terms_are_sorted env d).1 (
      sorts_there,
      are_params env d.signature.params (parts (part ps 2)) (all_hold-first A _ all),
      all_dummies env (dummies_of d.form) body.0,
      own.0.0,
      own.0.1,
      body.1,
    )
legal_by_checks env (assertion_decl a) ds p ps (sorts_there, hyps_there, concl_there, proof_there) all =
    let A = param_rules env a.params 0 a.params (parts (part ps 2)) in
    let B = claims_rules env a.params a.is_axiom a.hyps (parts (part ps 3)) in
    let front = all_hold-first (assertion_rules env a ps) _ all in
    let on = all_hold-rest A _ front in
    (assertions_are_sorted env a).1 (
      sorts_there,
      are_params env a.params (parts (part ps 2)) (all_hold-first A _ front),
      claims_from env a.params a.is_axiom a.hyps (parts (part ps 3)) hyps_there (all_hold-first B _ on),
      claim_from env a.params a.conclusion (part ps 4) concl_there (all_hold-rest B _ on),
    )

proved_by_checks : (gaps : Bool) (env : List Declaration) (d : Declaration) (ds : List Binder) (p : Option Proof) (ps : Nodes) → DeclThere env d ds p → SomeLeavesOnly (gaps ≡ true) p
    → AllHold (decl_rules env d ds p ps) → IsProvedAsStated gaps env d ds p
proved_by_checks gaps env (assertion_decl a) ds p ps (_, _, _, proof_there) leaves all =
    proof_from gaps env a ds p ps proof_there leaves (all_hold-rest (assertion_rules env a ps) _ all)
proved_by_checks gaps env _ ds p ps there leaves all = tt

checks_by_legal : (gaps : Bool) (env : List Declaration) (d : Declaration) (ds : List Binder) (p : Option Proof) (ps : Nodes) → DeclThere env d ds p
    → IsLegalDecl env d → IsProvedAsStated gaps env d ds p → AllHold (decl_rules env d ds p ps)
checks_by_legal gaps env (sort_decl m) ds p ps there legal proof = tt
checks_by_legal gaps env (term_decl d) ds p ps there legal proof =
    let h = (terms_are_sorted env d).0 legal in
    all_hold-both (param_rules env d.signature.params 0 d.signature.params (parts (part ps 2))) _ (param_rules_hold env d.signature.params (parts (part ps 2)) h.1)
    ((h.3, h.4), body_to env d.signature d.form ps (each_dummy env (dummies_of d.form) h.2, h.5))
checks_by_legal gaps env (assertion_decl a) ds p ps (_, _, _, proof_there) legal proof =
    let h = (assertions_are_sorted env a).0 legal in
    all_hold-both (assertion_rules env a ps) _
    (all_hold-both (param_rules env a.params 0 a.params (parts (part ps 2))) _ (param_rules_hold env a.params (parts (part ps 2)) h.1)
    (all_hold-both (claims_rules env a.params a.is_axiom a.hyps (parts (part ps 3))) _ (claims_to env a.params a.is_axiom a.hyps (parts (part ps 3)) h.2)
    (claim_to env a.params a.conclusion (part ps 4) h.3)))
    (proof_to gaps env a ds p ps proof_there proof)

pub legal_decl : (env : List Declaration) (s : Statement) (n : Node) → StatementThere env s → AllHold (statement_rules env s n) → IsLegalDecl env s.decl
legal_decl env s n there all = legal_by_checks env s.decl s.dummies s.proof (declared_parts n) there.0 all

pub legal_statement : (gaps : Bool) (env : List Declaration) (s : Statement) (n : Node) → StatementThere env s → HasGapsOnly (gaps ≡ true) s → AllHold (statement_rules env s n)
    → IsLegalAsStated gaps env s
legal_statement gaps env s n there leaves all = (
  legal_decl env s n there all,
  there.1,
  proved_by_checks gaps env s.decl s.dummies s.proof (declared_parts n) there.0 leaves all,
)

pub rules_of_legal : (gaps : Bool) (env : List Declaration) (s : Statement) (n : Node) → StatementThere env s → IsLegalAsStated gaps env s → AllHold (statement_rules env s n)
rules_of_legal gaps env s n there (legal, _, proof) = checks_by_legal gaps env s.decl s.dummies s.proof (declared_parts n) there.0 legal proof
