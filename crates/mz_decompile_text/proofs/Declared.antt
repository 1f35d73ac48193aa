-- What stands behind a statement's kind is read of its phrases.
use Rattle.std.proofs.Common.{ℕ, ◌≡◌, ◌<◌, ◌≤◌, ◌+◌, Bool, true, false, List, [], ◌∷◌, ◌++◌, length, map, All, Option, Some, None, refl, sym, ap, subst, arith, slice_get, length-append}
use Rattle.std.proofs.lemmas.List.Elements.{All-weaker}
use Rattle.std.proofs.lemmas.Option.{slice_get_within}
use Rattle.mz_logic_theory.specs.Tree.{Tree, Trees, listed}
use Rattle.mz_logic_theory.specs.Signature.{Signature}
use Rattle.mz_logic_theory.specs.Declaration.{plain_form, defined, Declaration, sort_decl, term_decl, assertion_decl, sorts, signatures, assertions}
use Rattle.mz_logic_theory.specs.Derivations.{Derives, no_derivs}
use Rattle.mz_logic_theory.specs.Legality.{IsBinderThere, IsLegalDecl, IsDummy as IsRightDummy}
use Rattle.mz_logic_theory.specs.LegalLists.{AreDummies as HasRightDummies}
use Rattle.mz_logic_theory.specs.Variables.{IsBoundAt}
use Rattle.mz_logic_theory.specs.declared.binder.Binder.{Binder}
use Rattle.mz_logic_theory.specs.declared.binder.SortMods.{SortMods}
use Rattle.mz_logic_theory.proofs.Offered.{each_from_all}
use Rattle.mz_base.specs.Names.{IsNew}
use Rattle.mz_mmu_theory.specs.Name.{Names, IsName}
use Rattle.mz_mmu_theory.specs.Gaps.{LeavesOnly}
use Rattle.mz_mmu_theory.specs.Proof.{Proof}
use Rattle.mz_mmu_theory.specs.Statements.{Statement, IsDeclared}
use Rattle.mz_mmu_theory.specs.declared.kind.Kind.TheVariants.{Sort as sort_kind, Term as term_kind, Axiom as axiom_kind, Def as def_kind, Theorem as theorem_kind}
use Rattle.mz_mmu_theory.specs.Meaning.{IsProvedAsStated, derivation, LetsDerive}
use Rattle.mz_decompile_text.specs.Phrases.{a_word, a_list}
use Rattle.mz_decompile_text.specs.Phrasing.{Vocabulary, of_parts, expression, expressions, binders, result, named_hypotheses, proof, modifiers}
use Rattle.mz_decompile_text.specs.Phrasable.{HasNames, IsWithin}
use Rattle.mz_decompile_text.proofs.Saying.{AllSay, take, done, all-so}
use Rattle.mz_decompile_text.proofs.Numbers.{upto, new-upto, numbered-upto}
use Rattle.mz_decompile_text.proofs.Behind.{Behind}
use Rattle.mz_decompile_text.proofs.Exprs.{a-new-name, Known, expr-said, expr-list-said}
use Rattle.mz_decompile_text.proofs.Steps.{proof-said}
use Rattle.mz_decompile_text.proofs.Modifiers.{modifiers-said}
use Rattle.mz_decompile_text.proofs.Binders.{IsGoodDummy, params-said, dummies-said, result-said, good-params, named-hyps-said}

abbrev pub stated : Bool → List ℕ → Declaration → List Binder → Option Proof → Statement
stated b w d ds p = record { is_local = b; name = w; decl = d; dummies = ds; proof = p }

-- ---- what legality gives of dummies and dependencies

bound-below : (ps : List Binder) (deps : List ℕ) → All (IsBoundAt ps) deps → All (λ j. j < length ps) deps
bound-below ps deps are = All-weaker (IsBoundAt ps) (λ j. j < length ps) (λ j h. slice_get_within ps j h.0 h.1) deps are

body-dummies : (env : List Declaration) (k : ℕ) (ds : List Binder) → All (IsBinderThere (sorts env) k) ds → All IsRightDummy ds
    → (i : ℕ) (b : Binder) → slice_get ds i ≡ Some b → IsGoodDummy (length (sorts env)) i b
body-dummies env k ds there are i b at =
    let is = each_from_all IsRightDummy ds are i b at in ((each_from_all (IsBinderThere (sorts env) k) ds there i b at).0, is.0, is.1)

proof-dummies : (env : List Declaration) (ds : List Binder) → HasRightDummies (sorts env) ds → (i : ℕ) (b : Binder) → slice_get ds i ≡ Some b → IsGoodDummy (length (sorts env)) i b
proof-dummies env ds are i b at = let ((bound, deps), (m, there, _, _)) = are i b at in (slice_get_within (sorts env) b.sort m there, bound, deps)

module _ (v : Vocabulary) (n : ℕ) (has : HasNames v n) (env : List Declaration) (names : Names) (behind : Behind v n (length (sorts env)) (signatures env) (length (assertions env)) names) where
  known : (k : ℕ) → k ≤ n → Known v names (signatures env) k (upto v.variable k)
  known k le = record {
    variables = numbered-upto v.variable n (has.variables, has.own_variables) k le;
    terms = behind.terms;
    apart = λ t there. new-upto v.variable k (v.term t) (λ x less is. behind.apart t x there (omega (arith, less, le)) is);
    constants = behind.constants;
  }

  -- the same where a context has so many variables
  known-in : (ps ds : List Binder) → length (ps ++ ds) ≤ n → Known v names (signatures env) (length (ps ++ ds)) (upto v.variable (length ps + length ds))
  known-in ps ds le =
      let many : length (ps ++ ds) ≡ length ps + length ds = length-append ps ds in
      subst (λ k. Known v names (signatures env) k (upto v.variable (length ps + length ds))) (sym many) (known (length ps + length ds) (omega arith))

  pub sort-said : (b : Bool) (w : List ℕ) (m : SortMods) (ds : List Binder) (p : Option Proof) → IsName w → IsNew names.sorts w → IsWithin n (sort_decl m) ds p
      → AllSay (of_parts (a_word w ∷ map a_word (modifiers m))) (λ ns. IsDeclared names sort_kind ns (stated b w (sort_decl m) ds p))
  sort-said b w m ds p name new (low, none_, unproved) =
      let words = modifiers-said m low in
      take (a-new-name names.sorts w name new)
      (all-so words.said (λ ns are h is. (words.modifiers_, is, are, ap (λ k. sort_decl (record { 0 = k })) (sym words.bits), none_, unproved)))

  pub term-said : (b : Bool) (w : List ℕ) (sig : Signature) (ds : List Binder) (p : Option Proof) → IsName w → IsNew names.terms w
      → IsLegalDecl env (term_decl (record { signature = sig; form = plain_form })) → IsWithin n (term_decl (record { signature = sig; form = plain_form })) ds p
      → AllSay (of_parts (a_word w ∷ a_list (binders v 0 sig.params) ∷ result v sig.result ∷ []))
      (λ ns. IsDeclared names term_kind ns (stated b w (term_decl (record { signature = sig; form = plain_form })) ds p))
  term-said b w sig ds p name new legal (few, ascend, rising, _, none_, unproved) =
      let few-params : length sig.params ≤ n = let e = length-append sig.params [] in omega arith in
      take (a-new-name names.terms w name new)
      (take (params-said v n (has.variables, has.own_variables) names (length (sorts env)) behind.sorts_ sig.params few-params
      (good-params (sorts env) (length (sig.params ++ [])) sig.params legal.0.0 legal.1.0.0 ascend))
      (take (result-said v n (has.variables, has.own_variables) names (length (sorts env)) behind.sorts_ (length sig.params) sig.result few-params legal.0.2
      (bound-below sig.params sig.result.deps legal.1.0.2) rising)
      (done (λ m3 h3 m2 h2 m1 h1. (sig.params, upto v.variable (length sig.params), sig.result, h1, h2, h3, refl, none_, unproved)))))

  pub def-said : (b : Bool) (w : List ℕ) (sig : Signature) (es : List Binder) (body : Tree) (ds : List Binder) (p : Option Proof) → IsName w → IsNew names.terms w
      → IsLegalDecl env (term_decl (record { signature = sig; form = defined es body })) → IsWithin n (term_decl (record { signature = sig; form = defined es body })) ds p
      → AllSay (of_parts (a_word w ∷ a_list (binders v 0 sig.params) ∷ result v sig.result ∷ a_list (binders v (length sig.params) es) ∷ expression v body ∷ []))
      (λ ns. IsDeclared names def_kind ns (stated b w (term_decl (record { signature = sig; form = defined es body })) ds p))
  def-said b w sig es body ds p name new legal (few, ascend, rising, _, none_, unproved) =
      let many = length-append sig.params es in
      let few-params : length sig.params ≤ n = omega arith in
      take (a-new-name names.terms w name new)
      (take (params-said v n (has.variables, has.own_variables) names (length (sorts env)) behind.sorts_ sig.params few-params
      (good-params (sorts env) (length (sig.params ++ es)) sig.params legal.0.0 legal.1.0.0 ascend))
      (take (result-said v n (has.variables, has.own_variables) names (length (sorts env)) behind.sorts_ (length sig.params) sig.result few-params legal.0.2
      (bound-below sig.params sig.result.deps legal.1.0.2) rising)
      (take (dummies-said v n (has.variables, has.own_variables) names (length (sorts env)) behind.sorts_ (length sig.params) es (omega (arith, many, few))
      (body-dummies env (length (sig.params ++ es)) es legal.0.1 legal.1.0.1))
      (take (expr-said v names (signatures env) (length (sig.params ++ es)) (upto v.variable (length sig.params + length es)) (known-in sig.params es few) body legal.0.4.0)
      (done (λ m5 h5 m4 h4 m3 h3 m2 h2 m1 h1. (
        sig.params,
        upto v.variable (length sig.params),
        sig.result,
        es,
        upto v.variable (length sig.params + length es),
        body,
        h1,
        h2,
        h3,
        h4,
        h5,
        refl,
        none_,
        unproved,
      )))))))

  pub axiom-said : (b : Bool) (w : List ℕ) (ps : List Binder) (hyps : Trees) (c : Tree) (ds : List Binder) → IsName w → IsNew names.assertions w
      → IsLegalDecl env (assertion_decl (record { is_axiom = true; params = ps; hyps = hyps; conclusion = c }))
      → IsWithin n (assertion_decl (record { is_axiom = true; params = ps; hyps = hyps; conclusion = c })) ds None
      → AllSay (of_parts (a_word w ∷ a_list (binders v 0 ps) ∷ a_list (expressions v hyps) ∷ expression v c ∷ []))
      (λ ns. IsDeclared names axiom_kind ns (stated b w (assertion_decl (record { is_axiom = true; params = ps; hyps = hyps; conclusion = c })) ds None))
  axiom-said b w ps hyps c ds name new legal (few, _, ascend, (_, none_)) =
      let few-params : length ps ≤ n = let e = length-append ps ds in omega arith in
      take (a-new-name names.assertions w name new)
      (take (params-said v n (has.variables, has.own_variables) names (length (sorts env)) behind.sorts_ ps few-params (good-params (sorts env) (length ps) ps legal.0.0 legal.1.0 ascend))
      (take (expr-list-said v names (signatures env) (length ps) (upto v.variable (length ps)) (known (length ps) few-params) hyps legal.0.1)
      (take (expr-said v names (signatures env) (length ps) (upto v.variable (length ps)) (known (length ps) few-params) c legal.0.2)
      (done (λ m4 h4 m3 h3 m2 h2 m1 h1. (ps, upto v.variable (length ps), hyps, c, h1, h2, h3, h4, refl, none_, refl))))))

  pub theorem-said : (b : Bool) (w : List ℕ) (ps : List Binder) (hyps : Trees) (c : Tree) (ds : List Binder) (q : Proof) → IsName w → IsNew names.assertions w
      → IsLegalDecl env (assertion_decl (record { is_axiom = false; params = ps; hyps = hyps; conclusion = c }))
      → IsProvedAsStated false env (assertion_decl (record { is_axiom = false; params = ps; hyps = hyps; conclusion = c })) ds (Some q)
      → IsWithin n (assertion_decl (record { is_axiom = false; params = ps; hyps = hyps; conclusion = c })) ds (Some q) → LeavesOnly ⊥ q
      → AllSay (of_parts (a_word w ∷ a_list (binders v 0 ps) ∷ a_list (named_hypotheses v 0 hyps) ∷ expression v c ∷ a_list (binders v (length ps) ds) ∷ proof v 0 q ∷ []))
      (λ ns. IsDeclared names theorem_kind ns (stated b w (assertion_decl (record { is_axiom = false; params = ps; hyps = hyps; conclusion = c })) ds (Some q)))
  theorem-said b w ps hyps c ds q name new legal proved (few, few-hyps, ascend, (_, sees)) free =
      let many = length-append ps ds in
      let few-params : length ps ≤ n = omega arith in
      let (dummies, (q', same, (derives, derive, _))) = proved refl in
      let this : q' ≡ q = cc in
      take (a-new-name names.assertions w name new)
      (take (params-said v n (has.variables, has.own_variables) names (length (sorts env)) behind.sorts_ ps few-params (good-params (sorts env) (length ps) ps legal.0.0 legal.1.0 ascend))
      (take (named-hyps-said v n (has.hypotheses, has.own_hypotheses) names (signatures env) (length ps) (upto v.variable (length ps)) (known (length ps) few-params) hyps few-hyps legal.0.1)
      (take (expr-said v names (signatures env) (length ps) (upto v.variable (length ps)) (known (length ps) few-params) c legal.0.2)
      (take (dummies-said v n (has.variables, has.own_variables) names (length (sorts env)) behind.sorts_ (length ps) ds (omega (arith, many, few)) (proof-dummies env ds dummies))
      (take (proof-said v names env (ps ++ ds) (upto v.variable (length ps + length ds)) (known-in ps ds few) n hyps behind.assertions_ has few-hyps 0 no_derivs q c (omega arith)
      (subst (λ r. Derives env (ps ++ ds) hyps (derivation no_derivs r) c) this derives) (subst (λ r. LetsDerive env (ps ++ ds) hyps no_derivs r) this derive) sees free)
      (done (λ m6 h6 m5 h5 m4 h4 m3 h3 m2 h2 m1 h1. (
        ps,
        upto v.variable (length ps),
        hyps,
        upto v.hypothesis (length (listed hyps)),
        c,
        upto v.variable (length ps + length ds),
        q,
        h1,
        h2,
        h3,
        h4,
        h5,
        h6,
        refl,
        refl,
      ))))))))
