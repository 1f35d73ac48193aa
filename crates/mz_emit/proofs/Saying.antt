-- What a statement that may follow others has for its words, its stream and its body.
use Rattle.std.proofs.Common.{ℕ, suc, ◌≡◌, ◌≤◌, ◌<◌, ◌+◌, Bool, true, false, if◌then◌else◌, ◌⊎◌, inl, inr, List, [], ◌∷◌, ◌++◌, length, All, refl, sym, subst, ap, ◌∙◌, arith}
use Rattle.std.specs.Prelude.{Some, None, count_by, cond, MatchBool}
use Rattle.std.proofs.lemmas.List.Elements.{All-nil, All-append, All-weaker}
use Rattle.std.proofs.lemmas.Option.{slice_get_within}
use Rattle.std.proofs.lemmas.List.Sums.{sum_by-cons}
use Rattle.std.proofs.lemmas.Bool.{false_from_ne_true}
use Rattle.mz_logic_theory.specs.Tree.{Tree, Trees, var, app, none, more, listed, size, trees_size}
use Rattle.mz_logic_theory.specs.Signature.{Signature}
use Rattle.mz_logic_theory.specs.Declaration.{Form, plain_form, defined, Assertion, Declaration, sort_decl, term_decl, assertion_decl, sorts, signatures, assertions}
use Rattle.mz_logic_theory.specs.Laws.{SortsThere}
use Rattle.mz_logic_theory.specs.Legality.{Each, IsDummy, AreParams, IsLegalDecl}
use Rattle.mz_logic_theory.specs.LegalLists.{MayBeLocal, AreDummies}
use Rattle.mz_logic_theory.specs.Modifiers.{MayBeDummySort}
use Rattle.mz_logic_theory.specs.Variables.{IsBoundAt}
use Rattle.mz_logic_theory.specs.WordsWritten.{CanBeWords}
use Rattle.mz_logic_theory.specs.declared.binder.Binder.{Binder}
use Rattle.mz_logic_theory.specs.declared.binder.SortMods.{SortMods}
use Rattle.mz_logic_theory.proofs.Offered.{each_from_all, assertions_are_sorted, terms_are_sorted, terms-few}
use Rattle.mz_machine_theory.specs.Premises.{bound_count as bound_in}
use Rattle.mz_mmu_theory.specs.Gaps.{LeavesOnly, SomeLeavesOnly}
use Rattle.mz_mmu_theory.specs.Statements.{Statement}
use Rattle.mz_mmu_theory.specs.Proof.{Proof}
use Rattle.mz_mmu_theory.specs.ReadingLaws.{Ascends, HasNoProof, HasItsProof}
use Rattle.mz_mmu_theory.specs.Names.{ProofThere, DummiesThere, TermThere, StatedProofThere, DeclThere}
use Rattle.mz_mmu_theory.specs.Meaning.{IsProofOf, IsProvedAsStated}
use Rattle.mz_type.specs.TypedText.{declared}
use Rattle.mz_mmu_theory.specs.Weight.{params_of, dummy_count, declaration_weight, weight_after}
use Rattle.mz_emit_theory.specs.AlphaEquivalence.{IsSameForm}
use Rattle.mz_emit_theory.specs.SpelledLists.{form_spelled}
use Rattle.mz_emit_theory.proofs.Offered.{bodies-same, words-say-signatures}
use Rattle.mz_binary_theory.specs.Spelling.{HasKind, is_local_code}
use Rattle.mz_emit.specs.Emitting.{MayFollow, HasWords, AreReady, CanBeDefined, CountsFit, CanBeAsserted}
use Rattle.mz_emit_theory.specs.CompiledFile.{definition_code, assertion_code}
use Rattle.mz_emit.proofs.Weights.{stated_same}

-- ---- counts

one_bound : (b : Bool) (m n : ℕ) → m ≤ n → (if b then suc m else m) ≤ suc n
one_bound true m n le = omega arith
one_bound false m n le = omega arith

bound_most : (ds : List Binder) → bound_in ds ≤ length ds
bound_most [] = omega arith
bound_most (b ∷ ds) = one_bound b.bound (bound_in ds) (length ds) (bound_most ds)

one_both : (b : Bool) (m n k : ℕ) → m ≤ n + k → (if b then suc m else m) ≤ cond b 1 0 + n + k
one_both true m n k le = omega arith
one_both false m n k le = omega arith

bound_both : (ps ds : List Binder) → bound_in (ps ++ ds) ≤ count_by (λ b. b.bound) ps + length ds
bound_both [] ds = omega (arith, bound_most ds)
bound_both (p ∷ ps) ds = rw (sum_by-cons (λ (b : Binder). cond b.bound 1 0) p ps) (one_both p.bound (bound_in (ps ++ ds)) (count_by (λ b. b.bound) ps) (length ds) (bound_both ps ds))

pub few_declared : (env : List Declaration) (ss : List Statement) → length (declared ss) ≤ weight_after env ss
few_declared env [] = omega arith
few_declared env (s ∷ ss) = omega (arith, few_declared (env ++ s.decl ∷ []) ss)

some_nodes : (e : Tree) → 1 ≤ size e
some_nodes (var x) = omega arith
some_nodes (app t es) = omega arith

pub few_nodes : (es : Trees) → length (listed es) ≤ trees_size es
few_nodes none = omega arith
few_nodes (more e es) = omega (arith, some_nodes e, few_nodes es)

-- ---- codes

pub definition_kind : (b : Bool) → ((definition_code b ≡ 0x05) ⊎ (definition_code b ≡ 0x0D)) × (b ≡ is_local_code (definition_code b))
definition_kind true = (inr refl, refl)
definition_kind false = (inl refl, refl)

kind_of_code : (x b : Bool) → (b ≡ true → x ≡ false)
    → MatchBool x (assertion_code x b ≡ 0x02) ((assertion_code x b ≡ 0x06) ⊎ (assertion_code x b ≡ 0x0E)) × (b ≡ is_local_code (assertion_code x b))
kind_of_code true true h = absurd (let e : true ≡ false = h refl in cc)
kind_of_code true false h = (refl, refl)
kind_of_code false true h = (inr refl, refl)
kind_of_code false false h = (inl refl, refl)

kinds : (a : Assertion) (x : Bool) → a.is_axiom ≡ x → (b : Bool) → (b ≡ true → a.is_axiom ≡ false) → HasKind (assertion_code a.is_axiom b) (record { is_local = b; decl = assertion_decl a })
kinds a x is b h = kind_of_code a.is_axiom b h

-- ---- what is ready

module _ (gaps : Bool) (before : List Statement) (s : Statement) (h : MayFollow gaps before s) where
  pub env_short : length (declared before) ≤ 134217725
  env_short = omega (arith, few_declared [] before, h.light)

  ready : (params dummies : List Binder) → params ≡ params_of s.decl → SortsThere (sorts (declared before)) params → AreParams (sorts (declared before)) params
      → SortsThere (sorts (declared before)) dummies → All IsDummy dummies → Each dummies (λ _ b. MayBeDummySort (sorts (declared before)) b.sort)
      → count_by (λ (b : Binder). b.bound) params + length dummies ≤ 55 → AreReady (declared before) params dummies
  ready params dummies is there right dummies_there are may few = record {
    params_are = right;
    dummies_are = are;
    dummy_sorts = may;
    few = omega (arith, bound_both params dummies, few);
    few_params = subst (λ (ps : List Binder). length ps ≤ 65535) (sym is) h.few_params;
    small = record {
      terms = omega (arith, terms-few (declared before), env_short);
      sorts = λ x b e. let below = each_from_all (λ (c : Binder). c.sort < length (sorts (declared before))) (params ++ dummies)
          (All-append (λ c. c.sort < length (sorts (declared before))) params dummies there dummies_there) x b e in omega (arith, below, h.words.few_sorts);
    };
  }

  pub definition_can : (sg : Signature) (dummies : List Binder) (e : Tree) → s.decl ≡ term_decl (record { signature = sg; form = defined dummies e })
      → CanBeDefined (declared before) sg.params dummies e
  definition_can sg dummies e is =
      let env = declared before in
      let legal : IsLegalDecl env (term_decl (record { signature = sg; form = defined dummies e })) = subst (IsLegalDecl env) is h.legal.0 in
      let right = (terms_are_sorted env (record { signature = sg; form = defined dummies e })).0 legal in
      let there : TermThere env (record { signature = sg; form = defined dummies e }) = subst (λ d. DeclThere env d s.dummies s.proof) is h.there.0 in
      let few = ap params_of is in
      record {
        ready = ready sg.params dummies (sym few) right.0 right.1 there.1.0 there.1.1 (λ i b at. (each_from_all (λ (c : Binder). IsDummy c × MayBeDummySort (sorts env) c.sort) dummies right.2 i b at).1)
            (omega (arith, h.few_bound, ap (λ d. count_by (λ (b : Binder). b.bound) (params_of d)) is, ap dummy_count is));
        sorted = (sg.result.sort, right.5.0.0);
        room = omega (arith, h.light, ap declaration_weight is, h.few_params, ap (λ (d : Declaration). length (params_of d)) is);
      }

  pub term_words : (sg : Signature) (f : Form) → s.decl ≡ term_decl (record { signature = sg; form = f }) → HasWords (sorts (declared before)) sg
  term_words sg f is =
      let env = declared before in
      let legal : IsLegalDecl env (term_decl (record { signature = sg; form = f })) = subst (IsLegalDecl env) is h.legal.0 in
      let right = (terms_are_sorted env (record { signature = sg; form = f })).0 legal in
      let ascend : Ascends (term_decl (record { signature = sg; form = f })) = subst Ascends is h.whole.ascend in
      let can : CanBeWords (sorts env) sg.params = subst (λ d. CanBeWords (sorts env) (params_of d)) is h.words in
      record {
        can = can;
        say = words-say-signatures (sorts env) sg can right.3 right.4 ascend.1;
        few = subst (λ (d : Declaration). length (params_of d) ≤ 65535) is h.few_params;
        deps = All-weaker (IsBoundAt sg.params) (λ j. j < length sg.params) (λ j (b, at, _). slice_get_within sg.params j b at) sg.result.deps right.4;
        sort = let (m, at, _) = right.3 in let below = slice_get_within (sorts env) sg.result.sort m at in omega (arith, below, h.words.few_sorts);
      }

  pub same_form : (sg : Signature) (dummies : List Binder) (e : Tree) → CanBeDefined (declared before) sg.params dummies e
      → IsSameForm sg.params (defined dummies e) (form_spelled sg.params (defined dummies e))
  same_form sg dummies e can = bodies-same (sorts (declared before)) (signatures (declared before)) sg.params dummies e can.ready.params_are
      (each_from_all IsDummy dummies can.ready.dummies_are) can.sorted

  pub thm_words : (a : Assertion) → s.decl ≡ assertion_decl a → CanBeWords (sorts (declared before)) a.params
  thm_words a is = subst (λ d. CanBeWords (sorts (declared before)) (params_of d)) is h.words

  pub sort_unmarked : (m : SortMods) → s.decl ≡ sort_decl m → s.is_local ≡ false
  sort_unmarked m is = false_from_ne_true s.is_local (λ set. subst MayBeLocal is (h.whole.mark set))

  pub plain_unmarked : (sg : Signature) → s.decl ≡ term_decl (record { signature = sg; form = plain_form }) → s.is_local ≡ false
  plain_unmarked sg is = false_from_ne_true s.is_local (λ set. subst MayBeLocal is (h.whole.mark set) refl)

  pub thm_kind : (a : Assertion) → s.decl ≡ assertion_decl a → HasKind (assertion_code a.is_axiom s.is_local) (record { is_local = s.is_local; decl = assertion_decl a })
  thm_kind a is = kinds a a.is_axiom refl s.is_local (λ set. subst MayBeLocal is (h.whole.mark set))

  -- an axiom has no dummies, and those of a theorem are legal
  pub record HasDummies (dummies : List Binder) : Type 0 where
    pub there : DummiesThere (declared before) dummies
    pub may : Each dummies (λ _ b. MayBeDummySort (sorts (declared before)) b.sort)

  no_dummies : (dummies : List Binder) → dummies ≡ [] → HasDummies dummies
  no_dummies dummies is = subst HasDummies (sym is) (record {
    there = (All-nil (λ (b : Binder). b.sort < length (sorts (declared before))), All-nil IsDummy);
    may = λ i b at. absurd (let n : None ≡ Some b = at in cc);
  })

  some_dummies : (a : Assertion) (p : Proof) → StatedProofThere (declared before) a s.dummies (Some p) → AreDummies (sorts (declared before)) s.dummies → HasDummies s.dummies
  some_dummies a p there are = record { there = there.1; may = λ i b at. (are i b at).1 }

  its_dummies : (a : Assertion) (b : Bool) → a.is_axiom ≡ b → MatchBool b (HasNoProof s) ((p : Proof) × (s.proof ≡ Some p)) → StatedProofThere (declared before) a s.dummies s.proof
      → IsProvedAsStated gaps (declared before) (assertion_decl a) s.dummies s.proof → HasDummies s.dummies
  its_dummies a true is bare there proved = no_dummies s.dummies bare.0
  its_dummies a false is (p, some) there proved =
      some_dummies a p (subst (StatedProofThere (declared before) a s.dummies) some there) (proved is).0

  module _ (a : Assertion) (is : s.decl ≡ assertion_decl a) where
    its_there : DeclThere (declared before) (assertion_decl a) s.dummies s.proof
    its_there = subst (λ d. DeclThere (declared before) d s.dummies s.proof) is h.there.0

    its_proof : IsProvedAsStated gaps (declared before) (assertion_decl a) s.dummies s.proof
    its_proof = subst (λ d. IsProvedAsStated gaps (declared before) d s.dummies s.proof) is h.legal.2

    pub has_dummies : HasDummies s.dummies
    has_dummies = its_dummies a a.is_axiom refl (subst (λ d. HasItsProof d s) is h.whole.has_proof) its_there.3 its_proof

    pub assertion_can : CanBeAsserted (declared before) a s.dummies
    assertion_can =
        let legal : IsLegalDecl (declared before) (assertion_decl a) = subst (IsLegalDecl (declared before)) is h.legal.0 in
        let right = (assertions_are_sorted (declared before) a).0 legal in
        let few = ap params_of is in
        record {
          ready = ready a.params s.dummies (sym few) right.0 right.1 has_dummies.there.0 has_dummies.there.1 has_dummies.may
              (omega (arith, h.few_bound, ap (λ d. count_by (λ (b : Binder). b.bound) (params_of d)) is));
          hyps = right.2;
          conclusion = right.3;
          short = omega (arith, h.light, ap declaration_weight is, few_nodes a.hyps);
        }

    pub assertion_room : CountsFit (declared before) a s.proof
    assertion_room = omega (arith, h.light, ap declaration_weight is, stated_same (declared before) s.proof, h.few_params, ap (λ (d : Declaration). length (params_of d)) is)

    pub proof_can : (p : Proof) → s.proof ≡ Some p → (a.is_axiom ≡ false) × IsProofOf gaps (declared before) (a.params ++ s.dummies) a p
        × LeavesOnly (gaps ≡ true) p
        × ProofThere (length (signatures (declared before))) (length (a.params ++ s.dummies)) (length (assertions (declared before))) (length (listed a.hyps)) 0 p
    proof_can p some =
        let there = subst (StatedProofThere (declared before) a s.dummies) some its_there.3 in
        let q = (its_proof there.0).1 in
        let same : q.0 ≡ p = let n : Some q.0 ≡ Some p = sym q.1 ∙ some in cc in
        (there.0, subst (IsProofOf gaps (declared before) (a.params ++ s.dummies) a) same q.2, subst (SomeLeavesOnly (gaps ≡ true)) some h.has_gaps, there.2)

    pub axiom_is : s.proof ≡ None → a.is_axiom ≡ true
    axiom_is bare = subst (StatedProofThere (declared before) a s.dummies) bare its_there.3
