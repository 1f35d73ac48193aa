-- The worked examples hold.
use Rattle.std.proofs.Common.{ℕ, zero, suc, ◌≡◌, ◌<◌, ◌⊎◌, true, false, true≢false, List, [], ◌∷◌, slice_get, Some, Contains, All, length, refl, sym, ap, ◌∙◌, subst, inl, inr, not-suc-le-zero, zero-lt-suc, arith}
use Rattle.std.proofs.lemmas.Option.{none-some}
use Rattle.mz_logic_theory.specs.Tree.{Tree, Trees, var, app, none, more, instances}
use Rattle.mz_logic_theory.specs.Signature.{Signature}
use Rattle.mz_logic_theory.specs.Declaration.{Declaration, assertion_decl, signatures, sorts}
use Rattle.mz_logic_theory.specs.Modifiers.{MayBeClaimSort}
use Rattle.mz_logic_theory.specs.Sorts.{HasSort, AreProvable}
use Rattle.mz_logic_theory.specs.Variables.{InV, InFV, InSomeFV, IsOperandAt, IsBoundAt, AreDisjoint}
use Rattle.mz_logic_theory.specs.Legality.{AreParams, IsLegalDecl, NamesThere, BindersRight, AreBindersThere}
use Rattle.mz_logic_theory.specs.LegalLists.{IsProvedBy, gap_free}
use Rattle.mz_logic_theory.specs.Derivations.{hypothesis, cite, no_derivs, more_derivs, AllDerive}
use Rattle.mz_logic_theory.specs.Laws.{SortsThere}
use Rattle.mz_logic_theory.specs.Examples.{wff, two, im, im_declared, im_term, wff_sort, ax_1, ax_mp, implication, A1iDerives, A1iTurnedFails, same_twice, FourAreLegal, LocalAxiomFails, nat, wff_x, all_signature, quantifier, y_and_q, NotDisjoint, DisjointWhereItDepends, all_y_q, NotDisjointThoughNotFree, wff_y, plain_term, MissingDependency, LaterDependency, neg, one_param, negation, NnUnfolds}
use Rattle.mz_logic_theory.specs.declared.binder.Binder.{Binder}
use Rattle.mz_logic_theory.specs.declared.binder.SortMods.{SortMods}
use Rattle.mz_logic_theory.proofs.Offered.{one_at, terms_are_sorted, assertions_are_sorted, nothing_in}

-- ---- parameters of the sort wff

-- nothing is asked of the operand of a regular parameter
pub reg : {A : Type 0} → false ≡ true → A
reg h = absurd (true≢false (sym h))

one_is_wff : (i : ℕ) (b : Binder) → slice_get (wff ∷ []) i ≡ Some b → wff ≡ b
one_is_wff zero b at = one_at refl at
one_is_wff (suc i) b at = absurd (none-some _ at)

two_are_wff : (i : ℕ) (b : Binder) → slice_get two i ≡ Some b → wff ≡ b
two_are_wff zero b at = one_at refl at
two_are_wff (suc i) b at = one_is_wff i b at

none_bound : (params : List Binder) → ((i : ℕ) (b : Binder) → slice_get params i ≡ Some b → wff ≡ b) → (j : ℕ) (q : Binder) → slice_get params j ≡ Some q → q.bound ≡ true → ⊥
none_bound params are j q at bd = true≢false (sym bd ∙ sym (ap (λ r. r.bound) (are j q at)))

-- operands of regular parameters alone are disjoint
regular_apart : (ctx params : List Binder) → ((i : ℕ) (b : Binder) → slice_get params i ≡ Some b → wff ≡ b) → (es : Trees) → AreDisjoint ctx es params
regular_apart ctx params are es i j x p q at_i at_j bd is has = absurd (none_bound params are j q at_j bd)

var_wff : (ctx : List Binder) (i : ℕ) → slice_get ctx i ≡ Some wff → (c : Binder) × (slice_get ctx i ≡ Some c) × (c.sort ≡ 0)
var_wff ctx i at = (wff, at, refl)

-- ---- implication

im_sort : (sigs : List Signature) (ctx : List Binder) → slice_get sigs 0 ≡ Some (record { params = two; result = record { sort = 0; deps = [] } })
    → (a b : Tree) → HasSort sigs ctx a 0 → HasSort sigs ctx b 0 → HasSort sigs ctx (im a b) 0
im_sort sigs ctx at a b h k = (_, at, refl, (h, reg, (k, reg, tt)))

pub a1i_derives : A1iDerives
a1i_derives = (
  ax_mp,
  refl,
  refl,
  (v0, reg, (im_sort (signatures implication) two refl (var 1) (var 0) v1 v0, reg, tt)),
  regular_apart two two two_are_wff (more (var 0) (more (im (var 1) (var 0)) none)),
  ((ax_1, refl, refl, (v0, reg, (v1, reg, tt)), regular_apart two two two_are_wff (more (var 0) (more (var 1) none)), tt), (refl, tt)),
)
  where
    v0 : (c : Binder) × (slice_get two 0 ≡ Some c) × (c.sort ≡ 0)
    v0 = var_wff two 0 refl

    v1 : (c : Binder) × (slice_get two 1 ≡ Some c) × (c.sort ≡ 0)
    v1 = var_wff two 1 refl

-- the hypothesis is no implication
pub a1i_turned_fails : A1iTurnedFails
a1i_turned_fails (a, at, is, fits, apart, derives) = go (subst (λ b. Derived b.hyps) (one_at at refl) derives)
  where
    Derived : Trees → Type 0
    Derived hyps = AllDerive implication two (more (var 0) none) (more_derivs (hypothesis 0) (more_derivs (cite 0 (more (var 0) (more (var 1) none)) no_derivs) no_derivs))
        (instances (more (var 0) (more (im (var 1) (var 0)) none)) hyps)

    go : Derived (more (im (var 0) (var 1)) (more (var 0) none)) → ⊥
    go (h, _) = (let e : var 0 ≡ im (var 0) (im (var 1) (var 0)) = one_at refl h in cc)

-- ---- the legal list

abbrev wff_only : List SortMods
wff_only = record { 0 = 4 } ∷ []

regular_right : (ss : List SortMods) (params : List Binder) → ((i : ℕ) (b : Binder) → slice_get params i ≡ Some b → wff ≡ b) → AreParams ss params
regular_right ss params are i b at = (
  λ bd. absurd (none_bound params are i b at bd),
  λ _. subst (λ c. All (λ j. (j < i) × IsBoundAt params j) c.deps) (are i b at) (λ k d below. absurd (not-suc-le-zero below)),
)

one_there : (ss : List SortMods) → 0 < length ss → SortsThere ss (wff ∷ [])
one_there ss below zero d h = below
one_there ss below (suc k) d h = absurd (omega arith)

two_there : (ss : List SortMods) → 0 < length ss → SortsThere ss two
two_there ss below zero d h = below
two_there ss below (suc zero) d h = below
two_there ss below (suc (suc k)) d h = absurd (omega arith)

provable : MayBeClaimSort (record { 0 = 4 } ∷ []) 0
provable = (record { 0 = 4 }, refl, λ is. (let e : 4 ≡ 0 = is in absurd (omega (arith, e))))

no_claims : (env : List Declaration) (ctx : List Binder) → AreProvable env ctx none
no_claims env ctx i e at = absurd (none-some _ at)

pub four_are_legal : FourAreLegal
four_are_legal = (
  ((tt, (tt, (tt, (tt, (tt, (tt, (tt, (tt, tt)))))))), reg, tt),
  ((im_legal, reg, tt), ((ax_legal, reg, λ is. absurd (true≢false is)), ((thm_legal, reg, λ _. proved), tt))),
)
  where
    im_legal : IsLegalDecl (wff_sort ∷ []) im_term
    im_legal = (terms_are_sorted (wff_sort ∷ []) im_declared).1 (
      two_there wff_only (zero-lt-suc 0),
      regular_right wff_only two two_are_wff,
      nothing_in _,
      (record { 0 = 4 }, refl, λ pure. pure refl),
      nothing_in _,
      tt,
    )

    ax_legal : IsLegalDecl (wff_sort ∷ im_term ∷ []) (assertion_decl ax_1)
    ax_legal = (assertions_are_sorted (wff_sort ∷ im_term ∷ []) ax_1).1 (
      two_there wff_only (zero-lt-suc 0),
      regular_right wff_only two two_are_wff,
      no_claims (wff_sort ∷ im_term ∷ []) two,
      (0, im_sort (signatures implication) two refl (var 0) (im (var 1) (var 0)) v0 (im_sort (signatures implication) two refl (var 1) (var 0) v1 v0), provable),
    )
      where
        v0 : (c : Binder) × (slice_get two 0 ≡ Some c) × (c.sort ≡ 0)
        v0 = var_wff two 0 refl

        v1 : (c : Binder) × (slice_get two 1 ≡ Some c) × (c.sort ≡ 0)
        v1 = var_wff two 1 refl

    v : (c : Binder) × (slice_get (wff ∷ []) 0 ≡ Some c) × (c.sort ≡ 0)
    v = var_wff (wff ∷ []) 0 refl

    thm_legal : IsLegalDecl (wff_sort ∷ im_term ∷ assertion_decl ax_1 ∷ []) (assertion_decl same_twice)
    thm_legal = (assertions_are_sorted (wff_sort ∷ im_term ∷ assertion_decl ax_1 ∷ []) same_twice).1 (
      one_there wff_only (zero-lt-suc 0),
      regular_right wff_only (wff ∷ []) one_is_wff,
      no_claims (wff_sort ∷ im_term ∷ assertion_decl ax_1 ∷ []) (wff ∷ []),
      (0, im_sort (signatures implication) (wff ∷ []) refl (var 0) (im (var 0) (var 0)) v (im_sort (signatures implication) (wff ∷ []) refl (var 0) (var 0) v v), provable),
    )

    proved : IsProvedBy gap_free (wff_sort ∷ im_term ∷ assertion_decl ax_1 ∷ []) same_twice
    proved = (
      [],
      (λ i b at. absurd (none-some _ at)),
      (
        cite 0 (more (var 0) (more (var 0) none)) no_derivs,
        (tt, tt),
        (
          ax_1,
          refl,
          refl,
          (v, reg, (v, reg, tt)),
          regular_apart (wff ∷ []) two two_are_wff (more (var 0) (more (var 0) none)),
          tt,
        ),
      ),
    )

pub local_axiom_fails : LocalAxiomFails
local_axiom_fails h = true≢false (h.1.1.0.1 refl)

-- ---- the quantifier

pub not_disjoint : NotDisjoint
not_disjoint h = elim (h 1 0 0 wff nat refl refl refl refl (wff_x, refl, inr (refl, (zero, zero-lt-suc 0, refl)))) [
  | inl same ↦ (let e : ◌≡◌ {A = ℕ} 1 0 = same in cc)
  | inr (k, below, is) ↦ not-suc-le-zero below
]

pub disjoint_where_it_depends : DisjointWhereItDepends
disjoint_where_it_depends zero zero x p q at_i at_j bd is has = inl refl
disjoint_where_it_depends zero (suc zero) x p q at_i at_j bd is has = absurd (true≢false (sym bd ∙ ap (λ r. r.bound) (one_at at_j refl)))
disjoint_where_it_depends zero (suc (suc j)) x p q at_i at_j bd is has = absurd (none-some _ at_j)
disjoint_where_it_depends (suc zero) zero x p q at_i at_j bd is has = inr (subst (λ r. Contains r.deps 0) (one_at refl at_i) (zero, zero-lt-suc 0, refl))
disjoint_where_it_depends (suc zero) (suc zero) x p q at_i at_j bd is has = inl refl
disjoint_where_it_depends (suc zero) (suc (suc j)) x p q at_i at_j bd is has = absurd (none-some _ at_j)
disjoint_where_it_depends (suc (suc i)) j x p q at_i at_j bd is has = absurd (none-some _ at_i)

y_in_all : InV y_and_q 0 all_y_q
y_in_all = inl (nat, refl, inl (refl, refl))

pub not_disjoint_though_not_free : NotDisjointThoughNotFree
not_disjoint_though_not_free = (no, y_in_all, not_free)
  where
    no : AreDisjoint y_and_q (more (var 0) (more all_y_q none)) (nat ∷ wff ∷ []) → ⊥
    no h = elim (h 1 0 0 wff nat refl refl refl refl y_in_all) [
      | inl same ↦ (let e : ◌≡◌ {A = ℕ} 1 0 = same in cc)
      | inr (k, below, is) ↦ not-suc-le-zero below
    ]

    go : InSomeFV (signatures quantifier) y_and_q 0 all_signature.params (more (var 0) (more (var 1) none)) all_signature.params (more (var 0) (more (var 1) none))
        ⊎ IsOperandAt all_signature.params (more (var 0) (more (var 1) none)) [] 0 → ⊥
    go (inl (inl (bound, _, _))) = true≢false bound
    go (inl (inr (inl (_, _, unbound)))) = unbound (0, (zero, zero-lt-suc 0, refl), (nat, refl, refl), refl)
    go (inl (inr (inr h))) = h
    go (inr (j, (k, below, _), _, _)) = not-suc-le-zero below

    not_free : InFV (signatures quantifier) y_and_q 0 all_y_q → ⊥
    not_free (d, at, h) =
        go (subst (λ s. InSomeFV (signatures quantifier) y_and_q 0 s.params (more (var 0) (more (var 1) none)) s.params (more (var 0) (more (var 1) none))
        ⊎ IsOperandAt s.params (more (var 0) (more (var 1) none)) s.result.deps 0) (one_at at refl) h)

-- ---- first faults

pub missing_dependency : MissingDependency
missing_dependency = inl (no, refl)
  where
    no : NamesThere quantifier (plain_term (wff_y ∷ [])) → ⊥
    no h = (let e : 1 < 1 = (h.0 0 wff_y (zero-lt-suc 0)).1 0 0 (zero-lt-suc 0) in omega (arith, e))

pub later_dependency : LaterDependency
later_dependency = inr ((there, nothing_in _, zero-lt-suc 1, nothing_in _, tt), inl (no, refl))
  where
    one_below : All (λ j. j < 2) (1 ∷ [])
    one_below zero d below = (let e : 1 < 2 = omega arith in e)
    one_below (suc k) d below = absurd (omega arith)

    there : AreBindersThere (sorts quantifier) 2 (wff_y ∷ nat ∷ [])
    there zero d below = (zero-lt-suc 1, one_below)
    there (suc zero) d below = ((let e : 1 < 2 = omega arith in e), nothing_in _)
    there (suc (suc k)) d below = absurd (omega arith)

    no : BindersRight quantifier (plain_term (wff_y ∷ nat ∷ [])) → ⊥
    no h = (let e : 1 < 0 = ((h.0 0 wff_y refl).1 refl 0 0 (zero-lt-suc 0)).0 in omega (arith, e))

-- ---- an unfolding

pub nn_unfolds : NnUnfolds
nn_unfolds = ((0, nn), (0, nots), refl, (_, [], neg (neg (var 0)), (refl, refl), (v0, reg, tt), tt, ((0, nots), (0, nots), refl, refl)))
  where
    v0 : (c : Binder) × (slice_get (wff ∷ []) 0 ≡ Some c) × (c.sort ≡ 0)
    v0 = (wff, refl, refl)

    nn : HasSort (signatures negation) (wff ∷ []) (app 1 (more (var 0) none)) 0
    nn = (one_param, refl, refl, (v0, reg, tt))

    nots : HasSort (signatures negation) (wff ∷ []) (neg (neg (var 0))) 0
    nots = (one_param, refl, refl, ((one_param, refl, refl, (v0, reg, tt)), reg, tt))
