-- The examples of the rules on variables hold.
use Rattle.std.proofs.Common.{ℕ, zero, suc, ◌≡◌, ◌⊎◌, true, true≢false, List, [], ◌∷◌, slice_get, Some, refl, sym, ap, ◌∙◌, subst, inl, inr, not-suc-le-zero, zero-lt-suc, arith}
use Rattle.std.proofs.lemmas.Option.{none-some}
use Rattle.mz_logic_theory.specs.Tree.{Tree, var, app, none, more}
use Rattle.mz_logic_theory.specs.Declaration.{Term, defined, signatures}
use Rattle.mz_logic_theory.specs.Modifiers.{IsFree}
use Rattle.mz_logic_theory.specs.Sorts.{HasSort, IsSorted}
use Rattle.mz_logic_theory.specs.Variables.{InFV, InSomeFV, InSomeV, IsOperandAt, AreDisjoint}
use Rattle.mz_logic_theory.specs.Conversions.{Conversion, refl_conv, sym_conv, cong_conv, unfold_conv, gap_conv, Between, GapsOnly, AreFresh}
use Rattle.mz_logic_theory.specs.Derivations.{Derivation, hypothesis, cite, convert, gap, Derives, IsGapFree}
use Rattle.mz_logic_theory.specs.Examples.{wff, wff_sort, nat, wff_x, y_and_q}
use Rattle.mz_logic_theory.specs.NearMisses.{NotDisjointThoughLater, of_nat, at_y, FreeByTheResult, BoundByTheTerm, generalized, CitesWhereItDepends, CitesNotDisjoint, rel, relation, result_wff, UnfoldsWithFresh, UnfoldsWithOperand, UnfoldsWithOneForTwo, NoSortNoConversion, FreeDummy, CitesItself, GapConverts, GapIsIllegal, NothingFromNothing}
use Rattle.mz_logic_theory.specs.declared.binder.Binder.{Binder}
use Rattle.mz_logic_theory.specs.declared.binder.SortMods.{SortMods}
use Rattle.mz_logic_theory.proofs.Offered.{one_at}
use Rattle.mz_logic.proofs.WorkedExamples.{disjoint_where_it_depends, not_disjoint, reg}

pub not_disjoint_though_later : NotDisjointThoughLater
not_disjoint_though_later h = elim (h 0 1 0 wff nat refl refl refl refl (wff_x, refl, inr (refl, (zero, zero-lt-suc 0, refl)))) [
  | inl same ↦ (let e : ◌≡◌ {A = ℕ} 0 1 = same in cc)
  | inr (k, below, is) ↦ not-suc-le-zero below
]

pub free_by_the_result : FreeByTheResult
free_by_the_result = (of_nat (0 ∷ []), refl, inr (0, (zero, zero-lt-suc 0, refl), (nat, refl, refl), refl))

pub bound_by_the_term : BoundByTheTerm
bound_by_the_term = (not_free, inl (nat, refl, inl (refl, refl)))
  where
    go : InSomeFV (of_nat [] ∷ []) (nat ∷ []) 0 (nat ∷ []) (more (var 0) none) (nat ∷ []) (more (var 0) none) ⊎ IsOperandAt (nat ∷ []) (more (var 0) none) [] 0 → ⊥
    go (inl (inl (bound, _, _))) = true≢false bound
    go (inl (inr h)) = h
    go (inr (j, (k, below, _), _, _)) = not-suc-le-zero below

    not_free : InFV (of_nat [] ∷ []) (nat ∷ []) 0 at_y → ⊥
    not_free (d, at, h) = go (subst (λ s. InSomeFV (of_nat [] ∷ []) (nat ∷ []) 0 s.params (more (var 0) none) s.params (more (var 0) none) ⊎ IsOperandAt s.params (more (var 0) none) s.result.deps 0) (one_at at refl) h)

-- ---- citations

pub cites_where_it_depends : CitesWhereItDepends
cites_where_it_depends = (
  generalized wff_x,
  refl,
  refl,
  ((nat, refl, refl), (λ _. (zero, nat, refl, refl, refl)), ((wff_x, refl, refl), reg, tt)),
  disjoint_where_it_depends,
  (refl, tt),
)

pub cites_not_disjoint : CitesNotDisjoint
cites_not_disjoint (a, at, is, fits, apart, derives) = not_disjoint (subst (λ b. AreDisjoint y_and_q (more (var 0) (more (var 1) none)) b.params) (one_at at refl) apart)

-- ---- unfoldings

nat_var : (x : ℕ) → slice_get (nat ∷ nat ∷ []) x ≡ Some nat → (b : Binder) × (slice_get (nat ∷ nat ∷ []) x ≡ Some b) × (b.sort ≡ 1)
nat_var x at = (nat, at, refl)

rel_sorted : (x y : ℕ) → slice_get (nat ∷ nat ∷ []) x ≡ Some nat → slice_get (nat ∷ nat ∷ []) y ≡ Some nat → HasSort (signatures relation) (nat ∷ nat ∷ []) (rel x y) 0
rel_sorted x y is_x is_y =
    (result_wff [] (nat ∷ nat ∷ []), refl, refl, (nat_var x is_x, (λ _. (x, nat, refl, is_x, refl)), (nat_var y is_y, (λ _. (y, nat, refl, is_y, refl)), tt)))

pub unfolds_with_fresh : UnfoldsWithFresh
unfolds_with_fresh = (
  (0, one_sorted),
  (0, rel_sorted 0 1 refl refl),
  refl,
  (
    _,
    nat ∷ [],
    rel 0 1,
    (refl, refl),
    (nat_var 0 refl, (λ _. (zero, nat, refl, refl, refl)), tt),
    ((nat, refl, refl, refl), apart, (λ h. not-suc-le-zero h.1), tt),
    ((0, rel_sorted 0 1 refl refl), (0, rel_sorted 0 1 refl refl), refl, refl),
  ),
)
  where
    one_sorted : HasSort (signatures relation) (nat ∷ nat ∷ []) (app 1 (more (var 0) none)) 0
    one_sorted = (result_wff [] (nat ∷ []), refl, refl, (nat_var 0 refl, (λ _. (zero, nat, refl, refl, refl)), tt))

    apart : InSomeV (nat ∷ nat ∷ []) 1 (more (var 0) none) → ⊥
    apart (inl (b, at, inl (_, is))) = (let e : ◌≡◌ {A = ℕ} 1 0 = is in cc)
    apart (inl (b, at, inr (regular, _))) = true≢false (ap (λ c. c.bound) (one_at refl at) ∙ regular)
    apart (inr h) = h

same_form : (bs cs : List Binder) (b c : Tree) → defined bs b ≡ defined cs c → bs ≡ cs
same_form bs cs b c e = cc

some_dummies : (d e : Term) (bs cs : List Binder) (b c : Tree) → Some d ≡ Some e → d.form ≡ defined bs b → e.form ≡ defined cs c → bs ≡ cs
some_dummies d e bs cs b c same left right =
    let one : d ≡ e = sym (one_at same refl) in
    same_form bs cs b c (sym left ∙ (ap (λ t. t.form) one ∙ right))

pub unfolds_with_operand : UnfoldsWithOperand
unfolds_with_operand (_, _, _, (d, dummies, body, (at, form), fits, fresh, _)) =
    (subst (AreFresh (nat ∷ nat ∷ []) (more (var 0) none) (0 ∷ [])) (some_dummies d _ dummies (nat ∷ []) body (rel 0 1) (sym at) form refl) fresh).1 (inl (nat, refl, inl (refl, refl)))

pub unfolds_with_one_for_two : UnfoldsWithOneForTwo
unfolds_with_one_for_two (_, _, _, (d, dummies, body, (at, form), fits, fresh, _)) =
    (subst (AreFresh (nat ∷ nat ∷ []) none (0 ∷ 0 ∷ [])) (some_dummies d _ dummies (nat ∷ nat ∷ []) body (rel 0 1) (sym at) form refl) fresh).2 (zero, zero-lt-suc 0, refl)

-- ---- what doesn't hold

pub no_sort_no_conversion : NoSortNoConversion
no_sort_no_conversion (left, _, _, _) = none-some _ left.1.1

pub free_dummy : FreeDummy
free_dummy h = let (m, at, strict, free) = (h 0 (record { sort = 0; bound = true; deps = [] }) refl).1 in
    free (subst (λ (n : SortMods). IsFree n) (one_at refl at) (λ is. (let e : 8 ≡ 0 = is in absurd (omega (arith, e)))))

-- from no hypotheses and no assertions nothing is derived
pub nothing_from_nothing : NothingFromNothing
nothing_from_nothing env ctx (hypothesis i) e bare free at = none-some _ at
nothing_from_nothing env ctx (cite T es ds) e bare free (a, at, _, _, _, _) = none-some _ (subst (λ xs. slice_get xs T ≡ Some a) bare at)
nothing_from_nothing env ctx (convert f c d) e bare (_, free) (_, (g, _, derives)) = nothing_from_nothing env ctx d g bare free derives
nothing_from_nothing env ctx (gap f) e bare free h = free

pub cites_itself : CitesItself
cites_itself h =
    let proved = h.1.0.2 refl in
    nothing_from_nothing (wff_sort ∷ []) (wff ∷ proved.0) proved.2.0 (var 0) refl proved.2.1 proved.2.2

-- ---- gaps

pub gap_converts : GapConverts
gap_converts = (refl, (var 0, ((0, (wff, refl, refl)), (0, (wff, refl, refl)), refl, refl, (0, (wff, refl, refl), (wff, refl, refl))), refl))

-- where there are no terms, a conversion without gaps has one side twice
same_sides : (ctx : List Binder) (c : Conversion) (l r : Tree) → GapsOnly ⊥ c → Between (wff_sort ∷ []) ctx c l r → l ≡ r
same_sides ctx (refl_conv e) l r free (_, _, left, right) = left ∙ sym right
same_sides ctx (sym_conv c) l r free (_, _, turned) = sym (same_sides ctx c r l free turned)
same_sides ctx (cong_conv t cs) l r free (left, _, (ls, rs, is, _, _)) = absurd (none-some _ (subst (λ e. IsSorted (wff_sort ∷ []) ctx e) is left).1.1)
same_sides ctx (unfold_conv t es ys c) l r free (_, _, _, (d, dummies, body, (at, _), _, _, _)) = absurd (none-some _ at)
same_sides ctx (gap_conv a b) l r free between = absurd free

only_itself : (ctx : List Binder) (d : Derivation) (e : Tree) → IsGapFree d → Derives (wff_sort ∷ []) ctx (more (var 0) none) d e → e ≡ var 0
only_itself ctx (hypothesis zero) e free at = sym (one_at refl at)
only_itself ctx (hypothesis (suc i)) e free at = absurd (none-some _ at)
only_itself ctx (cite T es ds) e free (a, at, _, _, _, _) = absurd (none-some _ at)
only_itself ctx (convert f c d) e (gaps, free) (is, (g, between, derives)) = is ∙ same_sides ctx c f g gaps between ∙ only_itself ctx d g free derives
only_itself ctx (gap f) e free h = absurd free

pub gap_is_illegal : GapIsIllegal
gap_is_illegal h =
    let proved = h.1.0.2 refl in
    let e : ◌≡◌ {A = Tree} (var 1) (var 0) = only_itself (wff ∷ wff ∷ proved.0) proved.2.0 (var 1) proved.2.1 proved.2.2 in cc
