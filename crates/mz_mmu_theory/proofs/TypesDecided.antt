-- Each fact that the type rules ask for holds or fails: the facts on lists, trees and variables.
use Rattle.std.proofs.Common.{ℕ, zero, suc, ◌≡◌, ◌<◌, ◌⊎◌, inl, inr, true, false, List, [], ◌∷◌, length, slice_get, All, Contains, Some, None, Option, refl, sym, ap, ◌∙◌, subst, arith}
use Rattle.std.specs.Prelude.{IsBitSet}
use Rattle.std.proofs.lemmas.Bool.{cases_eq}
use Rattle.std.proofs.lemmas.Option.{none-some}
use Rattle.mz_base.proofs.Offered.{contains_tail, contains_cases, either-decided, not-decided, three-decided, Decided, true-decided, false-decided, contains-decided, below-decided, implied-decided, both-decided}
use Rattle.mz_logic_theory.specs.Tree.{Tree, Trees, var, app, none, more, operand}
use Rattle.mz_logic_theory.specs.Signature.{Signature}
use Rattle.mz_logic_theory.specs.Modifiers.{IsPure, IsStrict, IsProvable, IsFree, MayBeResultSort, MayBeBoundSort, MayBeDummySort, MayBeClaimSort}
use Rattle.mz_logic_theory.specs.Sorts.{IsBoundVar}
use Rattle.mz_logic_theory.specs.Variables.{InV, InSomeV, InFV, InSomeFV, IsBoundAt, IsOperandAt, AreDisjoint}
use Rattle.mz_logic_theory.specs.Legality.{IsParam, InRange}
use Rattle.mz_logic_theory.specs.Conversions.{IsBoundOf}
use Rattle.mz_logic_theory.specs.declared.binder.Binder.{Binder}
use Rattle.mz_logic_theory.specs.declared.binder.SortMods.{SortMods}
use Rattle.mz_logic_theory.proofs.Offered.{one_at, each_from_all, all_from_each, DepsInside, free_below, same-variable, same-term, same-operands, same-first, same-rest}
use Rattle.mz_mmu_theory.specs.Rules.{AreNew}

-- ---- of facts that are decided

pub same-decided : {P Q : Type 0} → (P → Q) → (Q → P) → Decided P → Decided Q
same-decided to from (inl p) = inl (to p)
same-decided to from (inr out) = inr (λ q. out (from q))

pub empty-decided : {A : Type 0} (xs : List A) → Decided (xs ≡ [])
empty-decided [] = inl refl
empty-decided (x ∷ xs) = inr (λ h. cc)

-- ---- what stands in a list

-- a fact about the element at a place
pub at-decided : {A : Type 0} (xs : List A) (i : ℕ) (P : A → Type 0) → ((x : A) → Decided (P x)) → Decided ((x : A) × (slice_get xs i ≡ Some x) × P x)
at-decided {A} xs i P one = go (slice_get xs i) refl
  where
    go : (o : Option A) → slice_get xs i ≡ o → Decided ((x : A) × (slice_get xs i ≡ Some x) × P x)
    go None at = inr (λ h. none-some _ (sym at ∙ h.1))
    go (Some x) at = same-decided (λ p. (x, at, p)) (λ h. subst P (one_at h.1 at) h.2) (one x)

-- two facts about it
at_both-decided : {A : Type 0} (xs : List A) (i : ℕ) (P Q : A → Type 0) → ((x : A) → Decided (P x)) → ((x : A) → Decided (Q x)) → Decided ((x : A) × (slice_get xs i ≡ Some x) × P x × Q x)
at_both-decided xs i P Q one two =
    same-decided (λ (x, at, pq). (x, at, pq.0, pq.1)) (λ (x, at, p, q). (x, at, (p, q))) (at-decided xs i (λ x. P x × Q x) (λ x. both-decided (one x) (two x)))

-- a fact about each place and its element
pub each-decided : {A : Type 0} (xs : List A) (P : ℕ → A → Type 0) → ((i : ℕ) (x : A) → Decided (P i x)) → Decided ((i : ℕ) (x : A) → slice_get xs i ≡ Some x → P i x)
each-decided [] P one = inl (λ i x at. absurd (none-some _ at))
each-decided {A} (y ∷ ys) P one = same-decided to from (both-decided (one 0 y) (each-decided ys (λ i x. P (suc i) x) (λ i x. one (suc i) x)))
  where
    to : P 0 y × ((i : ℕ) (x : A) → slice_get ys i ≡ Some x → P (suc i) x) → (i : ℕ) (x : A) → slice_get (y ∷ ys) i ≡ Some x → P i x
    to (here, rest) zero x at = subst (P 0) (one_at refl at) here
    to (here, rest) (suc i) x at = rest i x at

    from : ((i : ℕ) (x : A) → slice_get (y ∷ ys) i ≡ Some x → P i x) → P 0 y × ((i : ℕ) (x : A) → slice_get ys i ≡ Some x → P (suc i) x)
    from h = (h 0 y refl, λ i x at. h (suc i) x at)

pub all-decided : {A : Type 0} (P : A → Type 0) (xs : List A) → ((x : A) → Decided (P x)) → Decided (All P xs)
all-decided P xs one = same-decided (all_from_each P xs) (each_from_all P xs) (each-decided xs (λ _ x. P x) (λ _ x. one x))

-- a fact about one of the elements
pub some-decided : (xs : List ℕ) (P : ℕ → Type 0) → ((x : ℕ) → Decided (P x)) → Decided ((x : ℕ) × Contains xs x × P x)
some-decided [] P one = inr (λ (x, (k, below, _), _). omega (arith, below))
some-decided (y ∷ ys) P one = same-decided to from (either-decided (one y) (some-decided ys P one))
  where
    to : P y ⊎ ((x : ℕ) × Contains ys x × P x) → (x : ℕ) × Contains (y ∷ ys) x × P x
    to (inl here) = (y, (0, omega arith, refl), here)
    to (inr (x, has, p)) = (x, contains_tail y x ys has, p)

    from : (x : ℕ) × Contains (y ∷ ys) x × P x → P y ⊎ ((x : ℕ) × Contains ys x × P x)
    from (x, has, p) = elim (contains_cases y x ys has) [ inl is ↦ inl (subst P (sym is) p) | inr later ↦ inr (x, later, p) ]

-- a fact about each number below n
pub all_below-decided : (n : ℕ) (P : ℕ → Type 0) → ((x : ℕ) → Decided (P x)) → Decided ((x : ℕ) → x < n → P x)
all_below-decided zero P one = inl (λ x below. absurd (omega (arith, below)))
all_below-decided (suc n) P one = same-decided to (λ h. (h n (omega arith), λ x below. h x (omega (arith, below)))) (both-decided (one n) (all_below-decided n P one))
  where
    to : P n × ((x : ℕ) → x < n → P x) → (x : ℕ) → x < suc n → P x
    to (here, rest) x below = elim (cases_eq x n) [ inl is ↦ subst P (sym is) here | inr out ↦ rest x (omega (arith, below, out)) ]

-- ---- trees

mutual
  pub tree-decided : (e f : Tree) → Decided (e ≡ f)
  tree-decided (var x) (var y) = same-decided (ap var) (same-variable x y) (cases_eq x y)
  tree-decided (app t es) (app u fs) =
      same-decided (λ (h, k). ap (λ x. app x es) h ∙ ap (app u) k) (λ h. (same-term t u es fs h, same-operands t u es fs h)) (both-decided (cases_eq t u) (trees-decided es fs))
  tree-decided _ _ = inr (λ h. cc)

  pub trees-decided : (es fs : Trees) → Decided (es ≡ fs)
  trees-decided none none = inl refl
  trees-decided (more e es) (more f fs) =
      same-decided (λ (h, k). ap (λ x. more x es) h ∙ ap (more f) k) (λ h. (same-first e f es fs h, same-rest e f es fs h)) (both-decided (tree-decided e f) (trees-decided es fs))
  trees-decided _ _ = inr (λ h. cc)

-- ---- sorts and binders

bit-decided : (n k : ℕ) → Decided (IsBitSet n k)
bit-decided n k = not-decided (cases_eq _ 0)

pub claim_sort-decided : (ss : List SortMods) (s : ℕ) → Decided (MayBeClaimSort ss s)
claim_sort-decided ss s = at-decided ss s IsProvable (λ m. bit-decided m.0 2)

pub result_sort-decided : (ss : List SortMods) (s : ℕ) → Decided (MayBeResultSort ss s)
result_sort-decided ss s = at-decided ss s (λ m. IsPure m → ⊥) (λ m. not-decided (bit-decided m.0 0))

bound_sort-decided : (ss : List SortMods) (s : ℕ) → Decided (MayBeBoundSort ss s)
bound_sort-decided ss s = at-decided ss s (λ m. IsStrict m → ⊥) (λ m. not-decided (bit-decided m.0 1))

pub dummy_sort-decided : (ss : List SortMods) (s : ℕ) → Decided (MayBeDummySort ss s)
dummy_sort-decided ss s = at_both-decided ss s (λ m. IsStrict m → ⊥) (λ m. IsFree m → ⊥) (λ m. not-decided (bit-decided m.0 1)) (λ m. not-decided (bit-decided m.0 3))

pub bound_at-decided : (params : List Binder) (j : ℕ) → Decided (IsBoundAt params j)
bound_at-decided params j = at-decided params j (λ b. b.bound ≡ true) (λ b. true-decided b.bound)

pub bound_of-decided : (ctx : List Binder) (y s : ℕ) → Decided (IsBoundOf ctx y s)
bound_of-decided ctx y s = at_both-decided ctx y (λ b. b.bound ≡ true) (λ b. b.sort ≡ s) (λ b. true-decided b.bound) (λ b. cases_eq b.sort s)

pub param-decided : (ss : List SortMods) (params : List Binder) (i : ℕ) (b : Binder) → Decided (IsParam ss params i b)
param-decided ss params i b =
    both-decided (implied-decided (true-decided b.bound) (both-decided (empty-decided b.deps) (bound_sort-decided ss b.sort)))
    (implied-decided (false-decided b.bound)
    (all-decided (λ j. (j < i) × IsBoundAt params j) b.deps (λ j. both-decided (below-decided j i) (bound_at-decided params j))))

-- ---- variables of expressions

pub bound_var-decided : (ctx : List Binder) (e : Tree) → Decided (IsBoundVar ctx e)
bound_var-decided ctx (app t es) = inr (λ (x, b, is, _, _). absurd (let e : app t es ≡ var x = is in cc))
bound_var-decided ctx (var x) =
    same-decided (λ (b, at, bd). (x, b, refl, at, bd)) (λ (y, b, is, at, bd). (b, ap (slice_get ctx) (same-variable x y is) ∙ at, bd))
    (bound_at-decided ctx x)

mutual
  pub in_v-decided : (ctx : List Binder) (x : ℕ) (e : Tree) → Decided (InV ctx x e)
  in_v-decided ctx x (var y) =
      at-decided ctx y (λ b. ((b.bound ≡ true) × (x ≡ y)) ⊎ ((b.bound ≡ false) × Contains b.deps x))
      (λ b. either-decided (both-decided (true-decided b.bound) (cases_eq x y)) (both-decided (false-decided b.bound) (contains-decided b.deps x)))
  in_v-decided ctx x (app t es) = in_some_v-decided ctx x es

  pub in_some_v-decided : (ctx : List Binder) (x : ℕ) (es : Trees) → Decided (InSomeV ctx x es)
  in_some_v-decided ctx x none = inr (λ h. h)
  in_some_v-decided ctx x (more e es) = either-decided (in_v-decided ctx x e) (in_some_v-decided ctx x es)

pub new-decided : (ctx : List Binder) (es : Trees) (ys : List ℕ) → Decided (AreNew ctx es ys)
new-decided ctx es [] = inl tt
new-decided ctx es (y ∷ ys) =
    three-decided (not-decided (in_some_v-decided ctx y es)) (not-decided (contains-decided ys y)) (new-decided ctx es ys)

operand_at-decided : (params : List Binder) (es : Trees) (places : List ℕ) (x : ℕ) → Decided (IsOperandAt params es places x)
operand_at-decided params es places x =
    same-decided (λ (j, has, h). (j, has, h.0, h.1)) (λ (j, has, h, k). (j, has, (h, k)))
    (some-decided places (λ j. IsBoundAt params j × (operand es j ≡ var x)) (λ j. both-decided (bound_at-decided params j) (tree-decided (operand es j) (var x))))

mutual
  in_fv-decided : (sigs : List Signature) (ctx : List Binder) (x : ℕ) (e : Tree) → Decided (InFV sigs ctx x e)
  in_fv-decided sigs ctx x (var y) = in_v-decided ctx x (var y)
  in_fv-decided sigs ctx x (app t es) =
      at-decided sigs t (λ d. InSomeFV sigs ctx x d.params es d.params es ⊎ IsOperandAt d.params es d.result.deps x)
      (λ d. either-decided (in_some_fv-decided sigs ctx x d.params es d.params es) (operand_at-decided d.params es d.result.deps x))

  in_some_fv-decided : (sigs : List Signature) (ctx : List Binder) (x : ℕ) (params : List Binder) (all : Trees) (ps : List Binder) (es : Trees)
      → Decided (InSomeFV sigs ctx x params all ps es)
  in_some_fv-decided sigs ctx x params all ps none = inr (λ h. h)
  in_some_fv-decided sigs ctx x params all [] (more e es) = inr (λ h. h)
  in_some_fv-decided sigs ctx x params all (p ∷ ps) (more e es) =
      either-decided (three-decided (false-decided p.bound) (in_fv-decided sigs ctx x e) (not-decided (operand_at-decided params all p.deps x)))
      (in_some_fv-decided sigs ctx x params all ps es)

-- free variables are places of the context
pub free_vars-decided : (sigs : List Signature) (ctx : List Binder) (e : Tree) (places : List ℕ) → DepsInside ctx → InRange sigs (length ctx) e
    → Decided ((x : ℕ) → InFV sigs ctx x e → Contains places x)
free_vars-decided sigs ctx e places inside range =
    same-decided (λ h x free. h x (free_below sigs ctx inside x e range free) free) (λ h x below free. h x free)
    (all_below-decided (length ctx) (λ x. InFV sigs ctx x e → Contains places x) (λ x. implied-decided (in_fv-decided sigs ctx x e) (contains-decided places x)))

-- ---- disjointness

abbrev IsDisjointFrom : List Binder → Trees → ℕ → Binder → ℕ → Binder → Type 0
IsDisjointFrom ctx es i p j q = q.bound ≡ true → (x : ℕ) → operand es j ≡ var x → InV ctx x (operand es i) → (i ≡ j) ⊎ Contains p.deps j

disjoint_from-decided : (ctx : List Binder) (es : Trees) (i : ℕ) (p : Binder) (j : ℕ) (q : Binder) → Decided (IsDisjointFrom ctx es i p j q)
disjoint_from-decided ctx es i p j q = implied-decided (true-decided q.bound) (go (operand es j) refl)
  where
    go : (o : Tree) → operand es j ≡ o → Decided ((x : ℕ) → operand es j ≡ var x → InV ctx x (operand es i) → (i ≡ j) ⊎ Contains p.deps j)
    go (app t fs) is = inl (λ x is'. absurd (let e : app t fs ≡ var x = sym is ∙ is' in cc))
    go (var y) is =
        same-decided (λ h x is' has. h (subst (λ z. InV ctx z (operand es i)) (same-variable x y (sym is' ∙ is)) has)) (λ h has. h y is has)
        (implied-decided (in_v-decided ctx y (operand es i)) (either-decided (cases_eq i j) (contains-decided p.deps j)))

pub apart-decided : (ctx : List Binder) (es : Trees) (params : List Binder) → Decided (AreDisjoint ctx es params)
apart-decided ctx es params =
    same-decided (λ h i j x p q at at' bd is has. h i p at j q at' bd x is has) (λ h i p at j q at' bd x is has. h i j x p q at at' bd is has)
    (each-decided params (λ i p. (j : ℕ) (q : Binder) → slice_get params j ≡ Some q → IsDisjointFrom ctx es i p j q)
    (λ i p. each-decided params (λ j q. IsDisjointFrom ctx es i p j q) (λ j q. disjoint_from-decided ctx es i p j q)))
