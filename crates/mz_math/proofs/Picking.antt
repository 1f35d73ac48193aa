-- Operands that are taken by what is noted of their parameters.
use Rattle.std.proofs.Common.{◌≡◌, ◌∙◌, ◌⊎◌, ◌<◌, ◌≤◌, ◌+◌, ℕ, zero, suc, List, [], ◌∷◌, length, Bool, true, false, Some, None, Option, get_or, replicate, slice_set, drop, drop-cons, add-one, ap, ap₂, sym, refl, subst, inl, inr, arith}
use Rattle.std.specs.Prelude.{◌==◌, if◌then◌else◌, option_map}
use Rattle.std.proofs.lemmas.Bool.{cond-true, cond-false}
use Rattle.std.proofs.lemmas.Bool.Decides.{eqb_tells}
use Rattle.std.proofs.lemmas.List.{drop_all, get_or-set_same, get_or-set_other}
use Rattle.std.proofs.lemmas.Option.{same_Some, none-some}
use Rattle.mz_logic_theory.specs.Tree.{Tree, Trees, app, none, more, operand, followed_by}
use Rattle.mz_logic_theory.specs.View.{trees}
use Rattle.mz_logic_theory.proofs.Offered.{followed_by_none, followed_by_push}
use Rattle.mz_math.specs.Arrange.{AreDistinct, Differs, earlier_or, first_of, picked, picked_one}
use Rattle.mz_math_theory.specs.Grammar.{operand_for, arranged}

-- ---- what is noted gives the operands in order

picked-for : (js : List ℕ) (es : Trees) (i : ℕ) → picked_one es (first_of js i) ≡ operand_for js es i
picked-for [] es i = refl
picked-for (j ∷ js) none i = all-absent (first_of (j ∷ js) i)
  where
    all-absent : (o : Option ℕ) → picked_one none o ≡ app 0 none
    all-absent None = refl
    all-absent (Some k) = refl
picked-for (j ∷ js) (more e es) i = go (j == i) (first_of js i) (picked-for js es i)
  where
    go : (b : Bool) (o : Option ℕ) → picked_one es o ≡ operand_for js es i → picked_one (more e es) (if b then Some 0 else option_map suc o) ≡ (if b then e else operand_for js es i)
    go true o rest = refl
    go false None rest = rest
    go false (Some k) rest = rest

picked-from : (js : List ℕ) (es : Trees) (os : List (Option ℕ)) (from : ℕ) → ((i : ℕ) → i < length os → get_or os i None ≡ first_of js (from + i)) → picked es os ≡ arranged js es from (length os)
picked-from js es [] from firsts = refl
picked-from js es (o ∷ os) from firsts =
    let here : from + 0 ≡ from = omega arith in
    ap₂ more (ap (picked_one es) (firsts 0 (omega arith) ∙ ap (first_of js) here) ∙ picked-for js es from)
    (picked-from js es os (from + 1) (λ i below. let e : from + suc i ≡ from + 1 + i = omega arith in firsts (suc i) (omega (arith, below)) ∙ ap (first_of js) e))

module _ (js : List ℕ) (os : List (Option ℕ)) (many : ℕ) (long : length os ≡ many) (firsts : (i : ℕ) → i < many → get_or os i None ≡ first_of js i) where
  within : (i : ℕ) → i < length os → get_or os i None ≡ first_of js (0 + i)
  within i below = let e : i ≡ 0 + i = omega arith in firsts i (omega (arith, below, long)) ∙ ap (first_of js) e

  pub picked-is : (es : Trees) → picked es os ≡ arranged js es 0 many
  picked-is es = picked-from js es os 0 within ∙ ap (arranged js es 0) long

-- ---- no operand is noted twice

first-once : (js : List ℕ) (a b k : ℕ) → first_of js a ≡ Some k → first_of js b ≡ Some k → a ≡ b
first-once [] a b k one other = absurd (none-some _ one)
first-once (j ∷ js) a b k one other = go (eqb_tells j a) (eqb_tells j b) (λ l p q. first-once js a b l p q)
  where
    at : (i : ℕ) → (j == i) ≡ true → first_of (j ∷ js) i ≡ Some k → 0 ≡ k
    at i is found = same_Some _ _ (sym (cond-true (j == i) (Some 0) (option_map suc (first_of js i)) is) ∙ found)

    behind : (i : ℕ) → (j == i) ≡ false → first_of (j ∷ js) i ≡ Some k → (l : ℕ) × (k ≡ suc l) × (first_of js i ≡ Some l)
    behind i is found = later (first_of js i) refl (sym (cond-false (j == i) (Some 0) (option_map suc (first_of js i)) is) ∙ found)
      where
        later : (o : Option ℕ) → first_of js i ≡ o → option_map suc o ≡ Some k → (l : ℕ) × (k ≡ suc l) × (first_of js i ≡ Some l)
        later None known e = absurd (none-some _ e)
        later (Some l) known e = (l, sym (same_Some _ _ e), known)

    go : (((j == a) ≡ true) × (j ≡ a)) ⊎ (((j == a) ≡ false) × (j ≡ a → ⊥)) → (((j == b) ≡ true) × (j ≡ b)) ⊎ (((j == b) ≡ false) × (j ≡ b → ⊥))
        → ((l : ℕ) → first_of js a ≡ Some l → first_of js b ≡ Some l → a ≡ b) → a ≡ b
    go (inl x) (inl y) again = sym x.1 ∙ y.1
    go (inl x) (inr y) again = let z = at a x.0 one in let (l, is, rest) = behind b y.0 other in absurd (omega (arith, z, is))
    go (inr x) (inl y) again = let z = at b y.0 other in let (l, is, rest) = behind a x.0 one in absurd (omega (arith, z, is))
    go (inr x) (inr y) again =
        let (l, is, rest) = behind a x.0 one in
        let (m, its, found) = behind b y.0 other in
        let same : m ≡ l = omega (arith, is, its) in
        again l rest (found ∙ ap Some same)

differs-from : (js : List ℕ) (o : Option ℕ) (b : ℕ) → o ≡ first_of js b → (os : List (Option ℕ)) (from : ℕ) → b < from → ((i : ℕ) → i < length os → get_or os i None ≡ first_of js (from + i)) → Differs o os
differs-from js o b is [] from before firsts = tt
differs-from js o b is (x ∷ xs) from before firsts = (
  λ k here there. (let same : b ≡ from + 0 = first-once js b (from + 0) k (sym is ∙ there) (sym (firsts 0 (omega arith)) ∙ here) in omega (arith, same, before)),
  differs-from js o b is xs (from + 1) (omega (arith, before)) (λ i below. let e : from + suc i ≡ from + 1 + i = omega arith in firsts (suc i) (omega (arith, below)) ∙ ap (first_of js) e),
)

distinct-from : (js : List ℕ) (os : List (Option ℕ)) (from : ℕ) → ((i : ℕ) → i < length os → get_or os i None ≡ first_of js (from + i)) → AreDistinct os
distinct-from js [] from firsts = tt
distinct-from js (o ∷ os) from firsts =
    let here : from + 0 ≡ from = omega arith in
    let rest : (i : ℕ) → i < length os → get_or os i None ≡ first_of js (from + 1 + i) = λ i below. (let e : from + suc i ≡ from + 1 + i = omega arith in firsts (suc i) (omega (arith, below)) ∙ ap (first_of js) e) in
    (differs-from js o from (firsts 0 (omega arith) ∙ ap (first_of js) here) os (from + 1) (omega arith) rest, distinct-from js os (from + 1) rest)

pub distinct-is : (js : List ℕ) (os : List (Option ℕ)) (many : ℕ) → length os ≡ many → ((i : ℕ) → i < many → get_or os i None ≡ first_of js i) → AreDistinct os
distinct-is js os many long firsts = distinct-from js os 0 (within js os many long firsts)

-- ---- notes

pub get_or-alike : {A : Type 0} (n i : ℕ) (x : A) → get_or (replicate n x) i x ≡ x
get_or-alike zero i x = refl
get_or-alike (suc n) zero x = refl
get_or-alike (suc n) (suc i) x = get_or-alike n i x

module _ (os : List (Option ℕ)) (place at i : ℕ) where
  abbrev pub IsNotedAs : Option ℕ → Type 0
  IsNotedAs now = now ≡ (if place == i then Some (earlier_or (get_or os i None) at) else get_or os i None)

  -- the place has no note yet
  pub note-new : place < length os → get_or os place None ≡ None → IsNotedAs (get_or (slice_set os place (Some at)) i None)
  note-new below nothing = elim (eqb_tells place i) [
    | inl same ↦ (
        let old : get_or os i None ≡ None = ap (λ j. get_or os j None) (sym same.1) ∙ nothing in
        ap (λ j. get_or (slice_set os place (Some at)) j None) (sym same.1) ∙ get_or-set_same os place (Some at) None below
        ∙ ap (λ o. Some (earlier_or o at)) (sym old) ∙ sym (cond-true (place == i) (Some (earlier_or (get_or os i None) at)) (get_or os i None) same.0)
        )
    | inr differs ↦ get_or-set_other os place i (Some at) None (λ e. differs.1 (sym e)) ∙ sym (cond-false (place == i) (Some (earlier_or (get_or os i None) at)) (get_or os i None) differs.0)
  ]

  -- it has one, or is past the end
  pub note-old : i < length os → (length os ≤ place) ⊎ ((k : ℕ) × (get_or os place None ≡ Some k)) → IsNotedAs (get_or os i None)
  note-old below which = elim (eqb_tells place i) [
    | inl same ↦ here same which
    | inr differs ↦ sym (cond-false (place == i) (Some (earlier_or (get_or os i None) at)) (get_or os i None) differs.0)
  ]
    where
      here : ((place == i) ≡ true) × (place ≡ i) → (length os ≤ place) ⊎ ((k : ℕ) × (get_or os place None ≡ Some k)) → IsNotedAs (get_or os i None)
      here same (inl past) = let is = same.1 in absurd (omega (arith, past, below, is))
      here same (inr (k, has)) =
          let old : get_or os i None ≡ Some k = ap (λ j. get_or os j None) (sym same.1) ∙ has in
          old ∙ ap (λ o. Some (earlier_or o at)) (sym old) ∙ sym (cond-true (place == i) (Some (earlier_or (get_or os i None) at)) (get_or os i None) same.0)

-- what is noted, and what is first among the places that are left, counted from one on
abbrev pub first_with : Option ℕ → ℕ → Option ℕ → Option ℕ
first_with (Some k) next o = Some k
first_with None next o = option_map (λ k. next + k) o

pub with-none : (next : ℕ) (o : Option ℕ) → next ≡ 0 → first_with None next o ≡ o
with-none next None is = refl
with-none next (Some k) is = let e : next + k ≡ k = omega (arith, is) in ap Some e

pub with-past : (next : ℕ) (o : Option ℕ) → first_with o next None ≡ o
with-past next None = refl
with-past next (Some k) = refl

-- one place more is noted
pub with-more : (s i next : ℕ) (old now : Option ℕ) (js : List ℕ) → now ≡ (if s == i then Some (earlier_or old next) else old) → first_with now (next + 1) (first_of js i) ≡ first_with old next (first_of (s ∷ js) i)
with-more s i next old now js is = ap (λ o. first_with o (next + 1) (first_of js i)) is ∙ go (s == i) old (first_of js i)
  where
    go : (b : Bool) (o f : Option ℕ) → first_with (if b then Some (earlier_or o next) else o) (next + 1) f ≡ first_with o next (if b then Some 0 else option_map suc f)
    go true None f = let e : next ≡ next + 0 = omega arith in ap Some e
    go true (Some k) f = refl
    go false None None = refl
    go false None (Some k) = let e : next + 1 + k ≡ next + suc k = omega arith in ap Some e
    go false (Some k) f = refl

-- ---- operands that are taken

pub operand-other : (xs : List Tree) (k j : ℕ) (x : Tree) → (j ≡ k → ⊥) → operand (trees (slice_set xs k x)) j ≡ operand (trees xs) j
operand-other [] k j x other = refl
operand-other (y ∷ xs) zero zero x other = absurd (other refl)
operand-other (y ∷ xs) zero (suc j) x other = refl
operand-other (y ∷ xs) (suc k) zero x other = refl
operand-other (y ∷ xs) (suc k) (suc j) x other = operand-other xs k j x (λ e. other (ap suc e))

-- those behind are none that was taken
picked-kept : (old new : Trees) (o : Option ℕ) (os : List (Option ℕ)) → Differs o os → ((k : ℕ) → (o ≡ Some k → ⊥) → operand new k ≡ operand old k) → picked new os ≡ picked old os
picked-kept old new o [] distinct kept = refl
picked-kept old new o (x ∷ xs) (here, distinct) kept = ap₂ more (one x here) (picked-kept old new o xs distinct kept)
  where
    one : (y : Option ℕ) → ((k : ℕ) → y ≡ Some k → o ≡ Some k → ⊥) → picked_one new y ≡ picked_one old y
    one None other = refl
    one (Some k) other = kept k (other k refl)

distinct-drop : (n : ℕ) (os : List (Option ℕ)) → AreDistinct os → AreDistinct (drop n os)
distinct-drop zero os distinct = distinct
distinct-drop (suc n) [] distinct = tt
distinct-drop (suc n) (o ∷ os) distinct = distinct-drop n os distinct.1

-- with those before, the operands that are left to take are all
abbrev pub PicksTo : Trees → List (Option ℕ) → ℕ → Trees → Trees → Type 0
PicksTo first os i left before = followed_by before (picked left (drop i os)) ≡ picked first os

pub picks-on : (first : Trees) (os : List (Option ℕ)) (i : ℕ) (o : Option ℕ) → i < length os → o ≡ get_or os i None → AreDistinct os → (old new before now : Trees) (t : Tree)
    → t ≡ picked_one old o → ((k : ℕ) → (o ≡ Some k → ⊥) → operand new k ≡ operand old k) → now ≡ followed_by before (more t none)
    → PicksTo first os i old before → PicksTo first os (i + 1) new now
picks-on first os i o below item distinct old new before now t is kept pushed so_far =
    let here : drop i os ≡ o ∷ drop (i + 1) os = drop-cons os i None below ∙ ap₂ ◌∷◌ (sym item) (ap (λ k. drop k os) (sym (add-one i))) in
    let rest = drop (i + 1) os in
    let differs : Differs o rest = (subst AreDistinct here (distinct-drop i os distinct)).0 in
    ap (λ es. followed_by es (picked new rest)) pushed ∙ followed_by_push before (picked new rest) t
    ∙ ap₂ (λ u es. followed_by before (more u es)) is (picked-kept old new o rest differs kept)
    ∙ ap (λ xs. followed_by before (picked old xs)) (sym here) ∙ so_far

pub picks-all : (first : Trees) (os : List (Option ℕ)) (i : ℕ) (left all : Trees) → length os ≤ i → PicksTo first os i left all → all ≡ picked first os
picks-all first os i left all done so_far = sym (followed_by_none all) ∙ ap (λ xs. followed_by all (picked left xs)) (sym (drop_all i os done)) ∙ so_far
