-- A comparison finds the pairs of dummies exactly where there are any.
use Rattle.std.proofs.Common.{◌≡◌, ◌≤◌, ◌<◌, ◌+◌, ◌-◌, ℕ, zero, suc, Bool, true, false, cond, ltb, eqb, List, [], ◌∷◌, length, Option, Some, None, slice_get, refl, ap, sym, ◌∙◌, subst, arith, inl, inr}
use Rattle.std.specs.Prelude.{slice_set, ◌||◌}
use Rattle.std.specs.List.{list_any}
use Rattle.std.proofs.lemmas.Bool.{true≢false, false≢true, ltb-true, ltb-false, eqb-true, eqb-false}
use Rattle.mz_logic_theory.specs.Tree.{Tree, Trees, var, app, none, more}
use Rattle.mz_logic_theory.specs.declared.binder.Binder.{Binder}
use Rattle.mz_spec_proved_theory.specs.AlphaTrees.{SameOver, AllSameOver, Pairs, IsPaired}
use Rattle.mz_spec_proved_theory.specs.Comparison.{all_none, Beside, is_number, is_taken, has_sort, paired, paired_by, beside_dummy, variable_compared, compared, all_compared, and_then}

-- ---- tests

number-is : (n : ℕ) (o : Option ℕ) → is_number n o ≡ true → o ≡ Some n
number-is n None is = absurd (false≢true is)
number-is n (Some m) is = ap Some (eqb-true m n is)

number-of : (n : ℕ) (o : Option ℕ) → o ≡ Some n → is_number n o ≡ true
number-of n None is = absurd cc
number-of n (Some m) is = go (eqb m n) refl
  where
    go : (b : Bool) → eqb m n ≡ b → b ≡ true
    go true e = refl
    go false e = absurd (let same : m ≡ n = cc in eqb-false m n e same)

taken-at : (ps : List (Option ℕ)) (p : ℕ) → is_taken ps p ≡ true → (j : ℕ) × (slice_get ps j ≡ Some (Some p))
taken-at [] p is = absurd (false≢true is)
taken-at (x ∷ xs) p is = go (is_number p x) refl is (λ rest. taken-at xs p rest)
  where
    go : (b : Bool) → is_number p x ≡ b → (b || list_any (is_number p) xs) ≡ true → (is_taken xs p ≡ true → (j : ℕ) × (slice_get xs j ≡ Some (Some p))) → (j : ℕ) × (slice_get (x ∷ xs) j ≡ Some (Some p))
    go true here all further = (0, ap Some (number-is p x here))
    go false here all further = let (j, at) = further all in (suc j, at)

not-taken : (ps : List (Option ℕ)) (p j : ℕ) → slice_get ps j ≡ Some (Some p) → is_taken ps p ≡ true
not-taken [] p j at = absurd cc
not-taken (x ∷ xs) p zero at = let here : x ≡ Some p = cc in ap (λ (b : Bool). b || list_any (is_number p) xs) (number-of p x here)
not-taken (x ∷ xs) p (suc j) at = go (is_number p x) (not-taken xs p j at)
  where
    go : (b : Bool) → is_taken xs p ≡ true → (b || list_any (is_number p) xs) ≡ true
    go true is = refl
    go false is = is

set-here : (ps : List (Option ℕ)) (k : ℕ) (v w : Option ℕ) → slice_get ps k ≡ Some w → slice_get (slice_set ps k v) k ≡ Some v
set-here [] k v w at = absurd cc
set-here (x ∷ xs) zero v w at = refl
set-here (x ∷ xs) (suc k) v w at = set-here xs k v w at

set-elsewhere : (ps : List (Option ℕ)) (k j : ℕ) (v : Option ℕ) → (j ≡ k → ⊥) → slice_get (slice_set ps k v) j ≡ slice_get ps j
set-elsewhere [] k j v other = refl
set-elsewhere (x ∷ xs) zero zero v other = absurd (other refl)
set-elsewhere (x ∷ xs) zero (suc j) v other = refl
set-elsewhere (x ∷ xs) (suc k) zero v other = refl
set-elsewhere (x ∷ xs) (suc k) (suc j) v other = set-elsewhere xs k j v (λ same. other (ap suc same))

set-length : (ps : List (Option ℕ)) (k : ℕ) (v : Option ℕ) → length (slice_set ps k v) ≡ length ps
set-length [] k v = refl
set-length (x ∷ xs) zero v = refl
set-length (x ∷ xs) (suc k) v = ap suc (set-length xs k v)

there : (ps : List (Option ℕ)) (k : ℕ) → k < length ps → (v : Option ℕ) × (slice_get ps k ≡ Some v)
there [] k below = absurd (omega arith)
there (x ∷ xs) zero below = (x, refl)
there (x ∷ xs) (suc k) below = there xs k (omega arith)

within : (bs : List Binder) (k : ℕ) (b : Binder) → slice_get bs k ≡ Some b → k < length bs
within [] k b at = absurd cc
within (x ∷ xs) zero b at = omega arith
within (x ∷ xs) (suc k) b at = let below = within xs k b at in omega (arith, below)

-- ---- more pairs

abbrev pub Extends : List (Option ℕ) → List (Option ℕ) → Type 0
Extends ps qs = (k p : ℕ) → slice_get ps k ≡ Some (Some p) → slice_get qs k ≡ Some (Some p)

abbrev mutual
  pub weaker : (V W : ℕ → ℕ → Type 0) (rows : List ℕ) → ((x y : ℕ) → V x y → W x y) → (e f : Tree) → SameOver V rows e f → SameOver W rows e f
  weaker V W rows up (var x) (var y) same = up x y same
  weaker V W rows up (var x) (app t fs) same = same
  weaker V W rows up (app k es) (var y) same = same
  weaker V W rows up (app k es) (app t fs) same = (same.0, all-weaker V W rows up es fs same.1)

  pub all-weaker : (V W : ℕ → ℕ → Type 0) (rows : List ℕ) → ((x y : ℕ) → V x y → W x y) → (es fs : Trees) → AllSameOver V rows es fs → AllSameOver W rows es fs
  all-weaker V W rows up none none same = same
  all-weaker V W rows up none (more f fs) same = same
  all-weaker V W rows up (more e es) none same = same
  all-weaker V W rows up (more e es) (more f fs) same = (weaker V W rows up e f same.0, all-weaker V W rows up es fs same.1)

paired-more : (n : ℕ) (ps qs : List (Option ℕ)) → Extends ps qs → (x y : ℕ) → IsPaired n ps x y → IsPaired n qs x y
paired-more n ps qs up x y (inl both) = inl both
paired-more n ps qs up x y (inr (p, k, xs, ys, at)) = inr (p, k, xs, ys, up k p at)

module _ (b : Beside) where
  abbrev Same : List (Option ℕ) → Tree → Tree → Type 0
  Same qs e f = SameOver (IsPaired b.params qs) b.rows e f

  abbrev AllSame : List (Option ℕ) → Trees → Trees → Type 0
  AllSame qs es fs = AllSameOver (IsPaired b.params qs) b.rows es fs

  -- what is found: pairs, more than before, under which the two are the same
  abbrev Finds : List (Option ℕ) → List (Option ℕ) → Type 0 → Type 0
  Finds ps qs S = Pairs b.ds b.es qs × Extends ps qs × S

  sound-fresh : (ps qs : List (Option ℕ)) (k p x y : ℕ) (d : Binder) → Pairs b.ds b.es ps → slice_get b.es k ≡ Some d → x ≡ b.params + p → y ≡ b.params + k
      → slice_get ps k ≡ Some None → is_taken ps p ≡ false → has_sort (slice_get b.ds p) d.sort ≡ true → slice_set ps k (Some p) ≡ qs → Finds ps qs (IsPaired b.params qs x y)
  sound-fresh ps qs k p x y d good at-k x-is y-is free untaken sorted is = subst (λ (rs : List (Option ℕ)). Finds ps rs (IsPaired b.params rs x y)) is (
    record {
      keeps_sorts = λ j q at. by_sort j q at (eqb j k) refl;
      one_to_one = λ i j q at-i at-j. by_one i j q at-i at-j (eqb i k) (eqb j k) refl refl;
    },
    extends,
    inr (p, k, x-is, y-is, set-here ps k (Some p) None free),
  )
    where
      elsewhere : (j q : ℕ) → (j ≡ k → ⊥) → slice_get (slice_set ps k (Some p)) j ≡ Some (Some q) → slice_get ps j ≡ Some (Some q)
      elsewhere j q other at = sym (set-elsewhere ps k j (Some p) other) ∙ at

      here : (j q : ℕ) → j ≡ k → slice_get (slice_set ps k (Some p)) j ≡ Some (Some q) → q ≡ p
      here j q same at = let both : Some (Some p) ≡ Some (Some q) = sym (set-here ps k (Some p) None free) ∙ ap (slice_get (slice_set ps k (Some p))) (sym same) ∙ at in cc

      no-other : (j : ℕ) → slice_get ps j ≡ Some (Some p) → ⊥
      no-other j at = true≢false (sym (not-taken ps p j at) ∙ untaken)

      sort-there : (o : Option Binder) → has_sort o d.sort ≡ true → (c : Binder) × (o ≡ Some c) × (c.sort ≡ d.sort)
      sort-there None e = absurd (false≢true e)
      sort-there (Some c) e = (c, refl, eqb-true c.sort d.sort e)

      by_sort : (j q : ℕ) → slice_get (slice_set ps k (Some p)) j ≡ Some (Some q) → (same : Bool) → eqb j k ≡ same
          → (c : Binder) × (e : Binder) × (slice_get b.ds q ≡ Some c) × (slice_get b.es j ≡ Some e) × (c.sort ≡ e.sort)
      by_sort j q at true e =
          let j-is : j ≡ k = eqb-true j k e in
          let (c, c-at, c-sort) = sort-there (slice_get b.ds p) sorted in
          (c, d, ap (slice_get b.ds) (here j q j-is at) ∙ c-at, ap (slice_get b.es) j-is ∙ at-k, c-sort)
      by_sort j q at false e = good.keeps_sorts j q (elsewhere j q (eqb-false j k e) at)

      by_one : (i j q : ℕ) → slice_get (slice_set ps k (Some p)) i ≡ Some (Some q) → slice_get (slice_set ps k (Some p)) j ≡ Some (Some q) → (s t : Bool) → eqb i k ≡ s → eqb j k ≡ t → i ≡ j
      by_one i j q at-i at-j true true e f = eqb-true i k e ∙ sym (eqb-true j k f)
      by_one i j q at-i at-j true false e f =
          let q-is = here i q (eqb-true i k e) at-i in
          absurd (no-other j (elsewhere j q (eqb-false j k f) at-j ∙ ap (λ (z : ℕ). Some (Some z)) q-is))
      by_one i j q at-i at-j false true e f =
          let q-is = here j q (eqb-true j k f) at-j in
          absurd (no-other i (elsewhere i q (eqb-false i k e) at-i ∙ ap (λ (z : ℕ). Some (Some z)) q-is))
      by_one i j q at-i at-j false false e f = good.one_to_one i j q (elsewhere i q (eqb-false i k e) at-i) (elsewhere j q (eqb-false j k f) at-j)

      extends : Extends ps (slice_set ps k (Some p))
      extends j q at = go (eqb j k) refl
        where
          go : (same : Bool) → eqb j k ≡ same → slice_get (slice_set ps k (Some p)) j ≡ Some (Some q)
          go true e = absurd (let both : Some None ≡ Some (Some q) = sym free ∙ ap (slice_get ps) (sym (eqb-true j k e)) ∙ at in cc)
          go false e = set-elsewhere ps k j (Some p) (eqb-false j k e) ∙ at

  sound-paired : (ps qs : List (Option ℕ)) (k p x y : ℕ) (d : Binder) (o : Option (Option ℕ)) → Pairs b.ds b.es ps → slice_get b.es k ≡ Some d → x ≡ b.params + p → y ≡ b.params + k
      → slice_get ps k ≡ o → paired_by b.ds ps k d.sort p o ≡ Some qs → Finds ps qs (IsPaired b.params qs x y)
  sound-paired ps qs k p x y d None good at-k x-is y-is at e = absurd cc
  sound-paired ps qs k p x y d (Some (Some q)) good at-k x-is y-is at e = go (eqb q p) refl e
    where
      go : (same : Bool) → eqb q p ≡ same → cond same (Some ps) None ≡ Some qs → Finds ps qs (IsPaired b.params qs x y)
      go false f is = absurd cc
      go true f is =
          let same : ps ≡ qs = cc in
          subst (λ (rs : List (Option ℕ)). Finds ps rs (IsPaired b.params rs x y)) same (good, (λ j r at-j. at-j), inr (p, k, x-is, y-is, at ∙ ap (λ (z : ℕ). Some (Some z)) (eqb-true q p f)))
  sound-paired ps qs k p x y d (Some None) good at-k x-is y-is at e = go (is_taken ps p) (has_sort (slice_get b.ds p) d.sort) refl refl e
    where
      go : (taken sorted : Bool) → is_taken ps p ≡ taken → has_sort (slice_get b.ds p) d.sort ≡ sorted → cond taken None (cond sorted (Some (slice_set ps k (Some p))) None) ≡ Some qs
          → Finds ps qs (IsPaired b.params qs x y)
      go true sorted t s is = absurd cc
      go false false t s is = absurd cc
      go false true t s is = sound-fresh ps qs k p x y d good at-k x-is y-is at t s cc

  sound-var : (ps qs : List (Option ℕ)) (x y : ℕ) → Pairs b.ds b.es ps → variable_compared b ps x y ≡ Some qs → Finds ps qs (IsPaired b.params qs x y)
  sound-var ps qs x y good e = go (ltb y b.params) (eqb x y) refl refl e
    where
      far : (low : Bool) (o : Option Binder) → b.params ≤ y → ltb x b.params ≡ low → slice_get b.es (y - b.params) ≡ o → beside_dummy b ps x (y - b.params) o ≡ Some qs → Finds ps qs (IsPaired b.params qs x y)
      far low None high below at is = absurd cc
      far true (Some d) high below at is = absurd (let none : None ≡ Some qs = ap (λ (z : Bool). cond z None (paired b.ds ps (y - b.params) d.sort (x - b.params))) (sym below) ∙ is in cc)
      far false (Some d) high below at is =
          let x-high : b.params ≤ x = ltb-false x b.params below in
          sound-paired ps qs (y - b.params) (x - b.params) x y d (slice_get ps (y - b.params)) good at (omega (arith, x-high)) (omega (arith, high)) refl
          (ap (λ (z : Bool). cond z None (paired b.ds ps (y - b.params) d.sort (x - b.params))) (sym below) ∙ is)

      go : (low same : Bool) → ltb y b.params ≡ low → eqb x y ≡ same → cond low (cond same (Some ps) None) (beside_dummy b ps x (y - b.params) (slice_get b.es (y - b.params))) ≡ Some qs
          → Finds ps qs (IsPaired b.params qs x y)
      go true false l s is = absurd cc
      go true true l s is =
          let same : ps ≡ qs = cc in
          subst (λ (rs : List (Option ℕ)). Finds ps rs (IsPaired b.params rs x y)) same (good, (λ j r at-j. at-j), inl (eqb-true x y s, ltb-true y b.params l))
      go false same l s is = far (ltb x b.params) (slice_get b.es (y - b.params)) (ltb-false y b.params l) refl refl is

  -- both of two steps
  both-found : (ps qs rs : List (Option ℕ)) (e f : Tree) (es fs : Trees) → Finds ps qs (Same qs e f) → Finds qs rs (AllSame rs es fs) → Finds ps rs (AllSame rs (more e es) (more f fs))
  both-found ps qs rs e f es fs (good, up, same) (good', up', all) =
      (good', (λ k p at. up' k p (up k p at)), (weaker (IsPaired b.params qs) (IsPaired b.params rs) b.rows (paired-more b.params qs rs up') e f same, all))

  app-sound : (ps qs : List (Option ℕ)) (k : ℕ) (es : Trees) (t : ℕ) (fs : Trees) (z : Bool) → is_number t (slice_get b.rows k) ≡ z
      → (all_compared b ps es fs ≡ Some qs → Finds ps qs (AllSame qs es fs)) → cond z (all_compared b ps es fs) None ≡ Some qs → Finds ps qs (Same qs (app k es) (app t fs))
  app-sound ps qs k es t fs false row all is = absurd cc
  app-sound ps qs k es t fs true row all is = let (good, up, same) = all is in (good, up, (number-is t (slice_get b.rows k) row, same))

  more-sound : (ps qs : List (Option ℕ)) (e : Tree) (es : Trees) (f : Tree) (fs : Trees) (o : Option (List (Option ℕ))) → compared b ps e f ≡ o
      → ((rs : List (Option ℕ)) → compared b ps e f ≡ Some rs → Finds ps rs (Same rs e f))
      → ((rs : List (Option ℕ)) → Pairs b.ds b.es rs → all_compared b rs es fs ≡ Some qs → Finds rs qs (AllSame qs es fs))
      → and_then o (λ rs. all_compared b rs es fs) ≡ Some qs → Finds ps qs (AllSame qs (more e es) (more f fs))
  more-sound ps qs e es f fs None first one all is = absurd cc
  more-sound ps qs e es f fs (Some rs) first one all is = let found = one rs first in both-found ps rs qs e f es fs found (all rs found.0 is)

  mutual
    pub sound : (ps qs : List (Option ℕ)) (e f : Tree) → Pairs b.ds b.es ps → compared b ps e f ≡ Some qs → Finds ps qs (Same qs e f)
    sound ps qs (var x) (var y) good is = sound-var ps qs x y good is
    sound ps qs (var x) (app t fs) good is = absurd cc
    sound ps qs (app k es) (var y) good is = absurd cc
    sound ps qs (app k es) (app t fs) good is = app-sound ps qs k es t fs (is_number t (slice_get b.rows k)) refl (λ all. all-sound ps qs es fs good all) is

    pub all-sound : (ps qs : List (Option ℕ)) (es fs : Trees) → Pairs b.ds b.es ps → all_compared b ps es fs ≡ Some qs → Finds ps qs (AllSame qs es fs)
    all-sound ps qs none none good is = let same : ps ≡ qs = cc in subst (λ (rs : List (Option ℕ)). Finds ps rs (AllSame rs none none)) same (good, (λ j r at-j. at-j), tt)
    all-sound ps qs none (more f fs) good is = absurd cc
    all-sound ps qs (more e es) none good is = absurd cc
    all-sound ps qs (more e es) (more f fs) good is =
        more-sound ps qs e es f fs (compared b ps e f) refl (λ rs first. sound ps rs e f good first) (λ rs good' all. all-sound rs qs es fs good' all) is

  -- ---- and where there are any, they are found

  -- pairs that go on to the given ones
  abbrev Leads : List (Option ℕ) → List (Option ℕ) → Option (List (Option ℕ)) → Type 0
  Leads ps qs o = (rs : List (Option ℕ)) × (o ≡ Some rs) × Extends rs qs × (length rs ≡ length ps)

  module _ (qs : List (Option ℕ)) (good : Pairs b.ds b.es qs) where
    complete-paired : (ps : List (Option ℕ)) (k p : ℕ) (c d : Binder) (o : Option ℕ) → Extends ps qs → slice_get qs k ≡ Some (Some p) → slice_get b.ds p ≡ Some c → c.sort ≡ d.sort → slice_get ps k ≡ Some o
        → Leads ps qs (paired_by b.ds ps k d.sort p (Some o))
    complete-paired ps k p c d (Some q) up at-q at-c sorts at = go (eqb q p) refl
      where
        go : (same : Bool) → eqb q p ≡ same → Leads ps qs (cond same (Some ps) None)
        go true e = (ps, refl, up, refl)
        go false e = absurd (let both : Some (Some q) ≡ Some (Some p) = sym (up k q at) ∙ at-q in let same : q ≡ p = cc in eqb-false q p e same)
    complete-paired ps k p c d None up at-q at-c sorts at = go (is_taken ps p) (has_sort (slice_get b.ds p) d.sort) refl refl
      where
        free : is_taken ps p ≡ true → ⊥
        free e =
            let (j, at-j) = taken-at ps p e in
            let same : j ≡ k = good.one_to_one j k p (up j p at-j) at-q in
            let both : Some None ≡ Some (Some p) = sym at ∙ ap (slice_get ps) (sym same) ∙ at-j in
            cc

        sorted : has_sort (slice_get b.ds p) d.sort ≡ true
        sorted = ap (λ o. has_sort o d.sort) at-c ∙ same-sort (eqb c.sort d.sort) refl
          where
            same-sort : (z : Bool) → eqb c.sort d.sort ≡ z → z ≡ true
            same-sort true e = refl
            same-sort false e = absurd (eqb-false c.sort d.sort e sorts)

        extends : Extends (slice_set ps k (Some p)) qs
        extends j q at-j = by (eqb j k) refl
          where
            by : (same : Bool) → eqb j k ≡ same → slice_get qs j ≡ Some (Some q)
            by true e =
                let both : Some (Some p) ≡ Some (Some q) = sym (set-here ps k (Some p) None at) ∙ ap (slice_get (slice_set ps k (Some p))) (sym (eqb-true j k e)) ∙ at-j in
                let q-is : p ≡ q = cc in
                ap (slice_get qs) (eqb-true j k e) ∙ at-q ∙ ap (λ (z : ℕ). Some (Some z)) q-is
            by false e = up j q (sym (set-elsewhere ps k j (Some p) (eqb-false j k e)) ∙ at-j)

        go : (taken may : Bool) → is_taken ps p ≡ taken → has_sort (slice_get b.ds p) d.sort ≡ may → Leads ps qs (cond taken None (cond may (Some (slice_set ps k (Some p))) None))
        go true may t s = absurd (free t)
        go false false t s = absurd (true≢false (sym sorted ∙ s))
        go false true t s = (slice_set ps k (Some p), refl, extends, set-length ps k (Some p))

    complete-var : (ps : List (Option ℕ)) (x y : ℕ) → length b.es ≤ length ps → Extends ps qs → IsPaired b.params qs x y → Leads ps qs (variable_compared b ps x y)
    complete-var ps x y room up (inl (same, low)) = go (ltb y b.params) (eqb x y) refl refl
      where
        go : (l s : Bool) → ltb y b.params ≡ l → eqb x y ≡ s → Leads ps qs (cond l (cond s (Some ps) None) (beside_dummy b ps x (y - b.params) (slice_get b.es (y - b.params))))
        go true true e f = (ps, refl, up, refl)
        go true false e f = absurd (eqb-false x y f same)
        go false s e f = absurd (let high = ltb-false y b.params e in omega (arith, high, low))
    complete-var ps x y room up (inr (p, k, x-is, y-is, at-q)) = go (ltb y b.params) refl
      where
        far : Leads ps qs (beside_dummy b ps x (y - b.params) (slice_get b.es (y - b.params)))
        far =
            let (c, d, at-c, at-d, sorts) = good.keeps_sorts k p at-q in
            let k-is : y - b.params ≡ k = omega (arith, y-is) in
            let p-is : x - b.params ≡ p = omega (arith, x-is) in
            let below = within b.es k d at-d in
            let (o, at-o) = there ps k (omega (arith, below, room)) in
            let led = complete-paired ps k p c d o up at-q at-c sorts at-o in
            let low : ltb x b.params ≡ false = not-low (ltb x b.params) refl in
            subst (λ (z : ℕ). Leads ps qs (beside_dummy b ps x z (slice_get b.es z))) (sym k-is)
            (subst (λ (z : Option Binder). Leads ps qs (beside_dummy b ps x k z)) (sym at-d)
            (subst (λ (z : Bool). Leads ps qs (cond z None (paired b.ds ps k d.sort (x - b.params)))) (sym low)
            (subst (λ (z : ℕ). Leads ps qs (paired b.ds ps k d.sort z)) (sym p-is)
            (subst (λ (z : Option (Option ℕ)). Leads ps qs (paired_by b.ds ps k d.sort p z)) (sym at-o) led))))
          where
            not-low : (z : Bool) → ltb x b.params ≡ z → z ≡ false
            not-low true e = absurd (let below = ltb-true x b.params e in omega (arith, below, x-is))
            not-low false e = refl

        go : (l : Bool) → ltb y b.params ≡ l → Leads ps qs (cond l (cond (eqb x y) (Some ps) None) (beside_dummy b ps x (y - b.params) (slice_get b.es (y - b.params))))
        go true e = absurd (let low = ltb-true y b.params e in omega (arith, low, y-is))
        go false e = far

    mutual
      pub complete : (ps : List (Option ℕ)) (e f : Tree) → length b.es ≤ length ps → Extends ps qs → Same qs e f → Leads ps qs (compared b ps e f)
      complete ps (var x) (var y) room up same = complete-var ps x y room up same
      complete ps (var x) (app t fs) room up same = absurd same
      complete ps (app k es) (var y) room up same = absurd same
      complete ps (app k es) (app t fs) room up (row, all) =
          subst (λ (z : Bool). Leads ps qs (cond z (all_compared b ps es fs) None)) (sym (number-of t (slice_get b.rows k) row)) (all-complete ps es fs room up all)

      pub all-complete : (ps : List (Option ℕ)) (es fs : Trees) → length b.es ≤ length ps → Extends ps qs → AllSame qs es fs → Leads ps qs (all_compared b ps es fs)
      all-complete ps none none room up same = (ps, refl, up, refl)
      all-complete ps none (more f fs) room up same = absurd same
      all-complete ps (more e es) none room up same = absurd same
      all-complete ps (more e es) (more f fs) room up (same, all) =
          let (rs, is, up', many) = complete ps e f room up same in
          let (ts, is', up'', many') = all-complete rs es fs (omega (arith, room, many)) up' all in
          (ts, ap (λ (o : Option (List (Option ℕ))). and_then o (λ us. all_compared b us es fs)) is ∙ is', up'', many' ∙ many)

-- ---- from no pairs on

-- none of them says anything
abbrev pub SaysNothing : List (Option ℕ) → Type 0
SaysNothing ps = (k p : ℕ) → slice_get ps k ≡ Some (Some p) → ⊥

pub no-pairs : (ds es : List Binder) (ps : List (Option ℕ)) → SaysNothing ps → Pairs ds es ps
no-pairs ds es ps nothing = record { keeps_sorts = λ k p at. absurd (nothing k p at); one_to_one = λ k l p at at'. absurd (nothing k p at) }

-- an assertion has no dummies: the trees are the same, variables and all
pub no-dummy : (es : List Binder) (ps : List (Option ℕ)) → Pairs [] es ps → SaysNothing ps
no-dummy es ps good k p at = let (d, e, at-d, at-e, sorts) = good.keeps_sorts k p at in absurd cc

pub says-nothing : (ps : List (Option ℕ)) → all_none ps ≡ true → SaysNothing ps
says-nothing [] is k p at = absurd cc
says-nothing (None ∷ ps) is zero p at = absurd cc
says-nothing (None ∷ ps) is (suc k) p at = says-nothing ps is k p at
says-nothing (Some q ∷ ps) is k p at = absurd (false≢true is)
