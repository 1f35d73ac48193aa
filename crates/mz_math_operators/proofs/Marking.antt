-- Parameters that are flagged where they are named, so that none is flagged twice and all are in the end.
use Rattle.std.proofs.Common.{◌≡◌, ◌∙◌, ◌<◌, ◌≤◌, ◌+◌, ℕ, List, [], ◌∷◌, length, Bool, true, false, get_or, slice_set, drop, drop-cons, add-one, ap, ap₂, sym, refl, inl, inr, arith}
use Rattle.std.specs.Prelude.{◌==◌, if◌then◌else◌}
use Rattle.std.proofs.lemmas.Bool.Decides.{eqb_tells}
use Rattle.std.proofs.lemmas.List.{drop_all, get_or-set_same, get_or-set_other}
use Rattle.std.proofs.lemmas.List.Sums.{sum_by-cons}
use Rattle.mz_math_theory.specs.Notation.{places}
use Rattle.mz_math_theory.specs.declared.notation.Element.{Element}
use Rattle.mz_math_theory.specs.declared.notation.Element.TheVariants.{Fixed as fixed, Slot as slot}
use Rattle.mz_math_operators.specs.Once.{one_if, times}

-- ---- one flag

plus-none : (n : ℕ) (b : Bool) → b ≡ false → n ≡ n + one_if b
plus-none n b is = let e : n ≡ n + 0 = omega arith in e ∙ ap (λ c. n + one_if c) (sym is)

pub apart : (j i : ℕ) → (j ≡ i → ⊥) → (j == i) ≡ false
apart j i differ = elim (eqb_tells j i) [ inl same ↦ absurd (differ same.1) | inr differs ↦ differs.0 ]

-- at a place past the end no flag changes
pub mark-past : (ms : List Bool) (place i : ℕ) → length ms ≤ place → i < length ms → one_if (get_or ms i false) ≡ one_if (get_or ms i false) + one_if (place == i)
mark-past ms place i past below = plus-none (one_if (get_or ms i false)) (place == i) (apart place i (λ same. omega (arith, past, below, same)))

pub mark-set : (ms : List Bool) (place i : ℕ) → place < length ms → get_or ms place false ≡ false → one_if (get_or (slice_set ms place true) i false) ≡ one_if (get_or ms i false) + one_if (place == i)
mark-set ms place i within fresh = elim (eqb_tells place i) [
  | inl same ↦ (
      let now : get_or (slice_set ms place true) i false ≡ true = ap (λ j. get_or (slice_set ms place true) j false) (sym same.1) ∙ get_or-set_same ms place true false within in
      let was : get_or ms i false ≡ false = ap (λ j. get_or ms j false) (sym same.1) ∙ fresh in
      ap one_if now ∙ sym (ap₂ (λ b c. one_if b + one_if c) was same.0)
      )
  | inr differs ↦ ap one_if (get_or-set_other ms place i true false (λ e. differs.1 (sym e))) ∙ plus-none (one_if (get_or ms i false)) (place == i) differs.0
]

-- ---- one element

pub times-slot : (s i : ℕ) → times (slot s ∷ []) i ≡ one_if (s == i)
times-slot s i = let f : ℕ → ℕ = λ j. if j == i then 1 else 0 in let e : f s + 0 ≡ f s = omega arith in sum_by-cons f s [] ∙ e

pub slot-here : (s : ℕ) → times (slot s ∷ []) s ≡ 1
slot-here s = times-slot s s ∙ elim (eqb_tells s s) [ inl same ↦ ap one_if same.0 | inr differs ↦ absurd (differs.1 refl) ]

times-cons : (e : Element) (es : List Element) (i : ℕ) → times (e ∷ es) i ≡ times (e ∷ []) i + times es i
times-cons (fixed w q) es i = let e : times es i ≡ 0 + times es i = omega arith in e
times-cons (slot s) es i = sum_by-cons (λ (j : ℕ). if j == i then 1 else 0) s (places es) ∙ ap (λ n. n + times es i) (sym (times-slot s i))

module _ (es : List Element) (k : ℕ) (e : Element) (within : k < length es) (item : e ≡ get_or es k e) (i : ℕ) where
  at-element : times (drop k es) i ≡ times (e ∷ []) i + times (drop (k + 1) es) i
  at-element = ap (λ xs. times xs i) (drop-cons es k e within ∙ ap₂ ◌∷◌ (sym item) (ap (λ j. drop j es) (sym (add-one k)))) ∙ times-cons e (drop (k + 1) es) i

  -- what is flagged and what is left make the whole
  pub marked-on : (old new : Bool) → one_if new ≡ one_if old + times (e ∷ []) i → one_if old + times (drop k es) i ≡ times es i → one_if new + times (drop (k + 1) es) i ≡ times es i
  marked-on old new is so_far = let here = at-element in omega (arith, is, so_far, here)

  pub named-twice : (old : Bool) → old ≡ true → times (e ∷ []) i ≡ 1 → one_if old + times (drop k es) i ≡ times es i → times es i ≡ 1 → ⊥
  named-twice old was one so_far once = let here = at-element in let mark = ap one_if was in omega (arith, here, mark, one, so_far, once)

-- ---- in the end

module _ (es : List Element) (k : ℕ) (done : length es ≤ k) (i : ℕ) (b : Bool) (so_far : one_if b + times (drop k es) i ≡ times es i) where
  all-seen : one_if b ≡ times es i
  all-seen = let none_left = ap (λ xs. times xs i) (drop_all k es done) in let e : one_if b ≡ one_if b + 0 = omega arith in e ∙ ap (λ n. one_if b + n) (sym none_left) ∙ so_far

  pub set-once : b ≡ true → times es i ≡ 1
  set-once set = sym all-seen ∙ ap one_if set

  pub once-set : times es i ≡ 1 → b ≡ true
  once-set once = go b (all-seen ∙ once)
    where
      go : (c : Bool) → one_if c ≡ 1 → c ≡ true
      go true one = refl
      go false one = absurd (omega (arith, one))
