-- Expressions with something put in compared with one another, and with sides of conversions.
use Rattle.std.proofs.Common.{ℕ, ◌≡◌, ◌↔◌, ◌<◌, ◌≤◌, ◌+◌, Bool, true, false, List, [], ◌∷◌, length, get_or, drop, Result, refl, sym, ap, ◌∙◌, subst, true≢false}
use Rattle.std.specs.Prelude.{IsTrue, IfOk, not}
use Rattle.std.proofs.lemmas.List.{drop_all}
use Rattle.std.proofs.lemmas.Result.{IfOk-weaker}
use Rattle.mz_base.proofs.Offered.{drop-item}
use Rattle.mz_logic_theory.specs.Conversions.{Conversion, Conversions, refl_conv, sym_conv, cong_conv, unfold_conv, gap_conv}
use Rattle.mz_logic_theory.specs.Tree.{Tree, Trees, var, app, none, more, listed, past, instances, followed_by, variables}
use Rattle.mz_logic_theory.proofs.Offered.{past-end}
use Rattle.mz_mmu_theory.specs.ConvView.{conversion, conversions}
use Rattle.mz_mmu_theory.specs.declared.conv.Conv.{Conv}
use Rattle.mz_type_rules.specs.Claims.{put_in, all_put_in}
use Rattle.mz_mmu_theory.specs.Sides.{side, sides}
use Rattle.mz_type_rules.specs.declared.claim.Put.{Put}
use Rattle.mz_type_rules.specs.declared.claim.Put.TheVariants.{Nothing, Operands}

-- ---- trees that are equal

heads : {t u : ℕ} {es fs : Trees} → app t es ≡ app u fs → t ≡ u
heads e = cc

pub operands : {t u : ℕ} {es fs : Trees} → app t es ≡ app u fs → es ≡ fs
operands e = cc

firsts : {a b : Tree} {es fs : Trees} → more a es ≡ more b fs → a ≡ b
firsts e = cc

others : {a b : Tree} {es fs : Trees} → more a es ≡ more b fs → es ≡ fs
others e = cc

no_first : {e : Tree} {es : Trees} → none ≡ more e es → ⊥
no_first e = cc

pub no_variable : {t x : ℕ} {es : Trees} → app t es ≡ var x → ⊥
no_variable e = cc

pub other_term : {t u : ℕ} {es fs : Trees} → (t ≡ u → ⊥) → app t es ≡ app u fs → ⊥
other_term differ e = differ (heads e)

-- ---- answers

pub never : {P : Type 0} → (P → ⊥) → IsTrue false ↔ P
never out = (λ h. absurd (true≢false (sym h)), λ p. absurd (out p))

module _ {E : Type 0} (r : Result Bool E) where
  -- of equal expressions
  pub same_as : {a a' b b' : Tree} → a ≡ a' → b ≡ b' → IfOk r (λ is. IsTrue is ↔ (a ≡ b)) → IfOk r (λ is. IsTrue is ↔ (a' ≡ b'))
  same_as {a} {a'} {b} {b'} p q h = subst (λ y. IfOk r (λ is. IsTrue is ↔ (a' ≡ y))) q (subst (λ x. IfOk r (λ is. IsTrue is ↔ (x ≡ b))) p h)

  -- of a term over operands, given that of the operands
  pub terms_as : {t u : ℕ} {es es' fs fs' : Trees} → t ≡ u → es ≡ es' → fs ≡ fs' → IfOk r (λ is. IsTrue is ↔ (es ≡ fs)) → IfOk r (λ is. IsTrue is ↔ (app t es' ≡ app u fs'))
  terms_as {t} {u} {es} {es'} {fs} {fs'} t-is p q = IfOk-weaker r (λ is. IsTrue is ↔ (es ≡ fs)) (λ is. IsTrue is ↔ (app t es' ≡ app u fs'))
      (λ is h. (λ yes-is. ap (λ k. app k es') t-is ∙ ap (app u) (sym p ∙ h.0 yes-is ∙ q), λ e. h.1 (p ∙ operands e ∙ sym q)))

-- ---- one after another

pub put_app : (p : Put) (t : ℕ) (es : Trees) → put_in p (app t es) ≡ app t (all_put_in p es)
put_app Nothing t es = refl
put_app (Operands fs ys) t es = refl

put_more : (p : Put) (e : Tree) (es : Trees) → all_put_in p (more e es) ≡ more (put_in p e) (all_put_in p es)
put_more Nothing e es = refl
put_more (Operands fs ys) e es = refl

sides_more : (r : Bool) (x : Conv) (xs : List Conv) → sides r (conversions (x ∷ xs)) ≡ more (side r (conversion x)) (sides r (conversions xs))
sides_more true x xs = refl
sides_more false x xs = refl

pub put_cut : (p : Put) (es fs : Trees) (e : Tree) → es ≡ more e fs → all_put_in p es ≡ more (put_in p e) (all_put_in p fs)
put_cut p es fs e is = ap (all_put_in p) is ∙ put_more p e fs

pub sides_cut : (r : Bool) (p : Put) (xs : List Conv) (ys : Trees) (i : ℕ) (x : Conv) (y : Tree) → i < length xs → x ≡ get_or xs i x → past i ys ≡ more y (past (i + 1) ys)
    → (sides r (conversions (drop i xs)) ≡ all_put_in p (past i ys))
    ↔ ((side r (conversion x) ≡ put_in p y) × (sides r (conversions (drop (i + 1) xs)) ≡ all_put_in p (past (i + 1) ys)))
sides_cut r p xs ys i x y x-lt x-is y-is =
    let left = ap (λ l. sides r (conversions l)) (drop-item xs i x x-lt x-is) ∙ sides_more r x (drop (i + 1) xs) in
    let right = put_cut p (past i ys) (past (i + 1) ys) y y-is in (
      λ e. (firsts (sym left ∙ e ∙ right), others (sym left ∙ e ∙ right)),
      λ both. left ∙ ap (λ z. more z (sides r (conversions (drop (i + 1) xs)))) both.0 ∙ ap (more (put_in p y)) both.1 ∙ sym right,
    )

pub put_end : (p : Put) (es : Trees) → es ≡ none → all_put_in p es ≡ none
put_end Nothing es is = is
put_end (Operands fs ys) es is = ap (instances (followed_by fs.now (variables ys.now))) is

none_left : (r : Bool) → sides r (conversions []) ≡ none
none_left true = refl
none_left false = refl

-- behind the last ones
pub sides_end : (r : Bool) (p : Put) (xs : List Conv) (ys : Trees) (i : ℕ) → length xs ≤ i → length (listed ys) ≤ i → sides r (conversions (drop i xs)) ≡ all_put_in p (past i ys)
sides_end r p xs ys i x-end y-end = ap (λ l. sides r (conversions l)) (drop_all i xs x-end) ∙ none_left r ∙ sym (put_end p (past i ys) (past-end ys i y-end))

-- nothing is no list that has a first one
pub no_end : (p q : Put) {es fs gs : Trees} {f : Tree} → es ≡ none → fs ≡ more f gs → all_put_in p es ≡ all_put_in q fs → ⊥
no_end p q {es} {fs} {gs} {f} end is same = no_first (sym (put_end p es end) ∙ same ∙ put_cut q fs gs f is)

-- a list by what its first one and the others are
pub put_first : (p : Put) {es all fs gs : Trees} {x f g : Tree} → es ≡ all → es ≡ more f fs → x ≡ put_in p g → g ≡ f → gs ≡ fs → all_put_in p all ≡ more x (all_put_in p gs)
put_first p {es} {all} {fs} {gs} {x} {f} {g} whole cut first f-is fs-are =
    ap (all_put_in p) (sym whole) ∙ put_cut p es fs f cut ∙ ap (λ z. more z (all_put_in p fs)) (sym (first ∙ ap (put_in p) f-is)) ∙ ap (λ hs. more x (all_put_in p hs)) (sym fs-are)

-- the first ones are compared, and the others wait with those that waited before
pub first_compared : {E : Type 0} (r : Result Bool E) (After Between Before : Type 0) (a b : Tree) (es fs all all' : Trees) → all ≡ more a es → all' ≡ more b fs
    → Between ↔ (Before × (es ≡ fs)) → IfOk r (λ same. (IsTrue same × After) ↔ (Between × (a ≡ b))) → IfOk r (λ same. (IsTrue same × After) ↔ (Before × (all ≡ all')))
first_compared r After Between Before a b es fs all all' left right others-wait =
    IfOk-weaker r (λ same. (IsTrue same × After) ↔ (Between × (a ≡ b))) (λ same. (IsTrue same × After) ↔ (Before × (all ≡ all'))) (λ same h. (
      λ yes. let first = h.0 yes in let rest = others-wait.0 first.0 in (rest.0, left ∙ ap (λ z. more z es) first.1 ∙ ap (more b) rest.1 ∙ sym right),
      λ both. let e = sym left ∙ both.1 ∙ right in h.1 (others-wait.1 (both.0, others e), firsts e),
    ))

-- ---- a side, where the conversion is known

pub side_refl : (r : Bool) (e : Tree) → side r (refl_conv e) ≡ e
side_refl true e = refl
side_refl false e = refl

pub side_turned : (r : Bool) (c : Conversion) → side r (sym_conv c) ≡ side (not r) c
side_turned true c = refl
side_turned false c = refl

pub side_cong : (r : Bool) (t : ℕ) (cs : Conversions) → side r (cong_conv t cs) ≡ app t (sides r cs)
side_cong true t cs = refl
side_cong false t cs = refl

pub side_unfolded : (r : Bool) (t : ℕ) (es : Trees) (ys : List ℕ) (c : Conversion) → r ≡ true → side r (unfold_conv t es ys c) ≡ side r c
side_unfolded true t es ys c is = refl
side_unfolded false t es ys c is = absurd (true≢false (sym is))

pub side_folded : (r : Bool) (t : ℕ) (es : Trees) (ys : List ℕ) (c : Conversion) → r ≡ false → side r (unfold_conv t es ys c) ≡ app t es
side_folded true t es ys c is = absurd (true≢false is)
side_folded false t es ys c is = refl

pub right_of_gap : (r : Bool) (a b : Tree) → r ≡ true → side r (gap_conv a b) ≡ b
right_of_gap true a b is = refl
right_of_gap false a b is = absurd (true≢false (sym is))

pub left_of_gap : (r : Bool) (a b : Tree) → r ≡ false → side r (gap_conv a b) ≡ a
left_of_gap true a b is = absurd (true≢false is)
left_of_gap false a b is = refl
