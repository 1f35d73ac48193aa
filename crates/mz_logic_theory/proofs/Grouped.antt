-- Formulas with their ends, and the hypotheses that they make.
use Rattle.std.proofs.Common.{ℕ, zero, suc, true, false, leb, leb-true, leb-false, ◌≡◌, ◌<◌, ◌≤◌, ◌+◌, ◌-◌, ◌∙◌, List, [], ◌∷◌, ◌++◌, length, get_or, slice_get, option_map, Option, Some, None, MatchOption, Result, Ok, Err, is_err, nat_cmp, Bor, ap, refl, sym, subst, arith, le_of_suc-le-suc, not-suc-le-zero}
use Rattle.std.specs.List.Sorted.{IsBinarySearchResult, IsNonDecreasingBy, IsPartitionPoint}
use Rattle.std.proofs.lemmas.Bool.{false≢true}
use Rattle.std.proofs.lemmas.List.{get_or_default}
use Rattle.std.proofs.lemmas.List.Sorted.{searched}
use Rattle.std.proofs.lemmas.Option.{none-some}
use Rattle.mz_logic_theory.specs.Tree.{Tree, Trees, app, none, more, listed, operand, followed_by, copies}
use Rattle.mz_logic_theory.specs.Groups.{up_to, Rise, AreEnds, Repeats}
use Rattle.mz_logic_theory.specs.View.{tree}
use Rattle.mz_logic_theory.specs.declared.expr.Expr.{Expr}
use Rattle.mz_logic_theory.proofs.Follow.{followed_by_none, followed_by_assoc}
use Rattle.mz_logic_theory.proofs.Instance.{one_at}

pub repeats : (from : ℕ) (es : Trees) (ends : List ℕ) → length (listed es) ≡ length ends → Rise from ends → Repeats es (up_to from es ends)
repeats from none ends many rise = refl
repeats from (more e es) [] many rise = absurd (omega (arith, many))
repeats from (more e es) (end ∷ ends) many (above, rise) =
    let some : end - from ≡ suc (end - from - 1) = omega (arith, above) in
    (end - from - 1, up_to end es ends, repeats end es ends (omega (arith, many)) rise, ap (λ n. followed_by (copies n e) (up_to end es ends)) some)

-- ---- how many there are

-- the last end
abbrev pub final : ℕ → List ℕ → ℕ
final from [] = from
final from (end ∷ ends) = final end ends

length-copied : (n : ℕ) (e : Tree) (rest : Trees) → length (listed (followed_by (copies n e) rest)) ≡ n + length (listed rest)
length-copied zero e rest = omega arith
length-copied (suc n) e rest = let many = length-copied n e rest in omega (arith, many)

pub length-up_to : (from : ℕ) (es : Trees) (ends : List ℕ) → length (listed es) ≡ length ends → Rise from ends → length (listed (up_to from es ends)) + from ≡ final from ends
length-up_to from none [] many rise = omega arith
length-up_to from none (end ∷ ends) many rise = absurd (omega (arith, many))
length-up_to from (more e es) [] many rise = absurd (omega (arith, many))
length-up_to from (more e es) (end ∷ ends) many (above, rise) =
    let front = length-copied (end - from) e (up_to end es ends) in
    let left = length-up_to end es ends (omega (arith, many)) rise in
    omega (arith, front, left, above)

pub long : (es hs : Trees) (ends : List ℕ) → up_to 0 es ends ≡ hs → AreEnds es ends → length (listed hs) ≡ final 0 ends
long es hs ends is (many, rise) =
    let all = length-up_to 0 es ends many rise in
    ap (λ fs. length (listed fs)) (sym is) ∙ (let whole : length (listed (up_to 0 es ends)) ≡ final 0 ends = omega (arith, all) in whole)

last-read : (x : ℕ) (xs : List ℕ) (y : ℕ) → slice_get (x ∷ xs) (length xs) ≡ Some y → final x xs ≡ y
last-read x [] y at = one_at refl at
last-read x (next ∷ xs) y at = last-read next xs y at

last-there : (x : ℕ) (xs : List ℕ) → slice_get (x ∷ xs) (length xs) ≡ None → ⊥
last-there x [] at = none-some _ (sym at)
last-there x (next ∷ xs) at = last-there next xs at

before-last : (x : ℕ) (xs : List ℕ) → length (x ∷ xs) - 1 ≡ length xs
before-last x xs = omega arith

-- the last end, as it is read
pub final-read : (from x : ℕ) (ends : List ℕ) → slice_get ends (length ends - 1) ≡ Some x → final from ends ≡ x
final-read from x [] at = absurd (none-some _ at)
final-read from x (end ∷ ends) at = last-read end ends x (subst (λ k. slice_get (end ∷ ends) k ≡ Some x) (before-last end ends) at)

pub final-none : (from : ℕ) (ends : List ℕ) → slice_get ends (length ends - 1) ≡ None → final from ends ≡ from
final-none from [] at = refl
final-none from (end ∷ ends) at = absurd (last-there end ends (subst (λ k. slice_get (end ∷ ends) k ≡ None) (before-last end ends) at))

-- ---- one group more

pub length-push : (es : Trees) (e : Tree) → length (listed (followed_by es (more e none))) ≡ suc (length (listed es))
length-push none e = refl
length-push (more d es) e = ap suc (length-push es e)

pub rise-push : (from end : ℕ) (ends : List ℕ) → Rise from ends → final from ends < end → Rise from (ends ++ end ∷ [])
rise-push from end [] rise above = (above, tt)
rise-push from end (x ∷ xs) (first, rise) above = (first, rise-push x end xs rise above)

pub up_to-push : (from : ℕ) (es : Trees) (ends : List ℕ) (e : Tree) (end : ℕ) → length (listed es) ≡ length ends
    → up_to from (followed_by es (more e none)) (ends ++ end ∷ []) ≡ followed_by (up_to from es ends) (copies (end - final from ends) e)
up_to-push from none [] e end many = followed_by_none (copies (end - from) e)
up_to-push from none (x ∷ xs) e end many = absurd (omega (arith, many))
up_to-push from (more f es) [] e end many = absurd (omega (arith, many))
up_to-push from (more f es) (x ∷ xs) e end many =
    ap (followed_by (copies (x - from) f)) (up_to-push x es xs e end (omega (arith, many)))
    ∙ sym (followed_by_assoc (copies (x - from) f) (up_to x es xs) (copies (end - final x xs) e))

-- ---- each formula once

-- the ends of so many formulas, each once
abbrev pub once : ℕ → ℕ → List ℕ
once from zero = []
once from (suc n) = suc from ∷ once (suc from) n

once-more : (from n end : ℕ) → end ≡ from + n + 1 → once from n ++ end ∷ [] ≡ once from (suc n)
once-more from zero end is = ap (λ x. x ∷ []) (let same : end ≡ suc from = omega (arith, is) in same)
once-more from (suc n) end is = ap (λ xs. suc from ∷ xs) (once-more (suc from) n end (omega (arith, is)))

pub once-push : (n : ℕ) → once 0 n ++ (n + 1) ∷ [] ≡ once 0 (n + 1)
once-push n = once-more 0 n (n + 1) (omega arith) ∙ ap (once 0) (let same : suc n ≡ n + 1 = omega arith in same)

pub length-once : (from n : ℕ) → length (once from n) ≡ n
length-once from zero = refl
length-once from (suc n) = ap suc (length-once (suc from) n)

pub rise-once : (from n : ℕ) → Rise from (once from n)
rise-once from zero = tt
rise-once from (suc n) = (omega arith, rise-once (suc from) n)

pub up_to-once : (from : ℕ) (es : Trees) → up_to from es (once from (length (listed es))) ≡ es
up_to-once from none = refl
up_to-once from (more e es) =
    ap (λ n. followed_by (copies n e) (up_to (suc from) es (once (suc from) (length (listed es))))) (let one : suc from - from ≡ 1 = omega arith in one)
    ∙ ap (more e) (up_to-once (suc from) es)

-- ---- the formula of a hypothesis

in_copies : (n i : ℕ) (e : Tree) (rest : Trees) → i < n → slice_get (listed (followed_by (copies n e) rest)) i ≡ Some e
in_copies zero i e rest below = absurd (not-suc-le-zero below)
in_copies (suc n) zero e rest below = refl
in_copies (suc n) (suc i) e rest below = in_copies n i e rest (le_of_suc-le-suc below)

past_copies : (n i j : ℕ) (e : Tree) (rest : Trees) → i ≡ n + j → slice_get (listed (followed_by (copies n e) rest)) i ≡ slice_get (listed rest) j
past_copies zero i j e rest is = ap (slice_get (listed rest)) (let same : i ≡ j = omega (arith, is) in same)
past_copies (suc n) zero j e rest is = absurd (omega (arith, is))
past_copies (suc n) (suc i) j e rest is = past_copies n i j e rest (omega (arith, is))

-- g is the first group whose end is above i
pub formula_at : (from : ℕ) (es : Trees) (ends : List ℕ) (g i j : ℕ) → length (listed es) ≡ length ends → Rise from ends → i ≡ from + j
    → ((k d : ℕ) → k < g → get_or ends k d ≤ i) → ((k d : ℕ) → g ≤ k → k < length ends → i < get_or ends k d)
    → slice_get (listed (up_to from es ends)) j ≡ slice_get (listed es) g
formula_at from none ends g i j many rise is below above = refl
formula_at from (more e es) [] g i j many rise is below above = absurd (omega (arith, many))
formula_at from (more e es) (end ∷ ends) zero i j many (first, rise) is below above =
    let inside = above 0 0 (omega arith) (omega arith) in
    in_copies (end - from) j e (up_to end es ends) (omega (arith, inside, is))
formula_at from (more e es) (end ∷ ends) (suc g) i j many (first, rise) is below above =
    let past = below 0 0 (omega arith) in
    past_copies (end - from) j (i - end) e (up_to end es ends) (omega (arith, past, is, first))
    ∙ formula_at end es ends g i (i - end) (omega (arith, many)) rise (omega (arith, past))
    (λ k d less. below (suc k) d (omega (arith, less))) (λ k d from_g within. above (suc k) d (omega (arith, from_g)) (omega (arith, within)))

above_first : (from : ℕ) (xs : List ℕ) → Rise from xs → (j d : ℕ) → j < length xs → from < get_or xs j d
above_first from [] rise j d below = absurd (not-suc-le-zero below)
above_first from (x ∷ xs) (first, rise) zero d below = first
above_first from (x ∷ xs) (first, rise) (suc j) d below = let later = above_first x xs rise j d (le_of_suc-le-suc below) in omega (arith, first, later)

pub never_fall : (from : ℕ) (xs : List ℕ) → Rise from xs → IsNonDecreasingBy (λ x. x) xs
never_fall from [] rise i j d order below = absurd (not-suc-le-zero below)
never_fall from (x ∷ xs) (first, rise) zero zero d order below = omega arith
never_fall from (x ∷ xs) (first, rise) zero (suc j) d order below = let later = above_first x xs rise j d (le_of_suc-le-suc below) in omega (arith, later)
never_fall from (x ∷ xs) (first, rise) (suc i) zero d order below = absurd (omega (arith, order))
never_fall from (x ∷ xs) (first, rise) (suc i) (suc j) d order below = never_fall x xs rise i j d (le_of_suc-le-suc order) (le_of_suc-le-suc below)

-- the same where a search over the ends found g
pub formula_found : (es hs : Trees) (ends xs : List ℕ) (i g : ℕ) → up_to 0 es ends ≡ hs → AreEnds es ends → xs ≡ ends
    → IsPartitionPoint (λ y. leb y i ≡ true) (λ y. leb y i ≡ false) xs g → slice_get (listed hs) i ≡ slice_get (listed es) g
formula_found es hs ends xs i g is (many, rise) same point =
    let (low, high) = subst (λ ys. IsPartitionPoint (λ y. leb y i ≡ true) (λ y. leb y i ≡ false) ys g) same point in
    ap (λ fs. slice_get (listed fs) i) (sym is)
    ∙ formula_at 0 es ends g i i many rise (omega arith) (λ k d below. leb-true _ _ (low k d (omega arith) below)) (λ k d from within. leb-false _ _ (high k d from within))

-- where a search finds no end at i, the hypothesis before has the same formula
pub shared_formula : (es hs : Trees) (ends xs : List ℕ) (i : ℕ) (r : Result ℕ ℕ) → up_to 0 es ends ≡ hs → AreEnds es ends → xs ≡ ends → 0 < i
    → IsBinarySearchResult (λ y. nat_cmp y i) xs r → is_err r ≡ true → slice_get (listed hs) (i - 1) ≡ slice_get (listed hs) i
shared_formula es hs ends xs i (Ok k) is are same some found missed = absurd (false≢true missed)
shared_formula es hs ends xs i (Err g) is (many, rise) same some found missed =
    ap (λ fs. slice_get (listed fs) (i - 1)) (sym is)
    ∙ formula_at 0 es ends g (i - 1) (i - 1) many rise (omega arith) (λ k d less. omega (arith, low k d less, some)) (λ k d from inside. omega (arith, high k d from inside))
    ∙ sym (formula_at 0 es ends g i i many rise (omega arith) (λ k d less. omega (arith, low k d less)) high)
    ∙ ap (λ fs. slice_get (listed fs) i) is
  where
    place : (g ≤ length ends) × ((k : ℕ) → k < g → get_or ends k 0 < i) × ((k : ℕ) → g ≤ k → k < length ends → i < get_or ends k 0)
    place = searched ends i (Err g) (subst (λ ys. IsBinarySearchResult (λ y. nat_cmp y i) ys (Err g)) same found) (λ a b order inside. never_fall 0 ends rise a b 0 order inside)

    low : (k d : ℕ) → k < g → get_or ends k d < i
    low k d less = omega (arith, place.1 k less, get_or_default ends k d 0 (omega (arith, less, place.0)))

    high : (k d : ℕ) → g ≤ k → k < length ends → i < get_or ends k d
    high k d from inside = omega (arith, place.2 k from inside, get_or_default ends k d 0 inside)

-- ---- an operand is what is at its place

operand-past : (es : Trees) (i : ℕ) → slice_get (listed es) i ≡ None → operand es i ≡ app 0 none
operand-past none i at = refl
operand-past (more e es) zero at = absurd (none-some _ (sym at))
operand-past (more e es) (suc i) at = operand-past es i at

operand-there : (es : Trees) (i : ℕ) (e : Tree) → slice_get (listed es) i ≡ Some e → operand es i ≡ e
operand-there none i e at = absurd (none-some _ at)
operand-there (more d es) zero e at = one_at refl at
operand-there (more d es) (suc i) e at = operand-there es i e at

pub operand_of_listed : (o : Option (Bor Expr)) (es : Trees) (i : ℕ) → option_map (λ e. tree e.now) o ≡ slice_get (listed es) i
    → MatchOption o (operand es i ≡ app 0 none) (λ e. operand es i ≡ tree e.now)
operand_of_listed None es i at = operand-past es i (sym at)
operand_of_listed (Some e) es i at = operand-there es i (tree e.now) (sym at)
