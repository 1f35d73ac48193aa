-- Strings and their tokens.
use Rattle.std.proofs.Common.{◌≡◌, ◌<◌, ◌≤◌, ◌+◌, ◌-◌, ◌⊎◌, ◌++◌, ◌∙◌, ℕ, zero, suc, List, [], ◌∷◌, length, Bool, true, false, get_or, ap, ap₂, sym, refl, subst, inl, inr, arith, Contains, append_assoc, drop, take, map, All}
use Rattle.std.specs.Prelude.{slice_index, slice_range, IsTrue, codes}
use Rattle.std.proofs.lemmas.List.{append-nil}
use Rattle.mz_base.proofs.Offered.{nil-cons, below-or-last}
use Rattle.mz_lex.specs.MathTokens.{IsConstant, Delimiters, no_delimiters, MathToken, IsSpaces, IsMathToken, MathTokensFrom, MathTokens, token_text, token_texts, AreCharacters}
use Rattle.mz_lex.specs.Kinds.{is_space}
use Rattle.mz_lex.specs.Answers.{IsNext, EndsAt, IsWhole}
use Rattle.mz_lex.proofs.Names.{slice-first, slice-empty}
use Rattle.mz_lex.proofs.Cutting.{math_token-one, no-math_token}

cons_same : {A : Type 0} {x y : A} {xs ys : List A} → x ∷ xs ≡ y ∷ ys → (x ≡ y) × (xs ≡ ys)
cons_same e = (cc, cc)

-- the tokens of a list, by number
pub drop-texts : (text : List ℕ) (ps : List MathToken) (i : ℕ) → drop i (token_texts text ps) ≡ token_texts text (drop i ps)
drop-texts text ps zero = refl
drop-texts text [] (suc i) = refl
drop-texts text (p ∷ ps) (suc i) = drop-texts text ps i

-- ---- one more token

pub next-first : (d : Delimiters) (text : List ℕ) (from : ℕ) (p : MathToken) (rest : List MathToken) → IsNext d text from p → MathTokensFrom d text p.to rest → MathTokensFrom d text from (p ∷ rest)
next-first d text from p rest (before, is) on = (before, is, on)

-- where a token comes next, the list begins with it
pub next-begins : (d : Delimiters) (text : List ℕ) (from : ℕ) (p : MathToken) (all : List MathToken) → IsNext d text from p → MathTokensFrom d text from all
    → (rest : List MathToken) × MathTokensFrom d text p.to rest × (all ≡ p ∷ rest)
next-begins d text from p [] (before, is) on = absurd (no-math_token d text from p on before is)
next-begins d text from p (q ∷ qs) (before, is) (other, is_q, on) =
    let same = math_token-one d text from q p other before is_q is in
    (qs, subst (λ i. MathTokensFrom d text i qs) same.1 on, ap₂ make same.0 same.1)
  where
    make : ℕ → ℕ → List MathToken
    make i j = record { from = i; to = j } ∷ qs

-- ---- constants

pub only-math_token : (d : Delimiters) (text : List ℕ) (p q : MathToken) → IsNext d text 0 p → MathTokens d text (q ∷ []) → (q ≡ p) × MathTokensFrom d text p.to []
only-math_token d text p q next all =
    let found = next-begins d text 0 p (q ∷ []) next all in
    let parts = cons_same found.2 in
    (parts.0, subst (MathTokensFrom d text p.to) (sym parts.1) found.1)

pub two-math_tokens : (d : Delimiters) (text : List ℕ) (p q : MathToken) → IsNext d text p.to q → MathTokensFrom d text p.to [] → ⊥
two-math_tokens d text p q (before, is) on = no-math_token d text p.to q on before is

-- ---- characters

pub one-character : (text : List ℕ) (p : MathToken) → p.to - p.from ≡ 1 → p.to ≤ length text → token_text text p ≡ slice_index text p.from ∷ []
one-character text p one within =
    let some : p.from < p.to = omega (arith, one) in
    let rest : p.to - (p.from + 1) ≡ 0 = omega (arith, one) in
    slice-first text p.from p.to some within ∙ ap (λ n. get_or text p.from 0 ∷ take n (drop (p.from + 1) text)) rest

pub many-characters : (text : List ℕ) (p : MathToken) (c : ℕ) → p.to ≤ length text → p.from < p.to → token_text text p ≡ c ∷ [] → p.to - p.from ≡ 1
many-characters text p c within some is =
    let rest : slice_range text (p.from + 1) p.to ≡ [] = (cons_same (sym (slice-first text p.from p.to some within) ∙ is)).1 in
    let end : p.to ≡ p.from + 1 = slice-empty text (p.from + 1) p.to (omega (arith, some)) within rest in
    omega (arith, end)

-- ---- a token's end

space-false : (b : Bool) → (IsTrue b → ⊥) → b ≡ false
space-false true never = absurd (never refl)
space-false false never = refl

pub whole-first : (d : Delimiters) (text : List ℕ) (from : ℕ) → from < length text → is_space (slice_index text from) ≡ false → IsWhole d text from (from + 1)
whole-first d text from within solid = record {
  later = omega arith;
  within = omega arith;
  solid = λ i le below. subst (λ k. is_space (slice_index text k) ≡ false) (let e : from ≡ i = omega arith in e) solid;
  no_left = λ i le below has. absurd (omega (arith, le, below));
  no_right = λ i less below has. absurd (omega (arith, less, below));
}

pub whole-more : (d : Delimiters) (text : List ℕ) (from to : ℕ) → IsWhole d text from to → to < length text → (EndsAt d text to → ⊥) → IsWhole d text from (to + 1)
whole-more d text from to whole within never = record {
  later = let l = whole.later in omega (arith, l);
  within = omega (arith, within);
  solid = λ i le below. go i le (below-or-last i to below);
  no_left = λ i le below has. left i le has (below-or-last i (to - 1) (let l = whole.later in omega (arith, below, l)));
  no_right = λ i less below has. right i less has (below-or-last i to below);
}
  where
    go : (i : ℕ) → from ≤ i → (i < to) ⊎ (i ≡ to) → is_space (slice_index text i) ≡ false
    go i le (inl less) = whole.solid i le less
    go i le (inr same) = space-false (is_space (slice_index text i)) (λ s. never (inl (subst (λ k. IsTrue (is_space (slice_index text k))) same s)))

    left : (i : ℕ) → from ≤ i → Contains d.left (slice_index text i) → (i < to - 1) ⊎ (i ≡ to - 1) → ⊥
    left i le has (inl less) = whole.no_left i le (omega (arith, less)) has
    left i le has (inr same) = never (inr (inl (subst (λ k. Contains d.left (slice_index text k)) same has)))

    right : (i : ℕ) → from < i → Contains d.right (slice_index text i) → (i < to) ⊎ (i ≡ to) → ⊥
    right i less has (inl before) = whole.no_right i less before has
    right i less has (inr same) = never (inr (inr (subst (λ k. Contains d.right (slice_index text k)) same has)))

pub whole-math_token : (d : Delimiters) (text : List ℕ) (from to : ℕ) → IsWhole d text from to → (to ≡ length text) ⊎ EndsAt d text to → IsMathToken d text (record { from = from; to = to })
whole-math_token d text from to whole end = record { some = whole.later; within = whole.within; solid = whole.solid; no_left = whole.no_left; no_right = whole.no_right; cut = end }

-- ---- lists of tokens in a text

pub math_tokens-within : (d : Delimiters) (text : List ℕ) (from : ℕ) (ps : List MathToken) → MathTokensFrom d text from ps → All (λ p. (p.from ≤ p.to) × (p.to ≤ length text)) ps
math_tokens-within d text from [] on = λ k e below. absurd (omega (arith, below))
math_tokens-within d text from (p ∷ ps) (before, is, on) = λ k e below. at k e below (math_tokens-within d text p.to ps on)
  where
    at : (k : ℕ) (e : MathToken) → k < length (p ∷ ps) → All (λ q. (q.from ≤ q.to) × (q.to ≤ length text)) ps → ((get_or (p ∷ ps) k e).from ≤ (get_or (p ∷ ps) k e).to) × ((get_or (p ∷ ps) k e).to ≤ length text)
    at zero e below rest = (let s = is.some in omega (arith, s), is.within)
    at (suc k) e below rest = rest k e (omega (arith, below))

pub no-constant : (d : Delimiters) (text : List ℕ) (q : MathToken) → ((p : MathToken) → MathTokens d text (p ∷ []) → p ≡ q) → (token_text text q ≡ codes "(") ⊎ (token_text text q ≡ codes ")") → (w : List ℕ) → IsConstant d text w → ⊥
no-constant d text q only (inl open_) w (p, all, is, no_open, no_close) = no_open (is ∙ ap (token_text text) (only p all) ∙ open_)
no-constant d text q only (inr close) w (p, all, is, no_open, no_close) = no_close (is ∙ ap (token_text text) (only p all) ∙ close)

-- ---- characters so far

abbrev pub SoFar : List ℕ → ℕ → List ℕ → Type 0
SoFar text at cs = (ps : List MathToken) × (token_texts text ps ≡ map (λ c. c ∷ []) cs)
    × ((rest : List MathToken) → MathTokensFrom no_delimiters text at rest → MathTokens no_delimiters text (ps ++ rest))
    × ((all : List MathToken) → MathTokens no_delimiters text all → (rest : List MathToken) × MathTokensFrom no_delimiters text at rest × (all ≡ ps ++ rest))
    × (at ≤ length text)

texts-append : (text : List ℕ) (ps qs : List MathToken) → token_texts text (ps ++ qs) ≡ token_texts text ps ++ token_texts text qs
texts-append text [] qs = refl
texts-append text (p ∷ ps) qs = ap (λ ts. token_text text p ∷ ts) (texts-append text ps qs)

ones-append : (cs ds : List ℕ) → map (λ c. c ∷ []) (cs ++ ds) ≡ map (λ c. c ∷ []) cs ++ map (λ c. c ∷ []) ds
ones-append [] ds = refl
ones-append (c ∷ cs) ds = ap (λ ts. (c ∷ []) ∷ ts) (ones-append cs ds)

pub so-far-none : (text : List ℕ) → SoFar text 0 []
so-far-none text = ([], refl, (λ rest on. on), (λ all on. (all, on, refl)), omega arith)

pub so-far-more : (text : List ℕ) (at : ℕ) (cs : List ℕ) (p : MathToken) → SoFar text at cs → IsNext no_delimiters text at p → p.to - p.from ≡ 1 → SoFar text p.to (cs ++ slice_index text p.from ∷ [])
so-far-more text at cs p (ps, texts, goes, begins, within) next one = (
  ps ++ p ∷ [],
  texts-append text ps (p ∷ []) ∙ ap₂ ◌++◌ texts (ap (λ t. t ∷ []) (one-character text p one next.1.within)) ∙ sym (ones-append cs (slice_index text p.from ∷ [])),
  (λ rest on. subst (MathTokens no_delimiters text) (sym (append_assoc ps (p ∷ []) rest)) (goes (p ∷ rest) (next-first no_delimiters text at p rest next on))),
  (λ all on. back all (begins all on)),
  next.1.within,
)
  where
    back : (all : List MathToken) → (rest : List MathToken) × MathTokensFrom no_delimiters text at rest × (all ≡ ps ++ rest) → (rest : List MathToken) × MathTokensFrom no_delimiters text p.to rest × (all ≡ (ps ++ p ∷ []) ++ rest)
    back all (rest, on, is) = let found = next-begins no_delimiters text at p rest next on in (found.0, found.1, is ∙ ap (λ r. ps ++ r) found.2 ∙ sym (append_assoc ps (p ∷ []) found.0))

pub so-far-all : (text : List ℕ) (at : ℕ) (cs : List ℕ) → SoFar text at cs → IsSpaces text at (length text) → AreCharacters text cs
so-far-all text at cs (ps, texts, goes, begins, within) spaces = (ps, subst (MathTokens no_delimiters text) (append-nil ps) (goes [] spaces), texts)

-- each token of a list of characters has one byte
member-one : (text : List ℕ) (ps : List MathToken) (p : MathToken) (rest : List MathToken) (cs : List ℕ) → token_texts text (ps ++ p ∷ rest) ≡ map (λ c. c ∷ []) cs → (c : ℕ) × (token_text text p ≡ c ∷ [])
member-one text [] p rest [] e = absurd (nil-cons (sym e))
member-one text [] p rest (c ∷ cs) e = (c, (cons_same e).0)
member-one text (q ∷ ps) p rest [] e = absurd (nil-cons (sym e))
member-one text (q ∷ ps) p rest (c ∷ cs) e = member-one text ps p rest cs (cons_same e).1

pub so-far-never : (text : List ℕ) (at : ℕ) (cs : List ℕ) (p : MathToken) → SoFar text at cs → IsNext no_delimiters text at p → (p.to - p.from ≡ 1 → ⊥) → (ds : List ℕ) → AreCharacters text ds → ⊥
so-far-never text at cs p (ps, texts, goes, begins, within) next long ds (all, on, is) =
    let rest = begins all on in
    let found = next-begins no_delimiters text at p rest.0 next rest.1 in
    let here : all ≡ ps ++ p ∷ found.0 = rest.2 ∙ ap (λ r. ps ++ r) found.2 in
    let one = member-one text ps p found.0 ds (sym (ap (token_texts text) here) ∙ is) in
    long (many-characters text p one.0 next.1.within next.1.some one.1)
