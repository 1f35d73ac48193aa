-- From each place on there is exactly one of: a next lexeme, the end, a byte that may not stand, a byte that begins nothing.
use Rattle.std.proofs.Common.{◌≡◌, ◌<◌, ◌≤◌, ◌+◌, ◌-◌, ◌∙◌, ◌∷◌, [], ◌&&◌, ◌||◌, ℕ, zero, suc, List, length, drop, get_or, leb, length-take, length-drop, true, false, not, arith, ap, sym, refl, inl, inr, subst}
use Rattle.std.specs.Prelude.{bytes_eq, slice_range, ◌==◌, codes}
use Rattle.std.specs.List.{list_all}
use Rattle.std.proofs.lemmas.Bool.{and_parts, and_from, or_left, or_cases, eqb-true, cases_order, cases_lt, false≢true, true≢false, leb-true, le-leb}
use Rattle.std.proofs.lemmas.List.{get_or-drop, get_or-take}
use Rattle.mz_base.specs.Identifiers.{is_name_start, is_between, is_digit}
use Rattle.mz_lex.specs.Kinds.{is_of_kind, is_allowed, is_comment_byte, is_math_byte, is_symbol_byte, ends_math, is_space}
use Rattle.mz_lex.specs.Lexemes.{IsGap, IsBlank, IsNext, IsBadByte, InComment, InMath, HasBadByte, HasNoLexeme, Lexeme}
use Rattle.mz_lex.specs.declared.token.TokenKind.{TokenKind}
use Rattle.mz_lex.specs.declared.token.TokenKind.TheVariants as kinds
use Rattle.mz_lex.proofs.Names.{among}
use Rattle.mz_lex.proofs.OneLexeme.{Starts, lexeme-starts, end-starts, blank-same, part-at, first-byte, no-dash, dollar-math}

-- ---- a bad byte

-- bytes that are not allowed
not-space : (c : ℕ) → is_allowed c ≡ false → is_space c ≡ true → ⊥
not-space c bad space =
    elim (or_cases (c == 32) (c == 10) space) [
      | inl blank ↦ true≢false (sym (ap is_allowed (eqb-true c 32 blank)) ∙ bad)
      | inr line ↦ true≢false (sym (ap is_allowed (eqb-true c 10 line)) ∙ bad)
    ]

math-allowed : (c : ℕ) → is_math_byte c ≡ true → is_allowed c ≡ true
math-allowed c is = (and_parts (is_allowed c) (not (c == 36)) is).0

comment-allowed : (c : ℕ) → is_comment_byte c ≡ true → is_allowed c ≡ true
comment-allowed c is = ap (λ b. b || (c == 10)) is

space-first : (text : List ℕ) (at c : ℕ) → is_space (get_or text at 0) ≡ true → get_or text at 0 ≡ c → is_space c ≡ false → ⊥
space-first text at c is first other = true≢false (sym is ∙ ap is_space first ∙ other)

-- what would go on with a bad byte is not skipped
bad-gap : (text : List ℕ) (at q to : ℕ) → IsBadByte text at q → IsGap text at to → ⊥
bad-gap text at q to bad (inl space) =
    elim bad.reached [
      | inl same ↦ not-space (get_or text at 0) (sym (ap (λ i. is_allowed (get_or text i 0)) same) ∙ bad.byte) space.byte
      | inr other ↦ elim other [
        | inl comment ↦ space-first text at 45 space.byte comment.first refl
        | inr math ↦ space-first text at 36 space.byte math.first refl
      ]
    ]
bad-gap text at q to bad (inr comment) =
    elim bad.reached [
      | inl same ↦ true≢false (sym (ap is_allowed comment.begun.first) ∙ sym (ap (λ i. is_allowed (get_or text i 0)) same) ∙ bad.byte)
      | inr other ↦ elim other [
        | inl begun ↦ in-line begun
        | inr math ↦ absurd (let f = comment.begun.first in let g = math.first in omega (arith, f, g))
      ]
    ]
  where
    in-line : InComment text at q → ⊥
    in-line begun =
        let longer = begun.longer in let within = bad.within in let far = comment.begun.longer in let end = comment.within in
        elim (cases_order q to) [
          | inl same ↦ (elim comment.line_ends [
            | inl last ↦ absurd (omega (arith, same, last, within))
            | inr line ↦ true≢false (sym (ap is_allowed line) ∙ sym (ap (λ i. is_allowed (get_or text i 0)) same) ∙ bad.byte)
          ])
          | inr order ↦ elim order [
            | inl less ↦ true≢false (sym (comment-allowed (get_or text q 0) (part-at is_comment_byte text (at + 2) to q comment.begun.bytes longer less end)) ∙ bad.byte)
            | inr more ↦ (elim comment.line_ends [
              | inl last ↦ absurd (omega (arith, last, within, more))
              | inr line ↦ true≢false (sym (part-at is_comment_byte text (at + 2) q to begun.bytes far more (omega (arith, within))) ∙ ap is_comment_byte line)
            ])
          ]
        ]

bad-starts : (text : List ℕ) (at q : ℕ) → IsBadByte text at q → Starts text at
bad-starts text at q bad next gap = bad-gap text at q next bad gap

-- the bytes of a math string up to its end
math-inside : (xs : List ℕ) → ends_math xs ≡ true → (i : ℕ) → i < length xs → is_allowed (get_or xs i 0) ≡ true
math-inside [] is i below = absurd (omega arith)
math-inside (x ∷ []) is zero below = ap is_allowed (eqb-true x 36 is)
math-inside (x ∷ []) is (suc i) below = absurd (omega arith)
math-inside (x ∷ y ∷ ys) is zero below = math-allowed x (and_parts (is_math_byte x) (ends_math (y ∷ ys)) is).0
math-inside (x ∷ y ∷ ys) is (suc i) below = math-inside (y ∷ ys) (and_parts (is_math_byte x) (ends_math (y ∷ ys)) is).1 i (omega arith)

math-last : (xs : List ℕ) → ends_math xs ≡ true → (n : ℕ) × (n + 1 ≡ length xs) × (get_or xs n 0 ≡ 36)
math-last [] is = absurd (false≢true is)
math-last (x ∷ []) is = (0, omega arith, eqb-true x 36 is)
math-last (x ∷ y ∷ ys) is = let rest = math-last (y ∷ ys) (and_parts (is_math_byte x) (ends_math (y ∷ ys)) is).1 in (suc rest.0, omega (arith, rest.1), rest.2)

name-start-allowed : (c : ℕ) → is_name_start c ≡ true → is_allowed c ≡ true
name-start-allowed c is = allowed-range c (start-low c is).0 (start-low c is).1
  where
    start-low : (d : ℕ) → is_name_start d ≡ true → (32 ≤ d) × (d ≤ 126)
    start-low d start =
        elim (or_cases (is_between 97 122 d || is_between 65 90 d) (d == 95) start) [
          | inl letter ↦ elim (or_cases (is_between 97 122 d) (is_between 65 90 d) letter) [
            | inl small ↦ between 97 122 d small (omega arith) (omega arith)
            | inr large ↦ between 65 90 d large (omega arith) (omega arith)
          ]
          | inr line ↦ (let same : d ≡ 95 = eqb-true d 95 line in (omega arith, omega arith))
        ]
      where
        between : (low high e : ℕ) → is_between low high e ≡ true → 32 ≤ low → high ≤ 126 → (32 ≤ e) × (e ≤ 126)
        between low high e is_in a b =
            let parts = and_parts (leb low e) (leb e high) is_in in
            let x = leb-true low e parts.0 in let y = leb-true e high parts.1 in (omega arith, omega arith)

    allowed-range : (d : ℕ) → 32 ≤ d → d ≤ 126 → is_allowed d ≡ true
    allowed-range d low high = or_left (is_between 32 126 d) (d == 10) (and_from (leb 32 d) (leb d 126) (le-leb 32 d low) (le-leb d 126 high))

symbol-allowed : (c : ℕ) → is_symbol_byte c ≡ true → is_allowed c ≡ true
symbol-allowed c is = among is_allowed c (codes "*.:;()>{}=_") refl is

digit-allowed : (c : ℕ) → is_between 49 57 c ≡ true → is_allowed c ≡ true
digit-allowed c is =
    let parts = and_parts (leb 49 c) (leb c 57) is in
    let x = leb-true 49 c parts.0 in let y = leb-true c 57 parts.1 in
    or_left (is_between 32 126 c) (c == 10) (and_from (leb 32 c) (leb c 126) (le-leb 32 c (omega arith)) (le-leb c 126 (omega arith)))

kind-allowed : (kind : TokenKind) (c : ℕ) (cs : List ℕ) → is_of_kind kind (c ∷ cs) ≡ true → is_allowed c ≡ true
kind-allowed kinds.Symbol c [] is = symbol-allowed c is
kind-allowed kinds.Symbol c (d ∷ ds) is = absurd (false≢true is)
kind-allowed kinds.Name c cs is = name-start-allowed c (and_parts (is_name_start c) _ (and_parts _ _ is).0).0
kind-allowed kinds.Number c cs is =
    elim (or_cases (bytes_eq (c ∷ cs) (48 ∷ [])) (is_between 49 57 c && list_all is_digit cs) is) [
      | inl zero_alone ↦ ap is_allowed (eqb-true c 48 (and_parts (c == 48) _ zero_alone).0)
      | inr digits ↦ digit-allowed c (and_parts (is_between 49 57 c) (list_all is_digit cs) digits).0
    ]
kind-allowed kinds.Math c cs is = ap is_allowed (eqb-true c 36 (and_parts (c == 36) (ends_math cs) is).0)

first-allowed : (text : List ℕ) (from to : ℕ) (kind : TokenKind) → from < to → to ≤ length text → is_of_kind kind (slice_range text from to) ≡ true → is_allowed (get_or text from 0) ≡ true
first-allowed text from to kind some within is = kind-allowed kind (get_or text from 0) (slice_range text (from + 1) to) (first-byte text from to (get_or text from 0) kind some within is refl)

-- a lexeme does not go on with a bad byte
lexeme-bad : (text : List ℕ) (at to q : ℕ) (kind : TokenKind) → at < to → to ≤ length text → is_of_kind kind (slice_range text at to) ≡ true → IsBadByte text at q → ⊥
lexeme-bad text at to q kind some within is bad =
    elim bad.reached [
      | inl same ↦ true≢false (sym (first-allowed text at to kind some within is) ∙ sym (ap (λ i. is_allowed (get_or text i 0)) same) ∙ bad.byte)
      | inr other ↦ elim other [
        | inl comment ↦ true≢false (sym (first-byte text at to 45 kind some within is comment.first) ∙ no-dash kind _)
        | inr math ↦ in-string math (dollar-math kind (slice_range text (at + 1) to) (first-byte text at to 36 kind some within is math.first))
      ]
    ]
  where
    in-string : InMath text at q → ends_math (slice_range text (at + 1) to) ≡ true → ⊥
    in-string math ends =
        let longer = math.longer in
        let below = bad.within in
        let size : length (slice_range text (at + 1) to) ≡ to - (at + 1) = omega (arith, length-take (to - (at + 1)) (drop (at + 1) text), length-drop (at + 1) text) in
        elim (cases_lt q to) [
          | inl less ↦ true≢false (sym (ap is_allowed (sym (here q longer less)) ∙ math-inside (slice_range text (at + 1) to) ends (q - (at + 1)) (omega (arith, size))) ∙ bad.byte)
          | inr more ↦ (let last = math-last (slice_range text (at + 1) to) ends in
              let back : at + 1 + last.0 - (at + 1) ≡ last.0 = omega arith in
              let dollar : get_or text (at + 1 + last.0) 0 ≡ 36 =
              sym (here (at + 1 + last.0) (omega arith) (omega (arith, last.1, size))) ∙ ap (λ i. get_or (slice_range text (at + 1) to) i 0) back ∙ last.2 in
              true≢false (sym (part-at is_math_byte text (at + 1) q (at + 1 + last.0) math.bytes (omega arith) (omega (arith, last.1, size)) (omega (arith, below))) ∙ ap is_math_byte dollar))
        ]
      where
        here : (i : ℕ) → at + 1 ≤ i → i < to → get_or (slice_range text (at + 1) to) (i - (at + 1)) 0 ≡ get_or text i 0
        here i le lt =
            let place : (at + 1) + (i - (at + 1)) ≡ i = omega arith in
            let short : i - (at + 1) < to - (at + 1) = omega arith in
            get_or-take (to - (at + 1)) (drop (at + 1) text) (i - (at + 1)) 0 short ∙ get_or-drop (at + 1) text (i - (at + 1)) 0 ∙ ap (λ j. get_or text j 0) place

-- ---- the answers exclude one another, and each is one

pub next-bad : (text : List ℕ) (from q : ℕ) (t : Lexeme) → IsNext text from t → HasBadByte text from q → ⊥
next-bad text from q t next (start, blank, bad) =
    let same : t.from ≡ start = blank-same text from t.from start next.blank blank (lexeme-starts text from t next) (bad-starts text start q bad) in
    lexeme-bad text t.from t.to q t.kind next.some next.within next.kind (subst (λ i. IsBadByte text i q) (sym same) bad)

pub next-none : (text : List ℕ) (from q : ℕ) (t : Lexeme) → IsNext text from t → HasNoLexeme text from q → ⊥
next-none text from q t next none =
    let same : t.from ≡ q = blank-same text from t.from q next.blank none.blank (lexeme-starts text from t next) none.no_gap in
    none.no_lexeme t.to t.kind (subst (λ i. i < t.to) same next.some) next.within (subst (λ i. is_of_kind t.kind (slice_range text i t.to) ≡ true) same next.kind)

pub bad-none : (text : List ℕ) (from q p : ℕ) → HasBadByte text from q → HasNoLexeme text from p → ⊥
bad-none text from q p (start, blank, bad) none =
    let same : start ≡ p = blank-same text from start p blank none.blank (bad-starts text start q bad) none.no_gap in
    none.no_bad_byte q (subst (λ i. IsBadByte text i q) same bad)

pub end-bad : (text : List ℕ) (from q : ℕ) → IsBlank text from (length text) → HasBadByte text from q → ⊥
end-bad text from q blank (start, blanks, bad) =
    let same : start ≡ length text = blank-same text from start (length text) blanks blank (bad-starts text start q bad) (end-starts text) in
    let within = bad.within in
    elim bad.reached [
      | inl here ↦ absurd (omega (arith, same, within, here))
      | inr other ↦ elim other [
        | inl comment ↦ (let longer = comment.longer in absurd (omega (arith, same, within, longer)))
        | inr math ↦ (let longer = math.longer in absurd (omega (arith, same, within, longer)))
      ]
    ]

pub end-none : (text : List ℕ) (from q : ℕ) → IsBlank text from (length text) → HasNoLexeme text from q → ⊥
end-none text from q blank none =
    let same : q ≡ length text = blank-same text from q (length text) none.blank blank none.no_gap (end-starts text) in
    let within = none.within in absurd (omega (arith, same, within))

pub none-same : (text : List ℕ) (from q p : ℕ) → HasNoLexeme text from q → HasNoLexeme text from p → q ≡ p
none-same text from q p first second = blank-same text from q p first.blank second.blank first.no_gap second.no_gap

comment-bad : (text : List ℕ) (at q p : ℕ) → IsBadByte text at q → InComment text at q → InComment text at p → q < p → p < length text → ⊥
comment-bad text at q p bad begun further less within =
    let longer = begun.longer in
    true≢false (sym (comment-allowed (get_or text q 0) (part-at is_comment_byte text (at + 2) p q further.bytes longer less (omega arith))) ∙ bad.byte)

math-bad : (text : List ℕ) (at q p : ℕ) → IsBadByte text at q → InMath text at q → InMath text at p → q < p → p < length text → ⊥
math-bad text at q p bad begun further less within =
    let longer = begun.longer in
    true≢false (sym (math-allowed (get_or text q 0) (part-at is_math_byte text (at + 1) p q further.bytes longer less (omega arith))) ∙ bad.byte)

first-bad : (text : List ℕ) (at q p c : ℕ) → IsBadByte text at q → q ≡ at → get_or text at 0 ≡ c → is_allowed c ≡ true → ⊥
first-bad text at q p c bad same first allowed = true≢false (sym (ap is_allowed (ap (λ i. get_or text i 0) same ∙ first) ∙ allowed) ∙ bad.byte)

-- one byte is the bad one
bad-here : (text : List ℕ) (at q p : ℕ) → IsBadByte text at q → IsBadByte text at p → q < p → ⊥
bad-here text at q p first second less =
    let within = second.within in
    elim second.reached [
      | inl same ↦ (elim first.reached [
        | inl here ↦ absurd (omega (arith, same, here))
        | inr other ↦ elim other [ inl comment ↦ (let l = comment.longer in absurd (omega (arith, same, l))) | inr math ↦ (let l = math.longer in absurd (omega (arith, same, l))) ]
      ])
      | inr further ↦ elim further [
        | inl comment ↦ (elim first.reached [
          | inl here ↦ first-bad text at q p 45 first here comment.first refl
          | inr other ↦ elim other [
            | inl begun ↦ comment-bad text at q p first begun comment less within
            | inr math ↦ (let f = comment.first in let g = math.first in absurd (omega (arith, f, g)))
          ]
        ])
        | inr math ↦ (elim first.reached [
          | inl here ↦ first-bad text at q p 36 first here math.first refl
          | inr other ↦ elim other [
            | inl comment ↦ (let f = comment.first in let g = math.first in absurd (omega (arith, f, g)))
            | inr begun ↦ math-bad text at q p first begun math less within
          ]
        ])
      ]
    ]

pub bad-same : (text : List ℕ) (from q p : ℕ) → HasBadByte text from q → HasBadByte text from p → q ≡ p
bad-same text from q p (start, blank, bad) (other, blanks, bad_p) =
    let same : other ≡ start = blank-same text from other start blanks blank (bad-starts text other p bad_p) (bad-starts text start q bad) in
    let bad_p' = subst (λ i. IsBadByte text i p) same bad_p in
    elim (cases_order q p) [
      | inl one ↦ one
      | inr order ↦ elim order [ inl less ↦ absurd (bad-here text start q p bad bad_p' less) | inr more ↦ absurd (bad-here text start p q bad_p' bad more) ]
    ]
