-- From each place of a text on there is at most one next lexeme.
use Rattle.std.proofs.Common.{◌≡◌, ◌<◌, ◌≤◌, ◌+◌, ◌-◌, ◌∙◌, ◌⊎◌, ◌++◌, ◌∷◌, [], ◌&&◌, ℕ, List, length, drop, take, get_or, Bool, true, false, not, arith, ap, sym, refl, inl, inr, subst, length-drop, length-take, append_assoc}
use Rattle.std.proofs.lemmas.Bool.{or_right, and_from, and_left, and_right, and_parts, or_cases, eqb-true, cases_order, false≢true, true≢false}
use Rattle.mz_base.specs.Identifiers.{is_name_byte, is_digit, is_between, is_name, is_name_start}
use Rattle.mz_lex.specs.Kinds.{ends_math, is_allowed, is_math_byte, is_of_kind, is_symbol, is_number, is_space, is_comment_byte}
use Rattle.std.specs.Prelude.{bytes_eq, slice_range, ◌==◌}
use Rattle.std.specs.List.{list_all}
use Rattle.std.proofs.lemmas.List.{get_or-drop, get_or-take, drop-drop}
use Rattle.std.proofs.Math.Seq.{take-add}
use Rattle.std.proofs.lemmas.List.Sums.{AllPass-from_list_all}
use Rattle.mz_lex.specs.Lexemes.{IsSpace, IsComment, BlankVia, IsBlank, IsNext, Lexeme}
use Rattle.mz_lex.specs.declared.token.TokenKind.{TokenKind}
use Rattle.mz_lex.specs.declared.token.TokenKind.TheVariants as kinds
use Rattle.mz_lex.proofs.Names.{slice-first, name-is, two-bytes}

pub no-space : (kind : TokenKind) (cs : List ℕ) → is_of_kind kind (32 ∷ cs) ≡ false
no-space kinds.Symbol [] = refl
no-space kinds.Symbol (d ∷ ds) = refl
no-space kinds.Name cs = refl
no-space kinds.Number cs = refl
no-space kinds.Math cs = refl

pub no-newline : (kind : TokenKind) (cs : List ℕ) → is_of_kind kind (10 ∷ cs) ≡ false
no-newline kinds.Symbol [] = refl
no-newline kinds.Symbol (d ∷ ds) = refl
no-newline kinds.Name cs = refl
no-newline kinds.Number cs = refl
no-newline kinds.Math cs = refl

pub no-dash : (kind : TokenKind) (cs : List ℕ) → is_of_kind kind (45 ∷ cs) ≡ false
no-dash kinds.Symbol [] = refl
no-dash kinds.Symbol (d ∷ ds) = refl
no-dash kinds.Name cs = refl
no-dash kinds.Number cs = refl
no-dash kinds.Math cs = refl

-- no space or comment begins at a place
abbrev pub Starts : List ℕ → ℕ → Type 0
Starts text at = (next : ℕ) → IsSpace text at next ⊎ IsComment text at next → ⊥

pub first-byte : (text : List ℕ) (from to c : ℕ) (kind : TokenKind) → from < to → to ≤ length text → is_of_kind kind (slice_range text from to) ≡ true →
    get_or text from 0 ≡ c → is_of_kind kind (c ∷ slice_range text (from + 1) to) ≡ true
first-byte text from to c kind some within is first =
    sym (ap (is_of_kind kind) (slice-first text from to some within ∙ ap (λ b. b ∷ slice_range text (from + 1) to) first)) ∙ is

-- a lexeme begins with no space and no comment
pub lexeme-starts : (text : List ℕ) (from : ℕ) (token : Lexeme) → IsNext text from token → Starts text token.from
lexeme-starts text from token is next (inl space) =
    elim (or_cases (get_or text token.from 0 == 32) (get_or text token.from 0 == 10) space.byte) [
      | inl blank ↦ true≢false (sym (first-byte text token.from token.to 32 token.kind is.some is.within is.kind (eqb-true _ _ blank)) ∙ no-space token.kind _)
      | inr line ↦ true≢false (sym (first-byte text token.from token.to 10 token.kind is.some is.within is.kind (eqb-true _ _ line)) ∙ no-newline token.kind _)
    ]
lexeme-starts text from token is next (inr comment) =
    true≢false (sym (first-byte text token.from token.to 45 token.kind is.some is.within is.kind comment.begun.first) ∙ no-dash token.kind _)

pub end-starts : (text : List ℕ) → Starts text (length text)
end-starts text next (inl space) = absurd (let w = space.within in omega arith)
end-starts text next (inr comment) = absurd (let l = comment.begun.longer in let w = comment.within in omega arith)

-- each byte of a part of the text
pub part-at : (p : ℕ → Bool) (text : List ℕ) (from to at : ℕ) → list_all p (slice_range text from to) ≡ true → from ≤ at → at < to → to ≤ length text →
    p (get_or text at 0) ≡ true
part-at p text from to at all le lt within =
    let here : from + (at - from) ≡ at = omega arith in
    let short : at - from < to - from = omega arith in
    let long : at - from < length (take (to - from) (drop from text)) = omega (arith, length-take (to - from) (drop from text), length-drop from text) in
    sym (ap p (get_or-take (to - from) (drop from text) (at - from) 0 short ∙ get_or-drop from text (at - from) 0 ∙ ap (λ i. get_or text i 0) here))
    ∙ AllPass-from_list_all p (slice_range text from to) all (at - from) 0 long

comment-shorter : (text : List ℕ) (from a b : ℕ) → IsComment text from a → IsComment text from b → a < b → ⊥
comment-shorter text from a b first second lt =
    elim first.line_ends [
      | inl end ↦ (let w = second.within in let l : a < length text = omega arith in absurd (omega (arith, end)))
      | inr line ↦ false≢true (ap is_comment_byte (sym line) ∙ part-at is_comment_byte text (from + 2) b a second.begun.bytes first.begun.longer lt second.within)
    ]

piece-same : (text : List ℕ) (from a b : ℕ) → IsSpace text from a ⊎ IsComment text from a → IsSpace text from b ⊎ IsComment text from b → a ≡ b
piece-same text from a b (inl first) (inl second) = first.one ∙ sym second.one
piece-same text from a b (inl first) (inr second) = absurd (false≢true (ap is_space (sym second.begun.first) ∙ first.byte))
piece-same text from a b (inr first) (inl second) = absurd (false≢true (ap is_space (sym first.begun.first) ∙ second.byte))
piece-same text from a b (inr first) (inr second) =
    elim (cases_order a b) [
      | inl same ↦ same
      | inr other ↦ elim other [
        | inl less ↦ absurd (comment-shorter text from a b first second less)
        | inr more ↦ absurd (comment-shorter text from b a second first more)
      ]
    ]

via-same : (text : List ℕ) (from a b : ℕ) (stops others : List ℕ) → BlankVia text from stops a → BlankVia text from others b →
    Starts text a → Starts text b → a ≡ b
via-same text from a b [] [] first second start_a start_b = first ∙ sym second
via-same text from a b [] (o ∷ os) first second start_a start_b =
    let P : ℕ → Type 0 = λ place. Starts text place in absurd (subst P first start_a o second.0)
via-same text from a b (s ∷ ss) [] first second start_a start_b =
    let P : ℕ → Type 0 = λ place. Starts text place in absurd (subst P second start_b s first.0)
via-same text from a b (s ∷ ss) (o ∷ os) first second start_a start_b =
    let P : ℕ → Type 0 = λ place. BlankVia text place os b in
    via-same text s a b ss os first.1 (subst P (piece-same text from o s second.0 first.0) second.1) start_a start_b

-- what is skipped ends at one place
pub blank-same : (text : List ℕ) (from a b : ℕ) → IsBlank text from a → IsBlank text from b → Starts text a → Starts text b → a ≡ b
blank-same text from a b (stops, first) (others, second) start_a start_b = via-same text from a b stops others first second start_a start_b

-- two next lexemes begin at one place
pub next-from : (text : List ℕ) (from : ℕ) (t u : Lexeme) → IsNext text from t → IsNext text from u → t.from ≡ u.from
next-from text from t u first second =
    blank-same text from t.from u.from first.blank second.blank (lexeme-starts text from t first) (lexeme-starts text from u second)

-- A lexeme that goes on behind another one can be cut one byte behind it, and is a lexeme of its kind
pub all-front : (p : ℕ → Bool) (xs ys : List ℕ) → list_all p (xs ++ ys) ≡ true → list_all p xs ≡ true
all-front p [] ys e = refl
all-front p (x ∷ xs) ys e = let parts = and_parts (p x) (list_all p (xs ++ ys)) e in and_from (p x) (list_all p xs) parts.0 (all-front p xs ys parts.1)

-- a math string has one `$` behind its first
pub math-once : (xs : List ℕ) (y : ℕ) (ys : List ℕ) → ends_math xs ≡ true → ends_math (xs ++ y ∷ ys) ≡ false
math-once [] y ys e = absurd (false≢true e)
math-once (x ∷ []) y ys e = and_left _ _ (and_right (is_allowed x) _ (ap not e))
math-once (x ∷ z ∷ zs) y ys e =
    let parts = and_parts (is_math_byte x) (ends_math (z ∷ zs)) e in and_right (is_math_byte x) _ (math-once (z ∷ zs) y ys parts.1)

not-empty : (cs : List ℕ) (d : ℕ) → cs ++ d ∷ [] ≡ [] → ⊥
not-empty [] d e = cc
not-empty (c ∷ cs) d e = cc

name-front : (a d : ℕ) (cs ys : List ℕ) → is_name (a ∷ (cs ++ d ∷ ys)) ≡ true → is_name (a ∷ (cs ++ d ∷ [])) ≡ true
name-front a d cs ys e =
    let outer = and_parts (is_name_start a && list_all is_name_byte (cs ++ d ∷ ys)) _ e in
    let inner = and_parts (is_name_start a) (list_all is_name_byte (cs ++ d ∷ ys)) outer.0 in
    name-is a (cs ++ d ∷ []) inner.0 (all-front is_name_byte (cs ++ d ∷ []) ys (ap (list_all is_name_byte) (append_assoc cs (d ∷ []) ys) ∙ inner.1))
    (λ none line. not-empty cs d none)

number-front : (a d : ℕ) (cs ys : List ℕ) → is_number (a ∷ (cs ++ d ∷ ys)) ≡ true → is_number (a ∷ (cs ++ d ∷ [])) ≡ true
number-front a d cs ys e =
    elim (or_cases (bytes_eq (a ∷ (cs ++ d ∷ ys)) (48 ∷ [])) (is_between 49 57 a && list_all is_digit (cs ++ d ∷ ys)) e) [
      | inl zero_alone ↦ absurd (false≢true (sym (two-bytes a d 48 cs ys) ∙ zero_alone))
      | inr digits ↦ (let parts = and_parts (is_between 49 57 a) (list_all is_digit (cs ++ d ∷ ys)) digits in
          or_right (bytes_eq (a ∷ (cs ++ d ∷ [])) (48 ∷ [])) _ (and_from (is_between 49 57 a) _ parts.0
          (all-front is_digit (cs ++ d ∷ []) ys (ap (list_all is_digit) (append_assoc cs (d ∷ []) ys) ∙ parts.1))))
    ]

symbol-short : (a d : ℕ) (cs ys : List ℕ) → is_symbol (a ∷ (cs ++ d ∷ ys)) ≡ true → ⊥
symbol-short a d [] ys e = false≢true e
symbol-short a d (c ∷ cs) ys e = false≢true e

-- no lexeme begins with `$` but a math string
pub dollar-math : (kind : TokenKind) (cs : List ℕ) → is_of_kind kind (36 ∷ cs) ≡ true → ends_math cs ≡ true
dollar-math kinds.Symbol [] e = absurd (false≢true e)
dollar-math kinds.Symbol (d ∷ ds) e = absurd (false≢true e)
dollar-math kinds.Name cs e = absurd (false≢true e)
dollar-math kinds.Number cs e = absurd (false≢true e)
dollar-math kinds.Math cs e = e

-- of two lexemes that begin alike, neither is longer
pub longer-not : (kind other : TokenKind) (a d : ℕ) (cs ys : List ℕ) → is_of_kind kind (a ∷ cs) ≡ true → is_of_kind other (a ∷ (cs ++ d ∷ ys)) ≡ true →
    ((k : TokenKind) → is_of_kind k (a ∷ (cs ++ d ∷ [])) ≡ false) → ⊥
longer-not kind kinds.Symbol a d cs ys short long longest = symbol-short a d cs ys long
longer-not kind kinds.Name a d cs ys short long longest = false≢true (sym (longest kinds.Name) ∙ name-front a d cs ys long)
longer-not kind kinds.Number a d cs ys short long longest = false≢true (sym (longest kinds.Number) ∙ number-front a d cs ys long)
longer-not kind kinds.Math a d cs ys short long longest =
    let parts = and_parts (a == 36) (ends_math (cs ++ d ∷ ys)) long in
    let first : a ≡ 36 = eqb-true a 36 parts.0 in
    let P : ℕ → Type 0 = λ b. is_of_kind kind (b ∷ cs) ≡ true in
    false≢true (sym (math-once cs d ys (dollar-math kind cs (subst P first short))) ∙ parts.1)

-- a part of the text and what follows it
pub slice-split : (text : List ℕ) (from mid to : ℕ) → from ≤ mid → mid < to → to ≤ length text →
    slice_range text from to ≡ slice_range text from mid ++ get_or text mid 0 ∷ slice_range text (mid + 1) to
slice-split text from mid to le lt within =
    let size : to - from ≡ (mid - from) + (to - mid) = omega arith in
    let here : from + (mid - from) ≡ mid = omega arith in
    ap (λ n. take n (drop from text)) size ∙ take-add (mid - from) (to - mid) (drop from text)
    ∙ ap (λ rest. slice_range text from mid ++ take (to - mid) rest) (drop-drop (mid - from) from text ∙ ap (λ i. drop i text) here)
    ∙ ap (λ rest. slice_range text from mid ++ rest) (slice-first text mid to lt within)

next-not_longer : (text : List ℕ) (from : ℕ) (t u : Lexeme) → IsNext text from t → IsNext text from u → t.from ≡ u.from → t.to < u.to → ⊥
next-not_longer text from t u first second same less =
    let within = second.within in
    let some = first.some in
    let front : slice_range text t.from t.to ≡ get_or text t.from 0 ∷ slice_range text (t.from + 1) t.to = slice-first text t.from t.to some first.within in
    let whole : slice_range text u.from u.to ≡ get_or text t.from 0 ∷ (slice_range text (t.from + 1) t.to ++ get_or text t.to 0 ∷ slice_range text (t.to + 1) u.to) =
    ap (λ i. slice_range text i u.to) (sym same) ∙ slice-split text t.from t.to u.to (omega arith) less within
    ∙ ap (λ xs. xs ++ get_or text t.to 0 ∷ slice_range text (t.to + 1) u.to) front in
    longer-not t.kind u.kind (get_or text t.from 0) (get_or text t.to 0) (slice_range text (t.from + 1) t.to) (slice_range text (t.to + 1) u.to)
    (ap (is_of_kind t.kind) (sym front) ∙ first.kind)
    (ap (is_of_kind u.kind) (sym whole) ∙ second.kind)
    (λ kind. ap (λ xs. is_of_kind kind (xs ++ get_or text t.to 0 ∷ [])) (sym front) ∙ first.longest kind (omega arith))

-- two next lexemes end at one place
pub next-to : (text : List ℕ) (from : ℕ) (t u : Lexeme) → IsNext text from t → IsNext text from u → t.to ≡ u.to
next-to text from t u first second =
    let same : t.from ≡ u.from = next-from text from t u first second in
    elim (cases_order t.to u.to) [
      | inl here ↦ here
      | inr other ↦ elim other [
        | inl less ↦ absurd (next-not_longer text from t u first second same less)
        | inr more ↦ absurd (next-not_longer text from u t second first (sym same) more)
      ]
    ]

-- and are one text
pub next-text : (text : List ℕ) (from : ℕ) (t u : Lexeme) → IsNext text from t → IsNext text from u → slice_range text t.from t.to ≡ slice_range text u.from u.to
next-text text from t u first second =
    ap (λ i. slice_range text i t.to) (next-from text from t u first second) ∙ ap (λ i. slice_range text u.from i) (next-to text from t u first second)

-- no lexeme is left where only blanks are
pub blank-end : (text : List ℕ) (from : ℕ) (t : Lexeme) → IsBlank text from (length text) → IsNext text from t → ⊥
blank-end text from t blank next =
    let place : t.from ≡ length text = blank-same text from t.from (length text) next.blank blank (lexeme-starts text from t next) (end-starts text) in
    let some = next.some in let within = next.within in absurd (omega arith)
