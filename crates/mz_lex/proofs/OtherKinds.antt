-- Lexemes that are no names, and where there is none.
use Rattle.std.proofs.Common.{◌≡◌, ◌<◌, ◌≤◌, ◌+◌, ◌-◌, ◌∙◌, ◌++◌, ◌∷◌, [], ◌⊎◌, ℕ, List, length, drop, take, get_or, true, false, not, arith, ap, sym, refl, inl, inr, ◌≢◌, eq-or-lt_of_le}
use Rattle.std.specs.Prelude.{slice_range, ◌==◌}
use Rattle.std.specs.List.{list_all}
use Rattle.std.proofs.lemmas.List.Folds.{list_all-append}
use Rattle.std.proofs.lemmas.Bool.{or_from, or_right, and_from, and_left, and_right, and_parts, ne_eqb, false≢true, true≢false}
use Rattle.mz_base.specs.Identifiers.{is_name, is_name_start, is_name_byte, is_digit, is_between}
use Rattle.mz_lex.specs.Kinds.{is_of_kind, is_symbol_byte, is_math_byte, is_allowed, ends_math}
use Rattle.mz_lex.specs.Scan.{IsStart, IsNoName}
use Rattle.mz_lex.specs.Lexemes.{lexeme, IsNext, IsBlank, IsBadByte, InComment, InMath, HasNoLexeme}
use Rattle.mz_lex.specs.declared.token.TokenKind.{TokenKind}
use Rattle.mz_lex.specs.declared.token.TokenKind.TheVariants as kinds
use Rattle.mz_lex.proofs.Names.{slice-first, longest-symbol, two-bytes}
use Rattle.mz_lex.proofs.OneLexeme.{math-once, part-at, slice-split, all-front, dollar-math}

-- one byte that is a lexeme, and no longer one with the byte behind it
pub one-next : (text : List ℕ) (from at : ℕ) (kind : TokenKind) → at < length text → IsBlank text from at → is_of_kind kind (get_or text at 0 ∷ []) ≡ true →
    ((k : TokenKind) → at + 1 < length text → is_of_kind k (get_or text at 0 ∷ get_or text (at + 1) 0 ∷ []) ≡ false) →
    IsNext text from (lexeme text (record { kind = kind; from = at; to = at + 1 }))
one-next text from at kind within blank is longest =
    let none : at + 1 - (at + 1) ≡ 0 = omega arith in
    let first : slice_range text at (at + 1) ≡ get_or text at 0 ∷ [] =
    slice-first text at (at + 1) (omega arith) (omega arith) ∙ ap (λ n. get_or text at 0 ∷ take n (drop (at + 1) text)) none in
    record {
      blank = blank;
      some = omega arith;
      within = omega arith;
      spelled = refl;
      kind = ap (is_of_kind kind) first ∙ is;
      longest = λ k more. ap (λ piece. is_of_kind k (piece ++ get_or text (at + 1) 0 ∷ [])) first ∙ longest k more;
    }

-- two bytes that are no lexeme
short : (kind : TokenKind) (c d : ℕ) → is_name (c ∷ d ∷ []) ≡ false → is_between 49 57 c ≡ false → c ≢ 36 → is_of_kind kind (c ∷ d ∷ []) ≡ false
short kinds.Symbol c d name number math = refl
short kinds.Name c d name number math = name
short kinds.Number c d name number math = or_from _ _ (and_right (c == 48) _ refl) (and_left _ _ number)
short kinds.Math c d name number math = and_left _ _ (ne_eqb c 36 math)

no-name : (c d : ℕ) → (is_name_start c ≡ false) ⊎ (is_name_byte d ≡ false) → is_name (c ∷ d ∷ []) ≡ false
no-name c d (inl start) = and_left _ _ (and_left _ _ start)
no-name c d (inr next) = and_left _ _ (and_right _ _ (and_left _ _ next))

-- a symbol, or `0`
pub symbol-next : (text : List ℕ) (from at : ℕ) (kind : TokenKind) → at < length text → IsBlank text from at → IsNoName text at →
    is_of_kind kind (get_or text at 0 ∷ []) ≡ true → is_between 49 57 (get_or text at 0) ≡ false → get_or text at 0 ≢ 36 →
    IsNext text from (lexeme text (record { kind = kind; from = at; to = at + 1 }))
symbol-next text from at kind within blank (inl start) is number math =
    one-next text from at kind within blank is (λ k more. short k (get_or text at 0) (get_or text (at + 1) 0) (no-name (get_or text at 0) (get_or text (at + 1) 0) (inl start)) number math)
symbol-next text from at kind within blank (inr (line, stops)) is number math =
    one-next text from at kind within blank is (λ k more. short k (get_or text at 0) (get_or text (at + 1) 0) (no-name (get_or text at 0) (get_or text (at + 1) 0) (inr (stops more))) number math)

-- a number that does not begin with 0
longest-number : (kind : TokenKind) (c : ℕ) (cs : List ℕ) (d : ℕ) → is_name_start c ≡ false → c ≢ 36 → is_digit d ≡ false → is_of_kind kind (c ∷ (cs ++ d ∷ [])) ≡ false
longest-number kinds.Symbol c cs d start math other = longest-symbol c d cs
longest-number kinds.Name c cs d start math other = and_left _ _ (and_left _ _ start)
longest-number kinds.Number c cs d start math other =
    or_from _ _ (two-bytes c d 48 cs []) (and_right _ _ (list_all-append is_digit cs (d ∷ []) ∙ and_right _ _ (and_left _ _ other)))
longest-number kinds.Math c cs d start math other = and_left _ _ (ne_eqb c 36 math)

pub number-next : (text : List ℕ) (from at end : ℕ) → at < length text → at + 1 ≤ end → end ≤ length text → IsBlank text from at →
    is_between 49 57 (get_or text at 0) ≡ true → is_name_start (get_or text at 0) ≡ false → get_or text at 0 ≢ 36 →
    list_all is_digit (slice_range text (at + 1) end) ≡ true → (end < length text → is_digit (get_or text end 0) ≡ false) →
    IsNext text from (lexeme text (record { kind = kinds.Number; from = at; to = end }))
number-next text from at end there some within blank start name math all stops =
    let first : slice_range text at end ≡ get_or text at 0 ∷ slice_range text (at + 1) end = slice-first text at end (omega arith) within in
    record {
      blank = blank;
      some = omega arith;
      within = within;
      spelled = refl;
      kind = ap (is_of_kind kinds.Number) first ∙ or_right _ _ (and_from _ _ start all);
      longest = λ kind more. ap (λ piece. is_of_kind kind (piece ++ get_or text end 0 ∷ [])) first
          ∙ longest-number kind (get_or text at 0) (slice_range text (at + 1) end) (get_or text end 0) name math (stops more);
    }

-- math strings
ends-math : (xs : List ℕ) → list_all is_math_byte xs ≡ true → ends_math (xs ++ 36 ∷ []) ≡ true
ends-math [] all = refl
ends-math (x ∷ []) all = let parts = and_parts (is_math_byte x) true all in and_from (is_math_byte x) _ parts.0 refl
ends-math (x ∷ y ∷ ys) all = let parts = and_parts (is_math_byte x) (list_all is_math_byte (y ∷ ys)) all in and_from (is_math_byte x) _ parts.0 (ends-math (y ∷ ys) parts.1)

pub longest-math : (kind : TokenKind) (cs : List ℕ) (d : ℕ) → ends_math cs ≡ true → is_of_kind kind (36 ∷ (cs ++ d ∷ [])) ≡ false
longest-math kinds.Symbol cs d is = longest-symbol 36 d cs
longest-math kinds.Name cs d is = refl
longest-math kinds.Number cs d is = refl
longest-math kinds.Math cs d is = math-once cs d [] is

pub math-next : (text : List ℕ) (from at end : ℕ) → at + 1 ≤ end → end < length text → IsBlank text from at → get_or text at 0 ≡ 36 →
    list_all is_math_byte (slice_range text (at + 1) end) ≡ true → get_or text end 0 ≡ 36 →
    IsNext text from (lexeme text (record { kind = kinds.Math; from = at; to = end + 1 }))
math-next text from at end some within blank first all last =
    let none : end + 1 - (end + 1) ≡ 0 = omega arith in
    let inside = slice_range text (at + 1) end in
    let whole : slice_range text at (end + 1) ≡ 36 ∷ (inside ++ 36 ∷ []) =
    slice-first text at (end + 1) (omega arith) (omega arith) ∙ ap (λ c. c ∷ slice_range text (at + 1) (end + 1)) first
    ∙ ap (λ xs. 36 ∷ xs) (slice-split text (at + 1) end (end + 1) some (omega arith) (omega arith)
    ∙ ap (λ c. inside ++ c ∷ slice_range text (end + 1) (end + 1)) last ∙ ap (λ n. inside ++ 36 ∷ take n (drop (end + 1) text)) none) in
    record {
      blank = blank;
      some = omega arith;
      within = omega arith;
      spelled = refl;
      kind = ap (is_of_kind kinds.Math) whole ∙ ends-math inside all;
      longest = λ kind more. ap (λ piece. is_of_kind kind (piece ++ get_or text (end + 1) 0 ∷ [])) whole ∙ longest-math kind (inside ++ 36 ∷ []) (get_or text (end + 1) 0) (ends-math inside all);
    }

-- no end among bytes that may stand inside
no-end : (xs : List ℕ) → list_all is_math_byte xs ≡ true → ends_math xs ≡ true → ⊥
no-end [] all ends = false≢true ends
no-end (x ∷ []) all ends =
    let inside = and_parts (is_math_byte x) true all in
    let other = and_parts (is_allowed x) (not (x == 36)) inside.0 in
    false≢true (sym (ap not ends) ∙ other.1)
no-end (x ∷ y ∷ ys) all ends =
    no-end (y ∷ ys) (and_parts (is_math_byte x) (list_all is_math_byte (y ∷ ys)) all).1 (and_parts (is_math_byte x) (ends_math (y ∷ ys)) ends).1

all-to : (text : List ℕ) (from to end : ℕ) → from ≤ to → to ≤ end → end ≤ length text → list_all is_math_byte (slice_range text from end) ≡ true →
    list_all is_math_byte (slice_range text from to) ≡ true
all-to text from to end le le2 within all =
    elim (eq-or-lt_of_le le2) [
      | inl same ↦ ap (λ n. list_all is_math_byte (slice_range text from n)) same ∙ all
      | inr less ↦ all-front is_math_byte (slice_range text from to) (get_or text to 0 ∷ slice_range text (to + 1) end)
          (ap (list_all is_math_byte) (sym (slice-split text from to end le less within)) ∙ all)
    ]

first-of : (text : List ℕ) (at to c : ℕ) (kind : TokenKind) → at < to → to ≤ length text → get_or text at 0 ≡ c → is_of_kind kind (slice_range text at to) ≡ true →
    is_of_kind kind (c ∷ slice_range text (at + 1) to) ≡ true
first-of text at to c kind some within first is =
    sym (ap (is_of_kind kind) (slice-first text at to some within ∙ ap (λ b. b ∷ slice_range text (at + 1) to) first)) ∙ is

bad-at : (text : List ℕ) (at q : ℕ) → is_allowed (get_or text at 0) ≡ true → IsBadByte text at q → (InComment text at q → ⊥) → (InMath text at q → ⊥) → ⊥
bad-at text at q allowed bad comment math =
    elim bad.reached [
      | inl same ↦ false≢true (sym bad.byte ∙ ap (λ i. is_allowed (get_or text i 0)) same ∙ allowed)
      | inr other ↦ elim other [ inl c ↦ comment c | inr m ↦ math m ]
    ]

pub math-open : (text : List ℕ) (from at : ℕ) → at < length text → IsBlank text from at → IsStart text at → get_or text at 0 ≡ 36 →
    list_all is_math_byte (slice_range text (at + 1) (length text)) ≡ true → HasNoLexeme text from at
math-open text from at within blank start first all = record {
  blank = blank;
  within = within;
  no_gap = start.no_gap;
  no_lexeme = λ to kind some le is. no-end (slice_range text (at + 1) to) (all-to text (at + 1) to (length text) (omega arith) le (omega arith) all)
      (dollar-math kind (slice_range text (at + 1) to) (first-of text at to 36 kind some le first is));
  no_bad_byte = λ q bad. bad-at text at q (ap is_allowed first) bad (start.no_comment q bad.within)
      (λ math. let longer = math.longer in let w = bad.within in false≢true (sym bad.byte
      ∙ (and_parts (is_allowed (get_or text q 0)) (not (get_or text q 0 == 36)) (part-at is_math_byte text (at + 1) (length text) q all longer w (omega arith))).0));
}

-- nothing begins with a byte
no-kind : (kind : TokenKind) (c : ℕ) (cs : List ℕ) → (is_name_start c ≡ false) ⊎ (c ≡ 95) → c ≢ 36 → is_between 49 57 c ≡ false → c ≢ 48 → is_symbol_byte c ≡ false →
    is_of_kind kind (c ∷ cs) ≡ true → ⊥
no-kind kinds.Symbol c [] name math number zero symbol is = false≢true (sym symbol ∙ is)
no-kind kinds.Symbol c (d ∷ ds) name math number zero symbol is = false≢true is
no-kind kinds.Name c cs (inl start) math number zero symbol is = false≢true (sym (and_left _ _ (and_left _ _ start)) ∙ is)
no-kind kinds.Name c cs (inr line) math number zero symbol is = true≢false (ap is_symbol_byte (sym line) ∙ symbol)
no-kind kinds.Number c cs name math number zero symbol is = false≢true (sym (or_from _ _ (and_left _ _ (ne_eqb c 48 zero)) (and_left _ _ number)) ∙ is)
no-kind kinds.Math c cs name math number zero symbol is = false≢true (sym (and_left _ _ (ne_eqb c 36 math)) ∙ is)

no_name-byte : (text : List ℕ) (at : ℕ) → IsNoName text at → (is_name_start (get_or text at 0) ≡ false) ⊎ (get_or text at 0 ≡ 95)
no_name-byte text at (inl start) = inl start
no_name-byte text at (inr (line, stops)) = inr line

pub no-lexeme : (text : List ℕ) (from at : ℕ) → at < length text → IsBlank text from at → IsStart text at → is_allowed (get_or text at 0) ≡ true →
    IsNoName text at → get_or text at 0 ≢ 36 → is_between 49 57 (get_or text at 0) ≡ false → get_or text at 0 ≢ 48 → is_symbol_byte (get_or text at 0) ≡ false →
    HasNoLexeme text from at
no-lexeme text from at within blank start allowed name math number zero symbol = record {
  blank = blank;
  within = within;
  no_gap = start.no_gap;
  no_lexeme = λ to kind some le is. no-kind kind (get_or text at 0) (slice_range text (at + 1) to) (no_name-byte text at name) math number zero symbol
      (first-of text at to (get_or text at 0) kind some le refl is);
  no_bad_byte = λ q bad. bad-at text at q allowed bad (start.no_comment q bad.within) (λ begun. math begun.first);
}

-- a digit begins no name
pub digit-no_name : (text : List ℕ) (at : ℕ) → IsNoName text at → is_between 49 57 (get_or text at 0) ≡ true → is_name_start (get_or text at 0) ≡ false
digit-no_name text at (inl start) number = start
digit-no_name text at (inr (line, stops)) number = absurd (false≢true (ap (is_between 49 57) (sym line) ∙ number))
