-- Which bytes make a lexeme that can't be longer.
use Rattle.std.proofs.Common.{◌≡◌, ◌<◌, ◌≤◌, ◌+◌, ◌-◌, ◌∙◌, ◌++◌, ◌∷◌, [], ◌&&◌, ◌||◌, ℕ, List, length, drop, take, get_or, Bool, true, false, not, arith, ap, refl, inl, inr, suc, drop-cons, leb, length-drop, length-take}
use Rattle.mz_lex.specs.Lexemes.{IsNext, IsBlank, lexeme}
use Rattle.std.specs.Prelude.{bytes_eq, slice_range, ◌==◌}
use Rattle.std.specs.List.{list_all, list_any}
use Rattle.std.proofs.lemmas.List.Folds.{list_all-append}
use Rattle.std.proofs.lemmas.Bool.{false≢true, and_from, and_left, and_right, or_cases, and_parts, leb-true, eqb-true, lt-leb, ne_eqb, or_from}
use Rattle.mz_base.specs.Identifiers.{is_name, is_name_start, is_name_byte, is_between}
use Rattle.mz_lex.specs.Kinds.{is_symbol, is_of_kind}
use Rattle.mz_lex.specs.declared.token.TokenKind.{TokenKind}
use Rattle.mz_lex.specs.declared.token.TokenKind.TheVariants as kinds

-- what each of a list of bytes passes, one of them passes
pub among : (p : ℕ → Bool) (c : ℕ) (ss : List ℕ) → list_all p ss ≡ true → list_any (λ s. c == s) ss ≡ true → p c ≡ true
among p c [] all any = absurd (false≢true any)
among p c (s ∷ ss) all any =
    let parts = and_parts (p s) (list_all p ss) all in
    elim (or_cases (c == s) (list_any (λ t. c == t) ss) any) [
      | inl same ↦ ap p (eqb-true c s same) ∙ parts.0
      | inr rest ↦ among p c ss parts.1 rest
    ]

-- a name doesn't begin with a digit or a `$`
starts-range : (c : ℕ) → is_name_start c ≡ true → 65 ≤ c
starts-range c start =
    elim (or_cases (is_between 97 122 c || is_between 65 90 c) (c == 95) start) [
      | inl letter ↦ elim (or_cases (is_between 97 122 c) (is_between 65 90 c) letter) [
        | inl small ↦ (let low : 97 ≤ c = leb-true 97 c (and_parts (leb 97 c) (leb c 122) small).0 in omega arith)
        | inr large ↦ leb-true 65 c (and_parts (leb 65 c) (leb c 90) large).0
      ]
      | inr line ↦ (let same : c ≡ 95 = eqb-true c 95 line in omega arith)
    ]

pub starts-no_digit : (c : ℕ) → is_name_start c ≡ true → is_between 49 57 c ≡ false
starts-no_digit c start = and_right _ _ (lt-leb c 57 (omega (arith, starts-range c start)))

pub name-is : (c : ℕ) (cs : List ℕ) → is_name_start c ≡ true → list_all is_name_byte cs ≡ true → (cs ≡ [] → c ≡ 95 → ⊥) → is_name (c ∷ cs) ≡ true
name-is c [] start all other = and_from _ _ (and_from _ _ start all) (ap (λ b. not (b && true)) (ne_eqb c 95 (other refl)))
name-is c (d ∷ ds) start all other = and_from _ _ (and_from _ _ start all) (ap not (and_right (c == 95) false refl))

pub longest-symbol : (c d : ℕ) (cs : List ℕ) → is_symbol (c ∷ (cs ++ d ∷ [])) ≡ false
longest-symbol c d [] = refl
longest-symbol c d (e ∷ es) = refl

-- two bytes are not one
pub two-bytes : (c d e : ℕ) (cs ys : List ℕ) → bytes_eq (c ∷ (cs ++ d ∷ ys)) (e ∷ []) ≡ false
two-bytes c d e [] ys = and_right _ _ refl
two-bytes c d e (f ∷ fs) ys = and_right _ _ refl

pub longest-name : (kind : TokenKind) (c : ℕ) (cs : List ℕ) (d : ℕ) → is_name_start c ≡ true → is_name_byte d ≡ false →
    is_of_kind kind (c ∷ (cs ++ d ∷ [])) ≡ false
longest-name kinds.Symbol c cs d start other = longest-symbol c d cs
longest-name kinds.Name c cs d start other =
    and_left _ _ (and_right _ _ (list_all-append is_name_byte cs (d ∷ []) ∙ and_right _ _ (and_left _ _ other)))
longest-name kinds.Number c cs d start other = or_from _ _ (two-bytes c d 48 cs []) (and_left _ _ (starts-no_digit c start))
longest-name kinds.Math c cs d start other = and_left _ _ (ne_eqb c 36 (λ e. absurd (omega (arith, starts-range c start, e))))

-- the first byte of a part of the text, and the others
pub slice-first : (text : List ℕ) (from to : ℕ) → from < to → to ≤ length text → slice_range text from to ≡ get_or text from 0 ∷ slice_range text (from + 1) to
slice-first text from to some within =
    let size : to - from ≡ suc (to - (from + 1)) = omega arith in
    let there : from < length text = omega arith in
    let next : suc from ≡ from + 1 = omega arith in
    ap (λ n. take n (drop from text)) size ∙ ap (take (suc (to - (from + 1)))) (drop-cons text from 0 there) ∙ ap (λ i. get_or text from 0 ∷ take (to - (from + 1)) (drop i text)) next

pub slice-empty : (text : List ℕ) (from to : ℕ) → from ≤ to → to ≤ length text → slice_range text from to ≡ [] → to ≡ from
slice-empty text from to le within e =
    let size : length (slice_range text from to) ≡ 0 = ap length e in
    omega (arith, length-take (to - from) (drop from text), length-drop from text)

-- a name that begins at a place and ends where the name bytes do
pub name-next : (text : List ℕ) (from at end : ℕ) → at + 1 ≤ end → end ≤ length text → IsBlank text from at →
    is_name_start (get_or text at 0) ≡ true → list_all is_name_byte (slice_range text (at + 1) end) ≡ true →
    (end < length text → is_name_byte (get_or text end 0) ≡ false) → (get_or text at 0 ≡ 95 → at + 1 < end) →
    IsNext text from (lexeme text (record { kind = kinds.Name; from = at; to = end }))
name-next text from at end some within blank start all stops other =
    let first : slice_range text at end ≡ get_or text at 0 ∷ slice_range text (at + 1) end = slice-first text at end (omega arith) within in
    record {
      blank = blank;
      some = omega arith;
      within = within;
      spelled = refl;
      kind = ap is_name first ∙ name-is (get_or text at 0) (slice_range text (at + 1) end) start all
          (λ empty line. let more = other line in let none : end ≡ at + 1 = slice-empty text (at + 1) end some within empty in absurd (omega (arith, none)));
      longest = λ kind more. ap (λ piece. is_of_kind kind (piece ++ get_or text end 0 ∷ [])) first
          ∙ longest-name kind (get_or text at 0) (slice_range text (at + 1) end) (get_or text end 0) start (stops more);
    }
