-- A lexeme has one kind.
use Rattle.std.proofs.Common.{◌≡◌, ◌∙◌, ◌&&◌, ◌⊎◌, ℕ, List, [], ◌∷◌, true, not, ap, sym, refl, inl, inr}
use Rattle.std.specs.Prelude.{bytes_eq, codes, ◌==◌}
use Rattle.std.specs.List.{list_all}
use Rattle.std.proofs.lemmas.Bool.{and_parts, or_cases, eqb-true, false≢true, true≢false}
use Rattle.mz_base.specs.Identifiers.{is_name, is_name_start, is_digit, is_between}
use Rattle.mz_lex.specs.Kinds.{is_of_kind, is_symbol_byte, ends_math}
use Rattle.mz_lex.specs.Lexemes.{IsNext, Lexeme}
use Rattle.mz_lex.specs.declared.token.TokenKind.{TokenKind}
use Rattle.mz_lex.specs.declared.token.TokenKind.TheVariants as kinds
use Rattle.mz_lex.proofs.Names.{among, starts-no_digit}
use Rattle.mz_lex.proofs.OneLexeme.{next-text}

symbol-name : (c : ℕ) → is_symbol_byte c ≡ true → is_name (c ∷ []) ≡ true → ⊥
symbol-name c symbol name = true≢false (sym (among (λ b. not (is_name (b ∷ []))) c (codes "*.:;()>{}=_") refl symbol) ∙ ap not name)

symbol-digit : (c : ℕ) → is_symbol_byte c ≡ true → is_digit c ≡ true → ⊥
symbol-digit c symbol digit = true≢false (sym (among (λ b. not (is_digit b)) c (codes "*.:;()>{}=_") refl symbol) ∙ ap not digit)

symbol-dollar : (c : ℕ) → is_symbol_byte c ≡ true → c ≡ 36 → ⊥
symbol-dollar c symbol dollar = true≢false (sym symbol ∙ ap is_symbol_byte dollar)

number-digit : (c : ℕ) (cs : List ℕ) → is_of_kind kinds.Number (c ∷ cs) ≡ true → (c ≡ 48) ⊎ (is_between 49 57 c ≡ true)
number-digit c cs is =
    elim (or_cases (bytes_eq (c ∷ cs) (48 ∷ [])) (is_between 49 57 c && list_all is_digit cs) is) [
      | inl zero_alone ↦ inl (eqb-true c 48 (and_parts (c == 48) _ zero_alone).0)
      | inr digits ↦ inr (and_parts (is_between 49 57 c) (list_all is_digit cs) digits).0
    ]

name-first : (c : ℕ) (cs : List ℕ) → is_name (c ∷ cs) ≡ true → is_name_start c ≡ true
name-first c cs is = (and_parts (is_name_start c) _ (and_parts _ _ is).0).0

math-first : (c : ℕ) (cs : List ℕ) → is_of_kind kinds.Math (c ∷ cs) ≡ true → c ≡ 36
math-first c cs is = eqb-true c 36 (and_parts (c == 36) (ends_math cs) is).0

symbol-number : (c : ℕ) → is_symbol_byte c ≡ true → (c ≡ 48) ⊎ (is_between 49 57 c ≡ true) → ⊥
symbol-number c symbol (inl zero_) = true≢false (sym symbol ∙ ap is_symbol_byte zero_)
symbol-number c symbol (inr digit) = true≢false (sym (among (λ b. not (is_between 49 57 b)) c (codes "*.:;()>{}=_") refl symbol) ∙ ap not digit)

name-number : (c : ℕ) → is_name_start c ≡ true → (c ≡ 48) ⊎ (is_between 49 57 c ≡ true) → ⊥
name-number c start (inl zero_) = true≢false (sym start ∙ ap is_name_start zero_)
name-number c start (inr digit) = true≢false (sym digit ∙ starts-no_digit c start)

number-dollar : (c : ℕ) → (c ≡ 48) ⊎ (is_between 49 57 c ≡ true) → c ≡ 36 → ⊥
number-dollar c (inl zero_) dollar = true≢false (ap (λ b. b == 48) (sym zero_ ∙ dollar))
number-dollar c (inr digit) dollar = true≢false (sym digit ∙ ap (is_between 49 57) dollar)

pub one-kind : (k j : TokenKind) (cs : List ℕ) → is_of_kind k cs ≡ true → is_of_kind j cs ≡ true → k ≡ j
one-kind kinds.Symbol kinds.Symbol cs a b = refl
one-kind kinds.Name kinds.Name cs a b = refl
one-kind kinds.Number kinds.Number cs a b = refl
one-kind kinds.Math kinds.Math cs a b = refl
one-kind kinds.Symbol j [] a b = absurd (false≢true a)
one-kind kinds.Name j [] a b = absurd (false≢true a)
one-kind kinds.Number j [] a b = absurd (false≢true a)
one-kind kinds.Math j [] a b = absurd (false≢true a)
one-kind kinds.Symbol j (c ∷ d ∷ cs) a b = absurd (false≢true a)
one-kind kinds.Symbol kinds.Name (c ∷ []) a b = absurd (symbol-name c a b)
one-kind kinds.Symbol kinds.Number (c ∷ []) a b = absurd (symbol-number c a (number-digit c [] b))
one-kind kinds.Symbol kinds.Math (c ∷ []) a b = absurd (symbol-dollar c a (math-first c [] b))
one-kind kinds.Name kinds.Symbol (c ∷ []) a b = absurd (symbol-name c b a)
one-kind kinds.Name kinds.Symbol (c ∷ d ∷ cs) a b = absurd (false≢true b)
one-kind kinds.Name kinds.Number (c ∷ cs) a b = absurd (name-number c (name-first c cs a) (number-digit c cs b))
one-kind kinds.Name kinds.Math (c ∷ cs) a b = absurd (true≢false (sym (name-first c cs a) ∙ ap is_name_start (math-first c cs b)))
one-kind kinds.Number kinds.Symbol (c ∷ []) a b = absurd (symbol-number c b (number-digit c [] a))
one-kind kinds.Number kinds.Symbol (c ∷ d ∷ cs) a b = absurd (false≢true b)
one-kind kinds.Number kinds.Name (c ∷ cs) a b = absurd (name-number c (name-first c cs b) (number-digit c cs a))
one-kind kinds.Number kinds.Math (c ∷ cs) a b = absurd (number-dollar c (number-digit c cs a) (math-first c cs b))
one-kind kinds.Math kinds.Symbol (c ∷ []) a b = absurd (symbol-dollar c b (math-first c [] a))
one-kind kinds.Math kinds.Symbol (c ∷ d ∷ cs) a b = absurd (false≢true b)
one-kind kinds.Math kinds.Name (c ∷ cs) a b = absurd (true≢false (sym (name-first c cs b) ∙ ap is_name_start (math-first c cs a)))
one-kind kinds.Math kinds.Number (c ∷ cs) a b = absurd (number-dollar c (number-digit c cs b) (math-first c cs a))

pub next-kind : (text : List ℕ) (from : ℕ) (t u : Lexeme) → IsNext text from t → IsNext text from u → t.kind ≡ u.kind
next-kind text from t u first second = one-kind t.kind u.kind _ first.kind (ap (is_of_kind u.kind) (next-text text from t u first second) ∙ second.kind)
