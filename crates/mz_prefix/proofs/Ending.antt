-- A token isn't made longer by what ends it.
use Rattle.std.proofs.Common.{◌≡◌, ◌∙◌, ◌++◌, ◌∷◌, [], ◌&&◌, ◌||◌, ℕ, List, ◌⊎◌, Bool, true, false, not, ap, sym, refl, inl, inr, subst}
use Rattle.std.specs.Prelude.{◌==◌, bytes_eq, codes}
use Rattle.std.specs.List.{list_all}
use Rattle.std.proofs.lemmas.List.Folds.{list_all-append}
use Rattle.std.proofs.lemmas.Bool.{false≢true, and_left, and_right, and_parts, or_cases, and_cases, or_from, eqb-true, not-true, ne_eqb, false_from_ne_true}
use Rattle.mz_base.specs.Identifiers.{is_digit, is_name_start, is_name_byte}
use Rattle.mz_lex.specs.Kinds.{is_space, is_number_start, is_symbol_byte, is_of_kind, ends_math}
use Rattle.mz_lex.specs.declared.token.TokenKind.{TokenKind}
use Rattle.mz_lex.specs.declared.token.TokenKind.TheVariants as kinds
use Rattle.mz_lex.proofs.Offered.{among, longest-symbol, longest-name, two-bytes, starts-no_digit, longest-math}
use Rattle.mz_prefix.specs.Tokens.{ends}

-- a test that each symbol but `_` fails
symbol-fails : (p : ℕ → Bool) → list_all (λ s. not (p s) || (s == 95)) (codes "*.:;()>{}=_") ≡ true → (c : ℕ) → is_symbol_byte c ≡ true → (c == 95) ≡ false → p c ≡ false
symbol-fails p symbols c symbol other =
    elim (or_cases (not (p c)) (c == 95) (among (λ s. not (p s) || (s == 95)) c (codes "*.:;()>{}=_") symbols symbol)) [
      | inl fails ↦ not-true (p c) fails
      | inr blank ↦ absurd (false≢true (sym other ∙ blank))
    ]

-- a test that whitespace fails too
end-fails : (p : ℕ → Bool) → p 32 ≡ false → p 10 ≡ false → list_all (λ s. not (p s) || (s == 95)) (codes "*.:;()>{}=_") ≡ true
    → (c : ℕ) → (is_space c || (is_symbol_byte c && not (c == 95))) ≡ true → p c ≡ false
end-fails p space newline symbols c end =
    elim (or_cases (is_space c) (is_symbol_byte c && not (c == 95)) end) [
      | inl blank ↦ elim (or_cases (c == 32) (c == 10) blank) [
        | inl is ↦ ap p (eqb-true c 32 is) ∙ space
        | inr is ↦ ap p (eqb-true c 10 is) ∙ newline
      ]
      | inr symbol ↦ (let parts = and_parts (is_symbol_byte c) (not (c == 95)) symbol in symbol-fails p symbols c parts.0 (not-true (c == 95) parts.1))
    ]

symbol-ends : (k : TokenKind) (a c : ℕ) → is_symbol_byte a ≡ true → (a == 95) ≡ false → is_of_kind k (a ∷ c ∷ []) ≡ false
symbol-ends kinds.Symbol a c is other = refl
symbol-ends kinds.Name a c is other = and_left _ _ (and_left _ _ (symbol-fails is_name_start refl a is other))
symbol-ends kinds.Number a c is other = or_from _ _ (two-bytes a c 48 [] []) (and_left _ _ (symbol-fails is_number_start refl a is other))
symbol-ends kinds.Math a c is other = and_left _ _ (symbol-fails (λ b. b == 36) refl a is other)

-- a number begins with 0 or with another digit, and neither begins a name or a math string
number-starts : (a : ℕ) (cs : List ℕ) → is_of_kind kinds.Number (a ∷ cs) ≡ true → (a ≡ 48) ⊎ (is_number_start a ≡ true)
number-starts a cs is =
    elim (or_cases (bytes_eq (a ∷ cs) (codes "0")) (is_number_start a && list_all is_digit cs) is) [
      | inl zero ↦ inl (eqb-true a 48 (and_parts _ _ zero).0)
      | inr some ↦ inr (and_parts _ _ some).0
    ]

digit-no_name : (a : ℕ) → (a ≡ 48) ⊎ (is_number_start a ≡ true) → is_name_start a ≡ false
digit-no_name a (inl is) = ap is_name_start is
digit-no_name a (inr start) = false_from_ne_true (is_name_start a) (λ name. false≢true (sym (starts-no_digit a name) ∙ start))

digit-no_math : (a : ℕ) → (a ≡ 48) ⊎ (is_number_start a ≡ true) → (a == 36) ≡ false
digit-no_math a (inl is) = ap (λ b. b == 36) is
digit-no_math a (inr start) = ne_eqb a 36 (λ is. false≢true (ap is_number_start (sym is) ∙ start))

number-ends : (k : TokenKind) (a : ℕ) (cs : List ℕ) (d : ℕ) → (a ≡ 48) ⊎ (is_number_start a ≡ true) → is_digit d ≡ false → is_of_kind k (a ∷ (cs ++ d ∷ [])) ≡ false
number-ends kinds.Symbol a cs d is end = longest-symbol a d cs
number-ends kinds.Name a cs d is end = and_left _ _ (and_left _ _ (digit-no_name a is))
number-ends kinds.Number a cs d is end = or_from _ _ (two-bytes a d 48 cs []) (and_right _ _ (list_all-append is_digit cs (d ∷ []) ∙ and_right _ _ (and_left _ _ end)))
number-ends kinds.Math a cs d is end = and_left _ _ (digit-no_math a is)

pub word-ends : (kind k : TokenKind) (text : List ℕ) (d : ℕ) → is_of_kind kind text ≡ true → bytes_eq text (codes "_") ≡ false → ends kind d ≡ true → is_of_kind k (text ++ d ∷ []) ≡ false
word-ends kinds.Symbol k (a ∷ []) d is other end = symbol-ends k a d is (elim (and_cases (a == 95) true other) [ inl is ↦ is | inr no_ ↦ absurd (false≢true (sym no_)) ])
word-ends kinds.Name k (a ∷ cs) d is other end = longest-name k a cs d (and_parts _ _ (and_parts _ _ is).0).0 (end-fails is_name_byte refl refl refl d end)
word-ends kinds.Number k (a ∷ cs) d is other end = number-ends k a cs d (number-starts a cs is) (end-fails is_digit refl refl refl d end)
word-ends kinds.Math k (a ∷ cs) d is other end =
    let parts = and_parts (a == 36) (ends_math cs) is in
    let P : ℕ → Type 0 = λ b. is_of_kind k (b ∷ (cs ++ d ∷ [])) ≡ false in
    subst P (sym (eqb-true a 36 parts.0)) (longest-math k cs d parts.1)
word-ends _ k _ d is other end = absurd (false≢true is)
