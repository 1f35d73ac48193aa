-- The tokens of a math string that is written.
use Rattle.std.proofs.Common.{◌≡◌, ◌∙◌, ◌+◌, ◌++◌, ◌∷◌, [], ℕ, List, length, true, get_or, ap, ap₂, sym, refl, subst, inl, inr, arith, append_assoc, length-append}
use Rattle.std.specs.Prelude.{codes, not}
use Rattle.std.specs.List.{list_all}
use Rattle.std.proofs.lemmas.List.{append_cancel_left, append_cancel_right}
use Rattle.std.proofs.lemmas.Bool.{and_parts, and_from, not-true}
use Rattle.mz_base.proofs.Offered.{contains_none, some-length}
use Rattle.mz_lex.specs.Kinds.{is_space, is_math_byte, inside_of}
use Rattle.mz_lex.proofs.Offered.{has-inside, part-at}
use Rattle.mz_lex.specs.MathTokens.{IsSpaces, IsMathToken, MathTokensFrom, MathTokens, no_delimiters, token_texts}
use Rattle.mz_prefix.specs.Lines.{Tokens, spaced, math_text}
use Rattle.mz_prefix.specs.Plain.{is_token_byte, IsToken, AreTokens, tokens_at}
use Rattle.mz_prefix.specs.PrintLaws.{TokensAreMathTokens}
use Rattle.mz_prefix.proofs.Lexing.{Stands, size-of, found}
use Rattle.mz_prefix.proofs.PlainLines.{math-is}

inside-is : (ts : Tokens) → AreTokens ts → inside_of (math_text ts) ≡ codes " " ++ spaced ts
inside-is ts are =
    let whole = (has-inside (math_text ts) (math-is ts are)).0 in
    sym (append_cancel_right (codes " " ++ spaced ts) (inside_of (math_text ts)) (codes "$") (append_cancel_left (codes "$") _ _ whole))

no-space : (t : List ℕ) → list_all is_token_byte t ≡ true → list_all (λ c. not (is_space c)) t ≡ true
no-space [] all = refl
no-space (c ∷ cs) all = let parts = and_parts (is_token_byte c) (list_all is_token_byte cs) all in and_from _ _ (and_parts (is_math_byte c) (not (is_space c)) parts.0).1 (no-space cs parts.1)

-- a token behind other bytes and before a space
math_token-is : (text before t rest : List ℕ) (at : ℕ) → IsToken t → Stands text before t (32 ∷ rest) at → IsMathToken no_delimiters text (record { from = at; to = at + length t })
math_token-is text before t rest at (some, bytes) stands =
    let there = found text before t (32 ∷ rest) at stands in
    record {
      some = omega (arith, some-length t some);
      within = omega (arith, there.size);
      solid = λ i le less. not-true (is_space (get_or text i 0)) (part-at (λ c. not (is_space c)) text at (at + length t) i (ap (list_all (λ c. not (is_space c))) there.slice ∙ no-space t bytes) le less (omega (arith, there.size)));
      no_left = λ i le less among. contains_none (get_or text i 0) among;
      no_right = λ i le less among. contains_none (get_or text i 0) among;
      cut = inr (inl (ap is_space (there.next 32 rest refl)));
    }

-- whitespace of one byte or none
one-space : (text before rest : List ℕ) (at : ℕ) → Stands text before (32 ∷ []) rest at → IsSpaces text at (at + 1)
one-space text before rest at stands =
    let there = found text before [] (32 ∷ rest) at stands in
    (omega arith, λ i le less. let same : i ≡ at + 0 = omega arith in ap (λ j. is_space (get_or text j 0)) same ∙ ap is_space (there.next 32 rest refl))

math_tokens-from : (ts : Tokens) (text before : List ℕ) (at : ℕ) → AreTokens ts → Stands text before (codes " ") (spaced ts) at
    → MathTokensFrom no_delimiters text at (tokens_at (at + 1) ts) × (token_texts text (tokens_at (at + 1) ts) ≡ ts)
math_tokens-from [] text before at are stands =
    let size : at + 1 ≡ length text = sym (size-of text before (32 ∷ []) [] at stands ∙ omega arith) in
    let P : ℕ → Type 0 = λ end. IsSpaces text at end in (subst P size (one-space text before [] at stands), refl)
math_tokens-from (t ∷ ts) text before at are (is, place) =
    let piece : Stands text (before ++ 32 ∷ []) t (32 ∷ spaced ts) (at + 1) = (is ∙ sym (append_assoc before (32 ∷ []) (t ++ 32 ∷ spaced ts)), omega (arith, place, length-append before (32 ∷ []))) in
    let behind : Stands text (before ++ 32 ∷ [] ++ t) (codes " ") (spaced ts) (at + 1 + length t) =
    (piece.0 ∙ sym (append_assoc (before ++ 32 ∷ []) t (32 ∷ spaced ts)), omega (arith, piece.1, length-append (before ++ 32 ∷ []) t)) in
    let further = math_tokens-from ts text (before ++ 32 ∷ [] ++ t) (at + 1 + length t) are.1 behind in (
      (one-space text before (t ++ 32 ∷ spaced ts) at (is, place), math_token-is text (before ++ 32 ∷ []) t (spaced ts) (at + 1) are.0 piece, further.0),
      ap₂ ◌∷◌ (found text (before ++ 32 ∷ []) t (32 ∷ spaced ts) (at + 1) piece).slice further.1,
    )

pub tokens-are-math_tokens : TokensAreMathTokens
tokens-are-math_tokens ts are =
    let P : List ℕ → Type 0 = λ xs. MathTokens no_delimiters xs (tokens_at 1 ts) × (token_texts xs (tokens_at 1 ts) ≡ ts) in
    subst P (sym (inside-is ts are)) (math_tokens-from ts (codes " " ++ spaced ts) [] 0 are (refl, refl))
