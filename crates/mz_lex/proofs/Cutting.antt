-- Each string has one list of tokens.
use Rattle.std.proofs.Common.{◌≡◌, ◌<◌, ◌-◌, ◌∙◌, ℕ, List, [], ◌∷◌, length, ap₂, sym, refl, subst, inl, inr, arith}
use Rattle.std.proofs.lemmas.Bool.{true≢false, cases_order}
use Rattle.mz_lex.specs.MathTokens.{Delimiters, MathToken, IsSpaces, IsMathToken, MathTokensFrom}

module _ (d : Delimiters) (text : List ℕ) where
  start-one : (from : ℕ) (p q : MathToken) → IsSpaces text from p.from → IsSpaces text from q.from → IsMathToken d text p → IsMathToken d text q → p.from < q.from → ⊥
  start-one from p q before other is_p is_q less =
      let some = is_p.some in
      true≢false (sym (other.1 p.from before.0 less) ∙ is_p.solid p.from (omega arith) some)

  -- a token that ends inside another one
  end-one : (p q : MathToken) → IsMathToken d text p → IsMathToken d text q → p.from ≡ q.from → p.to < q.to → ⊥
  end-one p q is_p is_q same less =
      let some = is_p.some in let within = is_q.within in
      elim is_p.cut [
        | inl last ↦ absurd (omega (arith, last, within))
        | inr other ↦ elim other [
          | inl space ↦ true≢false (sym space ∙ is_q.solid p.to (omega (arith, same)) less)
          | inr delimiter ↦ elim delimiter [
            | inl left ↦ is_q.no_left (p.to - 1) (omega (arith, same, some)) (omega (arith, some)) left
            | inr next ↦ is_q.no_right p.to (omega (arith, same, some)) less next
          ]
        ]
      ]

  pub math_token-one : (from : ℕ) (p q : MathToken) → IsSpaces text from p.from → IsSpaces text from q.from → IsMathToken d text p → IsMathToken d text q → (p.from ≡ q.from) × (p.to ≡ q.to)
  math_token-one from p q before other is_p is_q = (start, end start)
    where
      start : p.from ≡ q.from
      start = elim (cases_order p.from q.from) [
        | inl same ↦ same
        | inr order ↦ elim order [ inl less ↦ absurd (start-one from p q before other is_p is_q less) | inr more_ ↦ absurd (start-one from q p other before is_q is_p more_) ]
      ]

      end : p.from ≡ q.from → p.to ≡ q.to
      end same = elim (cases_order p.to q.to) [
        | inl here ↦ here
        | inr order ↦ elim order [ inl less ↦ absurd (end-one p q is_p is_q same less) | inr more_ ↦ absurd (end-one q p is_q is_p (sym same) more_) ]
      ]

  pub no-math_token : (from : ℕ) (p : MathToken) → IsSpaces text from (length text) → IsSpaces text from p.from → IsMathToken d text p → ⊥
  no-math_token from p spaces before is =
      let some = is.some in let within = is.within in
      true≢false (sym (spaces.1 p.from before.0 (omega arith)) ∙ is.solid p.from (omega arith) some)

  pub math_tokens-one : (from : ℕ) (ps qs : List MathToken) → MathTokensFrom d text from ps → MathTokensFrom d text from qs → ps ≡ qs
  math_tokens-one from [] [] first second = refl
  math_tokens-one from [] (q ∷ qs) first (before, is, rest) = absurd (no-math_token from q first before is)
  math_tokens-one from (p ∷ ps) [] (before, is, rest) second = absurd (no-math_token from p second before is)
  math_tokens-one from (p ∷ ps) (q ∷ qs) (before, is, rest) (other, is_q, rest_q) =
      let same = math_token-one from p q before other is is_q in
      ap₂ ◌∷◌ (ap₂ make same.0 same.1) (math_tokens-one p.to ps qs rest (subst (λ i. MathTokensFrom d text i qs) (sym same.1) rest_q))
    where
      make : ℕ → ℕ → MathToken
      make i j = record { from = i; to = j }
