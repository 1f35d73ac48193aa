-- What reading a math string answers, reported at its places in the text.
use Rattle.std.proofs.Common.{◌≡◌, ◌<◌, ◌≤◌, ◌+◌, ◌-◌, ◌^◌, ℕ, List, [], ◌∷◌, length, drop, ap, subst, inl, inr, arith}
use Rattle.mz_base.proofs.Offered.{take-short, retold-fails, retold-holds}
use Rattle.mz_lex.specs.Lexemes.{Lexeme}
use Rattle.mz_lex.specs.declared.rule.S.{S}
use Rattle.mz_base.specs.Checks.{Checks, ◌>>◌, retold, AllHold, FailsFirst}
use Rattle.mz_logic_theory.specs.Tree.{Tree}
use Rattle.mz_lex.specs.declared.tokens.MathToken.{MathToken}
use Rattle.mz_math_theory.specs.declared.wanted.Wanted.{Wanted}
use Rattle.mz_lex.specs.MathTokens.{MathTokens, MathTokensFrom, token_texts}
use Rattle.mz_math_theory.specs.Grammar.{Words}
use Rattle.mz_math_theory.specs.Formula.{Reader, Misreading, words, known_checks, token_checks, formula_checks, IsFormula, Misreads}
use Rattle.mz_lex.proofs.Offered.{math_tokens-one}
use Rattle.mz_spec_theory.specs.SpecCode.{EndsSmall}
use Rattle.mz_spec_theory.specs.Formulas.{inner, place_of, told}

-- ---- strings

module _ (r : Reader) (w : Wanted) (l : Lexeme) (ps : List MathToken) (cut : MathTokens r.table.delimiters (inner l) ps) where
  pub told-fails : (at : ℕ) (rule : S) → Misreads r w (inner l) (record { at = at; rule = rule })
      → FailsFirst (retold (told l) (formula_checks r w (inner l) ps)) (record { at = place_of l rule at; rule = rule })
  told-fails at rule (qs, other, fails) =
      retold-fails (told l) (formula_checks r w (inner l) ps) (record { at = at; rule = rule })
      (subst (λ xs. FailsFirst (formula_checks r w (inner l) xs) (record { at = at; rule = rule })) (math_tokens-one r.table.delimiters (inner l) 0 qs ps other cut) fails)

  pub told-holds : (e : Tree) → IsFormula r w (inner l) e → AllHold (retold (told l) (formula_checks r w (inner l) ps))
  told-holds e (qs, other, all, means) =
      retold-holds (told l) (formula_checks r w (inner l) ps) (subst (λ xs. AllHold (formula_checks r w (inner l) xs)) (math_tokens-one r.table.delimiters (inner l) 0 qs ps other cut) all)

-- ---- places

known-within : (ws : Words) (text : List ℕ) (d : Reader) (from : ℕ) (ps : List MathToken) (more : Checks Misreading) (m : Misreading) → MathTokensFrom d.table.delimiters text from ps
    → (FailsFirst more m → m.at ≤ length text) → FailsFirst (known_checks ws text ps >> more) m → m.at ≤ length text
known-within ws text d from [] more m cut last fails = last fails
known-within ws text d from (p ∷ ps) more m (before, is, on) last (inl (out, same)) =
    let some = is.some in let within = is.within in let at = ap (λ x. x.at) same in omega (arith, some, within, at)
known-within ws text d from (p ∷ ps) more m (before, is, on) last (inr (holds, rest)) = known-within ws text d p.to ps more m on last rest

tokens-first : (r : Reader) (w : Wanted) (tokens : List (List ℕ)) (m : Misreading) → FailsFirst (token_checks r w tokens) m → m.at ≡ 0
tokens-first r w tokens m (inl (out, same)) = ap (λ x. x.at) same
tokens-first r w tokens m (inr (_, inl (out, same))) = ap (λ x. x.at) same
tokens-first r w tokens m (inr (_, inr (_, inl (out, same)))) = ap (λ x. x.at) same
tokens-first r w tokens m (inr (_, inr (_, inr (_, inl (out, same))))) = ap (λ x. x.at) same
tokens-first r w tokens m (inr (_, inr (_, inr (_, inr (_, inl (out, same)))))) = ap (λ x. x.at) same
tokens-first r w tokens m (inr (_, inr (_, inr (_, inr (_, inr (_, rest)))))) = absurd rest

pub misread-small : (r : Reader) (w : Wanted) (l : Lexeme) (at : ℕ) (rule : S) → EndsSmall l → Misreads r w (inner l) (record { at = at; rule = rule }) → l.from + 1 + at < 2 ^ 32
misread-small r w l at rule (some, small) (ps, cut, fails) =
    let within = known-within (words r) (inner l) r 0 ps (token_checks r w (token_texts (inner l) ps)) (record { at = at; rule = rule }) cut
    (λ rest. let zero_at = tokens-first r w (token_texts (inner l) ps) (record { at = at; rule = rule }) rest in omega (arith, zero_at)) fails in
    let few = take-short ((length l.text - 1) - 1) (drop 1 l.text) in
    omega (arith, some, small, within, few)
