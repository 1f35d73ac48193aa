-- Whitespace and comments, piece by piece.
use Rattle.std.proofs.Common.{◌≡◌, ◌≢◌, ◌<◌, ◌≤◌, ℕ, List, [], ◌∷◌, ◌++◌, refl, inl, inr, subst, sym, arith}
use Rattle.mz_lex.specs.Lexemes.{IsGap, BlankVia, IsBlank, IsNext, lexeme}
use Rattle.mz_lex.specs.Scan.{SkipsOne}
use Rattle.mz_lex.specs.declared.token.Token.{Token}

via-more : (text : List ℕ) (from at next : ℕ) (stops : List ℕ) → BlankVia text from stops at → IsGap text at next → BlankVia text from (stops ++ next ∷ []) next
via-more text from at next [] via piece = let P : ℕ → Type 0 = λ place. IsGap text place next in (subst P via piece, refl)
via-more text from at next (stop ∷ stops) via piece = (via.0, via-more text stop at next stops via.1 piece)

pub blank-gap : (text : List ℕ) (from at next : ℕ) → IsBlank text from at → IsGap text at next → IsBlank text from next
blank-gap text from at next (stops, via) piece = (stops ++ next ∷ [], via-more text from at next stops via piece)

-- one more piece
pub blank-more : (text : List ℕ) (from at next : ℕ) → IsBlank text from at → SkipsOne text at next → next ≢ at → IsBlank text from next
blank-more text from at next blank (inl same) ne = absurd (ne same)
blank-more text from at next blank (inr piece) ne = blank-gap text from at next blank piece

pub blank-nothing : (text : List ℕ) (from : ℕ) → IsBlank text from from
blank-nothing text from = ([], refl)

pub gap-forward : (text : List ℕ) (from to : ℕ) → IsGap text from to → from < to
gap-forward text from to (inl space) = let one = space.one in omega arith
gap-forward text from to (inr comment) = let longer = comment.begun.longer in omega arith

via-forward : (text : List ℕ) (from to : ℕ) (stops : List ℕ) → BlankVia text from stops to → from ≤ to
via-forward text from to [] via = omega (arith, via)
via-forward text from to (stop ∷ stops) via = omega (arith, gap-forward text from stop via.0, via-forward text stop to stops via.1)

-- what is skipped lies behind
pub blank-forward : (text : List ℕ) (from to : ℕ) → IsBlank text from to → from ≤ to
blank-forward text from to (stops, via) = via-forward text from to stops via

-- the same lexeme, reported of an equal token
pub retold : (text : List ℕ) (from : ℕ) (t u : Token) → t ≡ u → IsNext text from (lexeme text u) → IsNext text from (lexeme text t)
retold text from t u same next = let P : Token → Type 0 = λ v. IsNext text from (lexeme text v) in subst P (sym same) next
