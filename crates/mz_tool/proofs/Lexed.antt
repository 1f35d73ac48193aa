-- Rows of words, a newline behind each, are the lexemes of their text.
use Rattle.std.proofs.Common.{◌≡◌, ◌+◌, ◌++◌, ◌∷◌, [], ℕ, List, length, None, ap, sym, refl, subst, arith, append_assoc, append-nil, length-append, ◌∙◌}
use Rattle.std.specs.Prelude.{⊤, codes}
use Rattle.mz_lex.specs.Lexemes.{LexesFrom, Lexeme}
use Rattle.mz_prefix.specs.Tokens.{Word, written, stop, lexemes_at, AreWords}
use Rattle.mz_prefix.proofs.Offered.{via-spaces, words-are-lexemes, blank-first, stop-is}

abbrev pub row_text : List Word → List ℕ
row_text ws = written ws ++ codes "\n"

abbrev pub rows_text : List (List Word) → List ℕ
rows_text [] = []
rows_text (ws ∷ wss) = row_text ws ++ rows_text wss

-- the place behind a row's newline
abbrev pub next_row : ℕ → List Word → ℕ
next_row p ws = stop p ws + 1

abbrev pub rows_lexemes : ℕ → List (List Word) → List Lexeme
rows_lexemes p [] = []
rows_lexemes p (ws ∷ wss) = lexemes_at p ws ++ rows_lexemes (next_row p ws) wss

-- the last word of each ends before a newline
abbrev pub AreRows : List (List Word) → Type 0
AreRows [] = ⊤
AreRows (ws ∷ wss) = ((rest : List ℕ) → AreWords ws (10 ∷ rest)) × AreRows wss

pub rows-from : (wss : List (List Word)) (before : List ℕ) → AreRows wss → LexesFrom (before ++ rows_text wss) (length before) (rows_lexemes (length before) wss) None
rows-from [] before are = ([], ap length (append-nil before))
rows-from (ws ∷ wss) before are =
    let newline : List ℕ = codes "\n" in
    let rest : List ℕ = newline ++ rows_text wss in
    let text : List ℕ = before ++ (written ws ++ rest) in
    let p : ℕ = length before + length (written ws) in
    let same : before ++ (row_text ws ++ rows_text wss) ≡ text = ap (λ xs. before ++ xs) (append_assoc (written ws) newline (rows_text wss)) in
    let whole : before ++ row_text ws ++ rows_text wss ≡ text = append_assoc before (row_text ws) (rows_text wss) ∙ same in
    let end : length (before ++ row_text ws) ≡ p + 1 = omega (arith, length-append before (row_text ws), length-append (written ws) newline) in
    let place : p + 1 ≡ next_row (length before) ws = omega (arith, stop-is (length before) ws) in
    let P : List ℕ → Type 0 = λ xs. LexesFrom xs (length (before ++ row_text ws)) (rows_lexemes (length (before ++ row_text ws)) wss) None in
    let Q : ℕ → Type 0 = λ i. LexesFrom text i (rows_lexemes i wss) None in
    let R : ℕ → Type 0 = λ i. LexesFrom text (p + 1) (rows_lexemes i wss) None in
    let S : List ℕ → Type 0 = λ xs. LexesFrom xs (length before) (rows_lexemes (length before) (ws ∷ wss)) None in
    let further = subst R place (subst Q end (subst P whole (rows-from wss (before ++ row_text ws) are.1))) in
    let blank = via-spaces newline text (before ++ written ws) (rows_text wss) p (sym (append_assoc before (written ws) rest), sym (length-append before (written ws))) refl in
    subst S (sym same)
    (words-are-lexemes before rest ws (rows_lexemes (next_row (length before) ws) wss) None (are.0 (rows_text wss)) (blank-first text p (p + 1) _ blank further))
