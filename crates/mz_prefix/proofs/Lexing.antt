-- Tokens one after the other are the lexemes of their text.
use Rattle.std.proofs.Common.{◌≡◌, ◌<◌, ◌+◌, ◌-◌, ◌∙◌, ◌++◌, ◌∷◌, [], ℕ, List, length, drop, take, get_or, true, false, arith, ap, ap₂, sym, refl, inl, subst, Option, length-append, append_assoc}
use Rattle.std.specs.Prelude.{slice_range, bytes_eq, codes}
use Rattle.std.specs.List.{list_all}
use Rattle.std.proofs.Math.Seq.{take-append_seam, drop-append_seam}
use Rattle.std.proofs.lemmas.Bool.{and_parts, false≢true}
use Rattle.mz_lex.specs.Kinds.{is_space, is_of_kind}
use Rattle.mz_lex.specs.Lexemes.{IsSpace, IsBlank, BlankVia, IsNext, Lexeme, LexesFrom}
use Rattle.mz_lex.specs.declared.token.TokenKind.{TokenKind}
use Rattle.mz_lex.specs.declared.token.TokenKind.TheVariants as kinds
use Rattle.mz_lex.specs.declared.token.LexFault.{LexFault}
use Rattle.mz_prefix.specs.Tokens.{Word, written, lexeme_at, lexemes_at, IsWord, EndsBefore, AreWords}
use Rattle.mz_prefix.specs.PrintLaws.{WordsAreLexemes}
use Rattle.mz_prefix.proofs.Ending.{word-ends}

-- ---- parts of a text

slice-middle : (xs ys zs : List ℕ) → slice_range (xs ++ (ys ++ zs)) (length xs) (length xs + length ys) ≡ ys
slice-middle xs ys zs =
    let size : length xs + length ys - length xs ≡ length ys = omega arith in
    ap (λ n. take n (drop (length xs) (xs ++ (ys ++ zs)))) size ∙ ap (take (length ys)) (drop-append_seam xs (ys ++ zs)) ∙ take-append_seam ys zs

at-seam : (xs : List ℕ) (c : ℕ) (ys : List ℕ) → get_or (xs ++ c ∷ ys) (length xs) 0 ≡ c
at-seam [] c ys = refl
at-seam (x ∷ xs) c ys = at-seam xs c ys

-- ---- whitespace

abbrev pub Stands : List ℕ → List ℕ → List ℕ → List ℕ → ℕ → Type 0
Stands text before part rest at = (text ≡ before ++ (part ++ rest)) × (at ≡ length before)

pub size-of : (text before part rest : List ℕ) (at : ℕ) → Stands text before part rest at → length text ≡ at + length part + length rest
size-of text before part rest at (is, place) = omega (arith, ap length is, length-append before (part ++ rest), length-append part rest, place)

pub via-spaces : (gap text before rest : List ℕ) (at : ℕ) → Stands text before gap rest at → list_all is_space gap ≡ true → (stops : List ℕ) × BlankVia text at stops (at + length gap)
via-spaces [] text before rest at stands spaces = ([], omega arith)
via-spaces (c ∷ cs) text before rest at (is, place) spaces =
    let parts = and_parts (is_space c) (list_all is_space cs) spaces in
    let further = via-spaces cs text (before ++ c ∷ []) rest (at + 1) (is ∙ sym (append_assoc before (c ∷ []) (cs ++ rest)), omega (arith, place, length-append before (c ∷ []))) parts.1 in
    let end : at + 1 + length cs ≡ at + length (c ∷ cs) = omega arith in
    let P : ℕ → Type 0 = λ to. BlankVia text (at + 1) further.0 to in
    let byte : get_or text at 0 ≡ c = ap (λ xs. get_or xs at 0) is ∙ ap (λ i. get_or (before ++ c ∷ (cs ++ rest)) i 0) place ∙ at-seam before c (cs ++ rest) in
    let size = size-of text before (c ∷ cs) rest at (is, place) in
    let space : IsSpace text at (at + 1) = record { one = refl; within = omega (arith, size); byte = ap is_space byte ∙ parts.0 } in
    ((at + 1) ∷ further.0, (inl space, subst P end further.1))

via-then : (stops : List ℕ) (text : List ℕ) (from at to : ℕ) → BlankVia text from stops at → IsBlank text at to → IsBlank text from to
via-then [] text from at to via rest = let P : ℕ → Type 0 = λ i. IsBlank text i to in subst P via rest
via-then (stop ∷ stops) text from at to via rest = let further = via-then stops text stop at to via.1 rest in (stop ∷ further.0, (via.0, further.1))

pub blank-then : (text : List ℕ) (from at to : ℕ) → IsBlank text from at → IsBlank text at to → IsBlank text from to
blank-then text from at to (stops, via) rest = via-then stops text from at to via rest

-- ---- tokens

some-bytes : (kind : TokenKind) (text : List ℕ) → is_of_kind kind text ≡ true → 0 < length text
some-bytes kinds.Symbol [] is = absurd (false≢true is)
some-bytes kinds.Name [] is = absurd (false≢true is)
some-bytes kinds.Number [] is = absurd (false≢true is)
some-bytes kinds.Math [] is = absurd (false≢true is)
some-bytes kind (c ∷ cs) is = omega arith

-- the bytes of a token from `from` on, and what stands behind it
pub record Found (text word rest : List ℕ) (from : ℕ) : Type 0 where
  pub slice : slice_range text from (from + length word) ≡ word
  pub size : length text ≡ from + length word + length rest
  pub next : (c : ℕ) (cs : List ℕ) → rest ≡ c ∷ cs → get_or text (from + length word) 0 ≡ c

pub found : (text before word rest : List ℕ) (from : ℕ) → Stands text before word rest from → Found text word rest from
found text before word rest from (is, place) = record {
  slice = ap (λ xs. slice_range xs from (from + length word)) is ∙ ap (λ i. slice_range (before ++ (word ++ rest)) i (i + length word)) place ∙ slice-middle before word rest;
  size = size-of text before word rest from (is, place);
  next = λ c cs same.
      let whole : text ≡ before ++ word ++ c ∷ cs = is ∙ sym (append_assoc before word rest) ∙ ap (λ xs. before ++ word ++ xs) same in
      let end : from + length word ≡ length (before ++ word) = omega (arith, place, length-append before word) in
      ap (λ xs. get_or xs (from + length word) 0) whole ∙ ap (λ i. get_or (before ++ word ++ c ∷ cs) i 0) end ∙ at-seam (before ++ word) c cs;
}

longest : (kind : TokenKind) (text word rest : List ℕ) (from : ℕ) → Found text word rest from → is_of_kind kind word ≡ true → bytes_eq word (codes "_") ≡ false → EndsBefore kind rest
    → (k : TokenKind) → from + length word < length text → is_of_kind k (slice_range text from (from + length word) ++ get_or text (from + length word) 0 ∷ []) ≡ false
longest kind text word [] from found is other end k less = let size = found.size in absurd (omega arith)
longest kind text word (c ∷ cs) from found is other end k less =
    ap₂ (λ xs b. is_of_kind k (xs ++ b ∷ [])) found.slice (found.next c cs refl) ∙ word-ends kind k word c is other end

next-word : (text before rest : List ℕ) (w : Word) (at : ℕ) → Stands text before (w.gap ++ w.text) rest at → IsWord w → EndsBefore w.kind rest → IsNext text at (lexeme_at at w)
next-word text before rest w at (is, place) (spaces, kind, other) end =
    let gap : Stands text before w.gap (w.text ++ rest) at = (is ∙ ap (λ xs. before ++ xs) (append_assoc w.gap w.text rest), place) in
    let stands : Stands text (before ++ w.gap) w.text rest (at + length w.gap) =
    (gap.0 ∙ sym (append_assoc before w.gap (w.text ++ rest)), omega (arith, place, length-append before w.gap)) in
    let there = found text (before ++ w.gap) w.text rest (at + length w.gap) stands in
    record {
      blank = via-spaces w.gap text before (w.text ++ rest) at gap spaces;
      some = omega (arith, some-bytes w.kind w.text kind);
      within = omega (arith, there.size);
      spelled = sym there.slice;
      kind = ap (is_of_kind w.kind) there.slice ∙ kind;
      longest = longest w.kind text w.text rest (at + length w.gap) there kind other end;
    }

words-lex : (ws : List Word) (text before rest : List ℕ) (at : ℕ) (ls : List Lexeme) (e : Option LexFault) → Stands text before (written ws) rest at → AreWords ws rest
    → LexesFrom text (at + length (written ws)) ls e → LexesFrom text at (lexemes_at at ws ++ ls) e
words-lex [] text before rest at ls e stands are whole = let P : ℕ → Type 0 = λ i. LexesFrom text i ls e in let none : at + 0 ≡ at = omega arith in subst P none whole
words-lex (w ∷ ws) text before rest at ls e (is, place) (word, end, are) whole =
    let first : Stands text before (w.gap ++ w.text) (written ws ++ rest) at =
    (is ∙ ap (λ xs. before ++ (xs ++ rest)) (sym (append_assoc w.gap w.text (written ws))) ∙ ap (λ xs. before ++ xs) (append_assoc (w.gap ++ w.text) (written ws) rest), place) in
    let behind : Stands text (before ++ (w.gap ++ w.text)) (written ws) rest (at + length w.gap + length w.text) =
    (first.0 ∙ sym (append_assoc before (w.gap ++ w.text) (written ws ++ rest)), omega (arith, place, length-append before (w.gap ++ w.text), length-append w.gap w.text)) in
    let same : at + length (written (w ∷ ws)) ≡ at + length w.gap + length w.text + length (written ws) =
    omega (arith, length-append w.gap (w.text ++ written ws), length-append w.text (written ws)) in
    let P : ℕ → Type 0 = λ i. LexesFrom text i ls e in
    (next-word text before (written ws ++ rest) w at first word end, words-lex ws text (before ++ (w.gap ++ w.text)) rest (at + length w.gap + length w.text) ls e behind are (subst P same whole))

pub words-are-lexemes : WordsAreLexemes
words-are-lexemes before rest ws ls e are whole = words-lex ws (before ++ (written ws ++ rest)) before rest (length before) ls e (refl, refl) are whole
