-- The tokens of plain lines end where they are written, so that lines are read again.
use Rattle.std.proofs.Common.{◌≡◌, ◌∙◌, ◌+◌, ◌++◌, ◌∷◌, [], ℕ, List, Bool, length, true, false, ap, sym, refl, subst, arith, append_assoc, append-nil, length-append, Some, None, Option}
use Rattle.std.specs.Prelude.{codes}
use Rattle.std.specs.List.{list_all}
use Rattle.std.proofs.lemmas.Bool.{and_parts, and_from, not-true}
use Rattle.std.proofs.lemmas.List.Folds.{list_all-append}
use Rattle.mz_base.specs.Identifiers.{is_name}
use Rattle.mz_lex.specs.Kinds.{is_math_byte, is_space, ends_math, is_math}
use Rattle.mz_lex.specs.Lexemes.{LexesFrom, Lexeme, IsBlank}
use Rattle.mz_lex.specs.declared.token.TokenKind.TheVariants as kinds
use Rattle.mz_spec_theory.specs.declared.kind.Kind.{Kind}
use Rattle.mz_spec_theory.specs.declared.kind.Kind.TheVariants.{Term, Assert, Definition, Notation}
use Rattle.mz_spec_theory.specs.declared.kind.AssertKind.TheVariants.{Axiom, Theorem}
use Rattle.mz_spec_theory.specs.Statement.{Modifiers, keyword_of, opening_of, closing_of}
use Rattle.mz_prefix.specs.Tokens.{Word, written, stop, IsWord, AreWords, EndsBefore}
use Rattle.mz_prefix.specs.Lines.{PlainType, PlainBinder, Tokens, Line, sort_line, term_line, assert_line, definition_line, mark, spaced_mark, spaced_name, spaced, math_text, math_word, dep_words, type_words, dot_words, opening_words, naming_words, binder_words, binders_words, head_words, colon_words, end_words, hyps_words, body_words, modifier_names, sort_keywords, keyword_words, sort_words, line_words, line_text, lines_text, next_line}
use Rattle.mz_prefix.specs.Plain.{AreNames, is_token_byte, AreTokens, IsPlainType, IsPlainBinder, ArePlainBinders, AreFormulas, IsPlainBody, IsPlain, ArePlain, lines_lexemes}
use Rattle.mz_prefix.specs.PrintLaws.{LinesLex}
use Rattle.mz_prefix.proofs.Lexing.{words-are-lexemes, blank-then, via-spaces}

-- ---- tokens one after the other

pub written-append : (ws vs : List Word) → written (ws ++ vs) ≡ written ws ++ written vs
written-append [] vs = refl
written-append (w ∷ ws) vs = ap (λ xs. w.gap ++ (w.text ++ xs)) (written-append ws vs) ∙ ap (λ xs. w.gap ++ xs) (sym (append_assoc w.text (written ws) (written vs))) ∙ sym (append_assoc w.gap (w.text ++ written ws) (written vs))

written-rest : (ws vs : List Word) (rest : List ℕ) → written (ws ++ vs) ++ rest ≡ written ws ++ (written vs ++ rest)
written-rest ws vs rest = ap (λ xs. xs ++ rest) (written-append ws vs) ∙ append_assoc (written ws) (written vs) rest

words-append : (ws vs : List Word) (rest : List ℕ) → AreWords ws (written vs ++ rest) → AreWords vs rest → AreWords (ws ++ vs) rest
words-append [] vs rest a b = b
words-append (w ∷ ws) vs rest (word, end, a) b =
    let P : List ℕ → Type 0 = λ xs. EndsBefore w.kind xs in (word, subst P (sym (written-rest ws vs rest)) end, words-append ws vs rest a b)

-- a name that stands before this ends there
abbrev Ends : List ℕ → Type 0
Ends rest = EndsBefore kinds.Name rest

named : (gap n : List ℕ) → list_all is_space gap ≡ true → is_name n ≡ true → IsWord (record { gap = gap; kind = kinds.Name; text = n })
named gap [] spaces is = (spaces, is, refl)
named gap (c ∷ cs) spaces is = (spaces, is, not-true _ (and_parts _ _ is).1)

-- ---- types and binders

deps-end : (ds : List (List ℕ)) (rest : List ℕ) → Ends rest → Ends (written (dep_words ds) ++ rest)
deps-end [] rest end = end
deps-end (d ∷ ds) rest end = refl

deps-are : (ds : List (List ℕ)) (rest : List ℕ) → AreNames ds → Ends rest → AreWords (dep_words ds) rest
deps-are [] rest names end = tt
deps-are (d ∷ ds) rest names end = (named (codes " ") d refl names.0, deps-end ds rest end, deps-are ds rest names.1 end)

type-is : (t : PlainType) (rest : List ℕ) → IsPlainType t → Ends rest → AreWords (type_words t) rest
type-is t rest plain end = (named (codes " ") t.sort refl plain.0, deps-end t.deps rest end, deps-are t.deps rest plain.1 end)

any-symbol : (rest : List ℕ) → EndsBefore kinds.Symbol rest
any-symbol [] = tt
any-symbol (c ∷ cs) = refl

opening-is : (bound dummy : Bool) (rest : List ℕ) → AreWords (spaced_mark (opening_of bound) ∷ dot_words dummy) rest
opening-is true true rest = ((refl, refl, refl), refl, ((refl, refl, refl), any-symbol rest, tt))
opening-is true false rest = ((refl, refl, refl), any-symbol rest, tt)
opening-is false true rest = ((refl, refl, refl), refl, ((refl, refl, refl), any-symbol rest, tt))
opening-is false false rest = ((refl, refl, refl), any-symbol rest, tt)

closing-is : (bound : Bool) (rest : List ℕ) → AreWords (mark (closing_of bound) ∷ []) rest
closing-is true rest = ((refl, refl, refl), any-symbol rest, tt)
closing-is false rest = ((refl, refl, refl), any-symbol rest, tt)

closing-ends : (bound : Bool) (rest : List ℕ) → Ends (written (mark (closing_of bound) ∷ []) ++ rest)
closing-ends true rest = refl
closing-ends false rest = refl

binder-is : (b : PlainBinder) (rest : List ℕ) → IsPlainBinder b → AreWords (binder_words b) rest
binder-is b rest plain =
    let last : List Word = mark (closing_of b.is_bound) ∷ [] in
    let typed = words-append (type_words b.type) last rest (type-is b.type (written last ++ rest) plain.1 (closing-ends b.is_bound rest)) (closing-is b.is_bound rest) in
    words-append (opening_words b) (naming_words b ++ (type_words b.type ++ last)) rest (opening-is b.is_bound b.is_dummy _)
    (named [] b.name refl plain.0, refl, ((refl, refl, refl), refl, typed))

binders-are : (bs : List PlainBinder) (rest : List ℕ) → ArePlainBinders bs → AreWords (binders_words bs) rest
binders-are [] rest plain = tt
binders-are (b ∷ bs) rest plain = words-append (binder_words b) (binders_words bs) rest (binder-is b _ plain.0) (binders-are bs rest plain.1)

binders-end : (bs : List PlainBinder) (rest : List ℕ) → Ends rest → Ends (written (binders_words bs) ++ rest)
binders-end [] rest end = end
binders-end (b ∷ bs) rest end = refl

keyword-is : (kind : Kind) → is_name (keyword_of kind) ≡ true
keyword-is (Assert Axiom) = refl
keyword-is _ = refl

head-is : (kind : Kind) (n : List ℕ) (bs : List PlainBinder) (vs : List Word) (rest : List ℕ) → is_name n ≡ true → ArePlainBinders bs → AreWords vs rest
    → AreWords (head_words kind n bs ++ (colon_words ++ vs)) rest
head-is kind n bs vs rest is plain are =
    let behind : List ℕ = written (colon_words ++ vs) ++ rest in
    words-append (head_words kind n bs) (colon_words ++ vs) rest
    (named [] (keyword_of kind) refl (keyword-is kind), refl, (named (codes " ") n refl is, binders-end bs behind refl, binders-are bs behind plain))
    ((refl, refl, refl), any-symbol (written vs ++ rest), are)

end-is : (rest : List ℕ) → AreWords end_words rest
end-is rest = ((refl, refl, refl), any-symbol rest, tt)

-- ---- math strings

math-bytes : (ts : Tokens) → AreTokens ts → list_all is_math_byte (spaced ts) ≡ true
math-bytes [] are = refl
math-bytes (t ∷ ts) are =
    list_all-append is_math_byte t (codes " " ++ spaced ts) ∙ and_from _ _ (token-bytes t are.0.1) (math-bytes ts are.1)
  where
    token-bytes : (t : List ℕ) → list_all is_token_byte t ≡ true → list_all is_math_byte t ≡ true
    token-bytes [] all = refl
    token-bytes (c ∷ cs) all = let parts = and_parts (is_token_byte c) (list_all is_token_byte cs) all in and_from _ _ (and_parts _ _ parts.0).0 (token-bytes cs parts.1)

ends-math : (xs : List ℕ) → list_all is_math_byte xs ≡ true → ends_math (xs ++ codes "$") ≡ true
ends-math [] all = refl
ends-math (x ∷ []) all = and_from _ _ (and_parts _ _ all).0 refl
ends-math (x ∷ y ∷ xs) all = let parts = and_parts (is_math_byte x) (list_all is_math_byte (y ∷ xs)) all in and_from _ _ parts.0 (ends-math (y ∷ xs) parts.1)

pub math-is : (ts : Tokens) → AreTokens ts → is_math (math_text ts) ≡ true
math-is ts are = ends-math (32 ∷ spaced ts) (math-bytes ts are)

math-word : (ts : Tokens) → AreTokens ts → IsWord (math_word ts)
math-word ts are = (refl, math-is ts are, refl)

hyps-are : (hs : List Tokens) (vs : List Word) (rest : List ℕ) → AreFormulas hs → AreWords vs rest → AreWords (hyps_words hs ++ vs) rest
hyps-are [] vs rest plain are = are
hyps-are (h ∷ hs) vs rest plain are = (math-word h plain.0, refl, ((refl, refl, refl), any-symbol (written (hyps_words hs ++ vs) ++ rest), hyps-are hs vs rest plain.1 are))

body-ends : (body : Option Tokens) (rest : List ℕ) → Ends (written (body_words body ++ end_words) ++ rest)
body-ends None rest = refl
body-ends (Some ts) rest = refl

body-is : (body : Option Tokens) (rest : List ℕ) → IsPlainBody body → AreWords (body_words body ++ end_words) rest
body-is None rest plain = end-is rest
body-is (Some ts) rest plain = ((refl, refl, refl), refl, (math-word ts plain, refl, end-is rest))

-- ---- sorts

keywords-end : (ks : List (List ℕ)) (rest : List ℕ) → Ends rest → Ends (written (keyword_words (codes " ") ks) ++ rest)
keywords-end [] rest end = end
keywords-end (k ∷ ks) rest end = refl

keywords-are : (gap : List ℕ) (ks : List (List ℕ)) (rest : List ℕ) → list_all is_space gap ≡ true → AreNames ks → Ends rest → AreWords (keyword_words gap ks) rest
keywords-are gap [] rest spaces names end = tt
keywords-are gap (k ∷ ks) rest spaces names end = (named gap k spaces names.0, keywords-end ks rest end, keywords-are (codes " ") ks rest refl names.1 end)

modifier-named : (b : Bool) (k : List ℕ) (ks : List (List ℕ)) → is_name k ≡ true → AreNames ks → AreNames (modifier_names b k ++ ks)
modifier-named true k ks is names = (is, names)
modifier-named false k ks is names = names

keywords-named : (m : Modifiers) → AreNames (sort_keywords m)
keywords-named m =
    modifier-named m.is_pure (codes "pure") _ refl (modifier-named m.is_strict (codes "strict") _ refl
    (modifier-named m.is_provable (codes "provable") _ refl (modifier-named m.is_free (codes "free") _ refl (refl, tt))))

-- ---- lines

pub line-is : (l : Line) (rest : List ℕ) → IsPlain l → AreWords (line_words l) rest
line-is (sort_line m n) rest plain =
    words-append (sort_words m) (spaced_name n ∷ end_words) rest (keywords-are [] (sort_keywords m) _ refl (keywords-named m) refl) (named (codes " ") n refl plain, refl, end-is rest)
line-is (term_line n bs t) rest plain =
    head-is Term n bs (type_words t ++ end_words) rest plain.0 plain.1 (words-append (type_words t) end_words rest (type-is t (written end_words ++ rest) plain.2 refl) (end-is rest))
line-is (assert_line kind n bs hs c) rest plain =
    head-is (Assert kind) n bs (hyps_words hs ++ (math_word c ∷ end_words)) rest plain.0 plain.1 (hyps-are hs (math_word c ∷ end_words) rest plain.2 (math-word c plain.3, refl, end-is rest))
line-is (definition_line n bs t body) rest plain =
    head-is Definition n bs (type_words t ++ (body_words body ++ end_words)) rest plain.0 plain.1
    (words-append (type_words t) (body_words body ++ end_words) rest (type-is t (written (body_words body ++ end_words) ++ rest) plain.2 (body-ends body rest)) (body-is body rest plain.3))

pub stop-is : (p : ℕ) (ws : List Word) → stop p ws ≡ p + length (written ws)
stop-is p [] = omega arith
stop-is p (w ∷ ws) = omega (arith, stop-is (p + length w.gap + length w.text) ws, length-append w.gap (w.text ++ written ws), length-append w.text (written ws))

-- whitespace before the lexemes
pub blank-first : (text : List ℕ) (from at : ℕ) (ls : List Lexeme) → IsBlank text from at → LexesFrom text at ls None → LexesFrom text from ls None
blank-first text from at [] blank end = blank-then text from at (length text) blank end
blank-first text from at (l ∷ ls) blank (next, rest) = (record { blank = blank-then text from at l.from blank next.blank; some = next.some; within = next.within; spelled = next.spelled; kind = next.kind; longest = next.longest }, rest)

lines-from : (ls : List Line) (before : List ℕ) → ArePlain ls → LexesFrom (before ++ lines_text ls) (length before) (lines_lexemes (length before) ls) None
lines-from [] before plain = ([], ap length (append-nil before))
lines-from (l ∷ ls) before plain =
    let ws : List Word = line_words l in
    let newline : List ℕ = codes "\n" in
    let rest : List ℕ = newline ++ lines_text ls in
    let text : List ℕ = before ++ (written ws ++ rest) in
    let p : ℕ = length before + length (written ws) in
    let same : before ++ (line_text l ++ lines_text ls) ≡ text = ap (λ xs. before ++ xs) (append_assoc (written ws) newline (lines_text ls)) in
    let whole : before ++ line_text l ++ lines_text ls ≡ text = append_assoc before (line_text l) (lines_text ls) ∙ same in
    let end : length (before ++ line_text l) ≡ p + 1 = omega (arith, length-append before (line_text l), length-append (written ws) newline) in
    let place : p + 1 ≡ next_line (length before) l = omega (arith, stop-is (length before) ws) in
    let P : List ℕ → Type 0 = λ xs. LexesFrom xs (length (before ++ line_text l)) (lines_lexemes (length (before ++ line_text l)) ls) None in
    let Q : ℕ → Type 0 = λ i. LexesFrom text i (lines_lexemes i ls) None in
    let R : ℕ → Type 0 = λ i. LexesFrom text (p + 1) (lines_lexemes i ls) None in
    let S : List ℕ → Type 0 = λ xs. LexesFrom xs (length before) (lines_lexemes (length before) (l ∷ ls)) None in
    let further = subst R place (subst Q end (subst P whole (lines-from ls (before ++ line_text l) plain.1))) in
    let blank = via-spaces newline text (before ++ written ws) (lines_text ls) p (sym (append_assoc before (written ws) rest), sym (length-append before (written ws))) refl in
    subst S (sym same) (words-are-lexemes before rest ws (lines_lexemes (next_line (length before) l) ls) None (line-is l rest plain.0) (blank-first text p (p + 1) _ blank further))

pub lines-lex : LinesLex
lines-lex ls are = lines-from ls [] are
