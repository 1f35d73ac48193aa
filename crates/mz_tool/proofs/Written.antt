-- What is written of the phrases is the sample's text.
use Rattle.std.proofs.Common.{ℕ, zero, suc, ◌≡◌, ◌≤◌, ◌+◌, ◌++◌, ◌∙◌, List, [], ◌∷◌, Bool, cond, false, refl, ap, sym, subst, arith, codes, decimal, append_assoc, append-nil}
use Rattle.std.proofs.lemmas.Bool.{ne_eqb}
use Rattle.mz_logic_theory.specs.Examples.{y_and_q}
use Rattle.mz_mmu_theory.specs.TextOf.{TextOf}
use Rattle.mz_decompile_text.specs.Phrases.{Phrase, Phrases, a_word, a_list, no_phrases, one_more, written, all_written, lines_of}
use Rattle.mz_decompile_text.specs.Phrasing.{Vocabulary, list_of, statement, expression, binders, proof}
use Rattle.mz_tool.specs.Samples.{text_head, body_expression, body_proof as proof_text, stated_definition, proved_theorem, proved_generalization, sample_text}
use Rattle.mz_tool.proofs.Declarations.{body}
use Rattle.mz_tool.proofs.Statements.{d_name, g_name, body_proof, d_statement, g_statement, sample_statements}
use Rattle.mz_tool.proofs.Vocabulary.{vocabulary, ab, xp, t-is}
use Rattle.mz_tool.proofs.Pieces.{joined, pieces_then, then-pieces}
use Rattle.mz_tool.proofs.Read.{t_phrase, numbered_phrases, sample_phrases, phrases-read}

-- ---- a phrase with what stands behind it

abbrev mutual
  phrase_then : Phrase → List ℕ → List ℕ
  phrase_then (a_word w) rest = w ++ rest
  phrase_then (a_list ps) rest = 40 ∷ phrases_then ps (41 ∷ rest)

  phrases_then : Phrases → List ℕ → List ℕ
  phrases_then no_phrases rest = rest
  phrases_then (one_more p no_phrases) rest = phrase_then p rest
  phrases_then (one_more p (one_more q qs)) rest = phrase_then p (32 ∷ phrases_then (one_more q qs) rest)

mutual
  then-phrase : (p : Phrase) (rest : List ℕ) → phrase_then p rest ≡ written p ++ rest
  then-phrase (a_word w) rest = refl
  then-phrase (a_list ps) rest = ap (λ (bs : List ℕ). 40 ∷ bs) (then-phrases ps (41 ∷ rest) ∙ sym (append_assoc (all_written ps) (41 ∷ []) rest))

  then-phrases : (ps : Phrases) (rest : List ℕ) → phrases_then ps rest ≡ all_written ps ++ rest
  then-phrases no_phrases rest = refl
  then-phrases (one_more p no_phrases) rest = then-phrase p rest
  then-phrases (one_more p (one_more q qs)) rest =
      then-phrase p (32 ∷ phrases_then (one_more q qs) rest)
      ∙ ap (λ (bs : List ℕ). written p ++ 32 ∷ bs) (then-phrases (one_more q qs) rest)
      ∙ sym (append_assoc (written p) (32 ∷ all_written (one_more q qs)) rest)

-- ---- the lines of number k

abbrev v : Vocabulary
v = vocabulary ab

body-text : (k : ℕ) (tail : List ℕ) → body_expression k ++ tail ≡ phrase_then (expression v (body k)) tail
body-text zero tail = refl
body-text (suc j) tail =
    ap (λ (b : Bool). cond b (codes "(im a (im a a))") (joined (codes "(im a (d") (decimal (suc j) ∷ codes " a))" ∷ [])) ++ tail) (ne_eqb (suc j) 0 (λ e. absurd (omega (arith, e))))
    ∙ then-pieces (codes "(im a (d") (decimal (suc j) ∷ codes " a))" ∷ []) tail

d-text : (k : ℕ) (tail : List ℕ) → stated_definition k (suc k) ++ tail ≡ phrase_then (statement v (d_statement k)) (10 ∷ tail)
d-text k tail =
    then-pieces (codes "(def d") (decimal (suc k) ∷ codes " ((a wff ())) (wff ()) () " ∷ body_expression k ∷ codes ")\n" ∷ []) tail
    ∙ ap (λ (bs : List ℕ). codes "(def d" ++ (decimal (suc k) ++ (codes " ((a wff ())) (wff ()) () " ++ bs))) (body-text k (codes ")\n" ++ tail))

-- a citation of the theorem before, by its name
abbrev previous : ℕ → List ℕ → Phrase
previous j w =
    let p : Phrase = list_of (a_word (d_name j) ∷ a_word (codes "a") ∷ []) in
    list_of (a_word (codes "ax_mp") ∷ list_of (p ∷ list_of (a_word (codes "im") ∷ a_word (codes "a") ∷ p ∷ []) ∷ [])
    ∷ list_of (a_word (codes "ax_1") ∷ list_of (p ∷ a_word (codes "a") ∷ []) ∷ []) ∷ list_of (a_word w ∷ list_of (a_word (codes "a") ∷ []) ∷ []) ∷ [])

proof-text : (k : ℕ) (tail : List ℕ) → proof_text k ++ tail ≡ phrase_then (proof v 0 (body_proof k)) tail
proof-text zero tail = refl
proof-text (suc j) tail =
    let ps : List (List ℕ) = decimal (suc j) ∷ codes " a) (im a (d" ∷ decimal (suc j) ∷ codes " a))) (ax_1 ((d" ∷ decimal (suc j) ∷ codes " a) a)) (t" ∷ decimal (suc j) ∷ codes " (a)))" ∷ [] in
    ap (λ (b : Bool). cond b (codes "(ax_1 (a a))") (joined (codes "(ax_mp ((d") ps) ++ tail) (ne_eqb (suc j) 0 (λ e. absurd (omega (arith, e))))
    ∙ then-pieces (codes "(ax_mp ((d") ps tail ∙ ap (λ (w : List ℕ). phrase_then (previous j w) tail) (t-is j)

t-text : (k : ℕ) (tail : List ℕ) → proved_theorem k (suc k) ++ tail ≡ phrase_then (t_phrase k) (10 ∷ tail)
t-text k tail =
    let i : List ℕ = decimal (suc k) in
    let front : List ℕ → List ℕ = pieces_then (codes "(theorem t" ∷ i ∷ codes " ((a wff ())) () (d" ∷ i ∷ codes " a) () (:conv (d" ∷ i ∷ codes " a) (:unfold d" ∷ i ∷ codes " (a) () " ∷ []) in
    then-pieces (codes "(theorem t") (i ∷ codes " ((a wff ())) () (d" ∷ i ∷ codes " a) () (:conv (d" ∷ i ∷ codes " a) (:unfold d" ∷ i ∷ codes " (a) () " ∷ body_expression k ∷ codes ") "
    ∷ proof_text k ∷ codes "))\n" ∷ []) tail
    ∙ ap (λ (bs : List ℕ). front (body_expression k ++ (codes ") " ++ bs))) (proof-text k (codes "))\n" ++ tail))
    ∙ ap front (body-text k (codes ") " ++ phrase_then (proof v 0 (body_proof k)) (codes "))\n" ++ tail)))

-- the second theorem, which cites the first by its name
abbrev second : ℕ → List ℕ → Phrase
second k w =
    let p : Phrase = list_of (a_word (d_name k) ∷ a_word (codes "p") ∷ []) in
    list_of (a_word (codes "theorem") ∷ a_word (g_name k) ∷ a_list (binders (vocabulary xp) 0 y_and_q) ∷ a_list no_phrases
    ∷ list_of (a_word (codes "all") ∷ a_word (codes "x") ∷ p ∷ []) ∷ a_list no_phrases
    ∷ list_of (a_word (codes "ax_gen") ∷ list_of (a_word (codes "x") ∷ p ∷ []) ∷ list_of (a_word w ∷ list_of (a_word (codes "p") ∷ []) ∷ []) ∷ []) ∷ [])

g-text : (k : ℕ) (tail : List ℕ) → proved_generalization (suc k) ++ tail ≡ phrase_then (statement (vocabulary xp) (g_statement k)) (10 ∷ tail)
g-text k tail =
    let i : List ℕ = decimal (suc k) in
    then-pieces (codes "(theorem g") (i ∷ codes " ((x nat) (p wff (x))) () (all x (d" ∷ i ∷ codes " p)) () (ax_gen (x (d" ∷ i ∷ codes " p)) (t" ∷ i ∷ codes " (p))))\n" ∷ []) tail
    ∙ ap (λ (w : List ℕ). phrase_then (second k w) (10 ∷ tail)) (t-is k)

-- ---- all of them

three-text : (k m : ℕ) → lines_of (numbered_phrases k (suc m))
    ≡ stated_definition k (suc k) ++ (proved_theorem k (suc k) ++ (proved_generalization (suc k) ++ lines_of (numbered_phrases (suc k) m)))
three-text k m =
    let rest : List ℕ = lines_of (numbered_phrases (suc k) m) in
    let third = g-text k rest ∙ then-phrase (statement (vocabulary xp) (g_statement k)) (10 ∷ rest) in
    let after_second : List ℕ = proved_generalization (suc k) ++ rest in
    let second_ = t-text k after_second ∙ then-phrase (t_phrase k) (10 ∷ after_second) in
    let after_first : List ℕ = proved_theorem k (suc k) ++ after_second in
    let first_ = d-text k after_first ∙ then-phrase (statement v (d_statement k)) (10 ∷ after_first) in
    sym (first_ ∙ ap (λ (bs : List ℕ). written (statement v (d_statement k)) ++ 10 ∷ bs) second_
    ∙ ap (λ (bs : List ℕ). written (statement v (d_statement k)) ++ 10 ∷ (written (t_phrase k) ++ 10 ∷ bs)) third)

numbered-text : (k m : ℕ) → sample_text k ++ lines_of (numbered_phrases k m) ≡ sample_text (k + m)
numbered-text k zero = let e : k ≡ k + 0 = omega arith in append-nil (sample_text k) ∙ ap sample_text e
numbered-text k (suc m) =
    let e : suc k + m ≡ k + suc m = omega arith in
    ap (λ (bs : List ℕ). sample_text k ++ bs) (three-text k m)
    ∙ sym (then-pieces (sample_text k) (stated_definition k (suc k) ∷ proved_theorem k (suc k) ∷ proved_generalization (suc k) ∷ []) (lines_of (numbered_phrases (suc k) m)))
    ∙ numbered-text (suc k) m ∙ ap sample_text e

head-text : (n : ℕ) → lines_of (sample_phrases n) ≡ text_head ++ lines_of (numbered_phrases 0 n)
head-text n = refl

pub sample-read : (n : ℕ) → n ≤ 10000 → TextOf false (sample_text n) (sample_statements n)
sample-read n few =
    let e : 0 + n ≡ n = omega arith in
    subst (λ (text : List ℕ). TextOf false text (sample_statements n)) (head-text n ∙ numbered-text 0 n ∙ ap sample_text e) (phrases-read n few)
