-- The samples' specifications declare what their texts do.
use Rattle.std.proofs.Common.{ℕ, zero, suc, ◌≡◌, ◌<◌, ◌≤◌, ◌+◌, ◌++◌, ◌∙◌, List, [], ◌∷◌, Bool, cond, refl, ap, sym, subst, arith, codes, decimal, append_assoc, append-nil}
use Rattle.std.proofs.lemmas.Bool.{ne_eqb}
use Rattle.mz_base.specs.Names.{IsNew}
use Rattle.mz_base.proofs.Offered.{new-more}
use Rattle.mz_logic_theory.specs.Tree.{var}
use Rattle.mz_logic_theory.specs.Declaration.{Declaration, sort_decl, term_decl, assertion_decl}
use Rattle.mz_logic_theory.specs.Examples.{im_declared, ax_1, ax_mp}
use Rattle.mz_spec_theory.specs.State.{State, nothing, entries_of}
use Rattle.mz_spec_theory.specs.Spec.{SpecOf}
use Rattle.mz_spec_theory.proofs.Offered.{entries-decls}
use Rattle.mz_prefix.specs.Tokens.{Word, written}
use Rattle.mz_prefix.specs.Lines.{Tokens, spaced, math_text, line_words}
use Rattle.mz_prefix.specs.Prefix.{IsShort}
use Rattle.mz_prefix.specs.NamedDeclarations.{IsPrintable, line_of_decl, formula_of}
use Rattle.mz_tool.specs.Samples.{specification_head, body_formula, declared_definition, declared_theorem, declared_generalization, sample_specification}
use Rattle.mz_tool.proofs.Declarations.{all_declared, ax_gen, all, d, d_number, body, d_declared, t_stated, g_stated}
use Rattle.mz_tool.proofs.Environment.{Stands, env_d, env_t, env_g, stands-next}
use Rattle.mz_tool.proofs.Legal.{d-legal, t-legal, g-legal}
use Rattle.mz_tool.proofs.Statements.{head_declarations, d_name, t_name, g_name}
use Rattle.mz_tool.proofs.Stated.{env2, env3, env4, env5, env6, head-stands, sort-stated, im-stated, all-stated, ax-1-stated, ax-mp-stated, ax-gen-stated}
use Rattle.mz_tool.proofs.Vocabulary.{ab, xp, ab-are, xp-are, sort_name, term_name, numbered-name, other-heads, other-number}
use Rattle.mz_tool.proofs.Read.{none-rising, one-ascends, two-ascend, nat-ascend}
use Rattle.mz_tool.proofs.Pieces.{joined, pieces_then, then-pieces}
use Rattle.mz_tool.proofs.Lexed.{row_text, rows_text, next_row, rows_lexemes, rows-from}
use Rattle.mz_tool.proofs.Reading.{spoken, Ready, ready-nothing, plain-read, AllRead, none-read, one-more-read}
use Rattle.mz_tool.proofs.Grouped.{im_words, ax_1_words, ax_mp_words, im-read, ax-1-read, ax-mp-read}
use Rattle.mz_tool.proofs.Agreeing.{numbered_declarations, sample_declarations}

-- ---- rows

abbrev row : (ℕ → List ℕ) → List ℕ → Declaration → List Word
row f name x = line_words (line_of_decl (spoken f) name x)

abbrev d_row : ℕ → List Word
d_row k = row ab (d_name k) (term_decl (d_declared k))

abbrev t_row : ℕ → List Word
t_row k = row ab (t_name k) (assertion_decl (t_stated k))

abbrev g_row : ℕ → List Word
g_row k = row xp (g_name k) (assertion_decl (g_stated k))

abbrev numbered_rows : ℕ → ℕ → List (List Word)
numbered_rows k zero = []
numbered_rows k (suc m) = d_row k ∷ t_row k ∷ g_row k ∷ numbered_rows (suc k) m

abbrev sample_rows : ℕ → List (List Word)
sample_rows n =
    row ab (codes "wff") (sort_decl (record { 0 = 4 })) ∷ row ab (codes "nat") (sort_decl (record { 0 = 0 })) ∷ im_words ∷ row xp (codes "all") (term_decl all_declared)
    ∷ ax_1_words ∷ ax_mp_words ∷ row xp (codes "ax_gen") (assertion_decl ax_gen) ∷ numbered_rows 0 n

-- ---- what is printed of number k

body-short : (k : ℕ) → IsShort (formula_of (spoken ab) (body k)) (body k)
body-short zero = record { few = omega arith; low = omega arith }
body-short (suc j) = record { few = omega arith; low = omega arith }

other-term : (k : ℕ) → k ≤ 10000 → (t : ℕ) → t < d_number k → term_name t ≡ d_name k → ⊥
other-term k small zero less is = other-heads 105 100 _ _ (λ e. absurd (omega (arith, e))) is
other-term k small (suc zero) less is = other-heads 97 100 _ _ (λ e. absurd (omega (arith, e))) is
other-term k small (suc (suc j)) less is = other-number 100 j k (omega (arith, less, small)) small (λ e. absurd (omega (arith, less, e))) is

-- the names from number k on are new
record AreNew (k : ℕ) (used : List (List ℕ)) : Type 0 where
  new_t : (i : ℕ) → k ≤ i → i ≤ 10000 → IsNew used (t_name i)
  new_g : (i : ℕ) → k ≤ i → i ≤ 10000 → IsNew used (g_name i)

module _ (k : ℕ) (small : k ≤ 10000) (env : List Declaration) (stands : Stands k env) (used : List (List ℕ)) (new : AreNew k used) where
  itself : k ≤ k
  itself = omega arith

  d-printable : IsPrintable (spoken ab) 2 env used (record { name = d_name k; decl = term_decl (d_declared k) })
  d-printable = record {
    identifier = numbered-name 100 k refl refl small;
    legal = d-legal k env stands;
    new = (ap term_name (sym stands.many_terms), (λ t less is. other-term k small t (subst (λ (n : ℕ). t < n) stands.many_terms less) is), λ x less is. ab-are.apart x (d_number k) is);
    within = (omega arith, one-ascends, none-rising, body-short k);
  }

  t-printable : IsPrintable (spoken ab) 2 (env_d env k) used (record { name = t_name k; decl = assertion_decl (t_stated k) })
  t-printable = record {
    identifier = numbered-name 116 k refl refl small;
    legal = t-legal k env stands;
    new = new.new_t k itself small;
    within = (omega arith, one-ascends, tt, record { few = omega arith; low = omega arith });
  }

  other-letter : (i j : ℕ) → t_name i ≡ g_name j → ⊥
  other-letter i j is = other-heads 116 103 _ _ (λ e. absurd (omega (arith, e))) is

  g-printable : IsPrintable (spoken xp) 2 (env_t env k) (used ++ t_name k ∷ []) (record { name = g_name k; decl = assertion_decl (g_stated k) })
  g-printable = record {
    identifier = numbered-name 103 k refl refl small;
    legal = g-legal k env stands;
    new = new-more used (t_name k) (g_name k) (new.new_g k itself small) (other-letter k k);
    within = (omega arith, nat-ascend, tt, record { few = omega arith; low = omega arith });
  }

  further : (i : ℕ) → suc k ≤ i → k ≡ i → ⊥
  further i less same = absurd (omega (arith, less, same))

  new-next : AreNew (suc k) ((used ++ t_name k ∷ []) ++ g_name k ∷ [])
  new-next = record {
    new_t = λ i less low. new-more (used ++ t_name k ∷ []) (g_name k) (t_name i)
        (new-more used (t_name k) (t_name i) (new.new_t i (omega (arith, less)) low) (other-number 116 k i small low (further i less))) (λ is. other-letter i k (sym is));
    new_g = λ i less low. new-more (used ++ t_name k ∷ []) (g_name k) (g_name i)
        (new-more used (t_name k) (g_name i) (new.new_g i (omega (arith, less)) low) (other-letter k i)) (other-number 103 k i small low (further i less));
  }

numbered-read : (k m : ℕ) → k + m ≤ 10000 → (σ : State) (p : ℕ) (env : List Declaration) (used : List (List ℕ)) → Stands k env → AreNew k used → Ready σ env used
    → AllRead σ p (numbered_rows k m) env (numbered_declarations k m)
numbered-read k zero few σ p env used stands new ready = none-read σ p env used ready
numbered-read k (suc m) few σ p env used stands new ready =
    let small : k ≤ 10000 = omega (arith, few) in
    let q : ℕ = next_row p (d_row k) in
    let r : ℕ = next_row q (t_row k) in
    let one = plain-read ab ab-are σ env used ready p (d_name k) (term_decl (d_declared k)) (d-printable k small env stands used new) in
    let two_ = plain-read ab ab-are one.state (env_d env k) used one.ready q (t_name k) (assertion_decl (t_stated k)) (t-printable k small env stands used new) in
    let three = plain-read xp xp-are two_.state (env_t env k) (used ++ t_name k ∷ []) two_.ready r (g_name k) (assertion_decl (g_stated k)) (g-printable k small env stands used new) in
    let rest = numbered-read (suc k) m (omega (arith, few)) three.state (next_row r (g_row k)) (env_g env k) ((used ++ t_name k ∷ []) ++ g_name k ∷ []) (stands-next k env stands)
    (new-next k small env stands used new) three.ready in
    one-more-read σ p (d_row k) (t_row k ∷ g_row k ∷ numbered_rows (suc k) m) env used (d_name k) (term_decl (d_declared k))
    (assertion_decl (t_stated k) ∷ assertion_decl (g_stated k) ∷ numbered_declarations (suc k) m) one
    (one-more-read one.state q (t_row k) (g_row k ∷ numbered_rows (suc k) m) (env_d env k) used (t_name k) (assertion_decl (t_stated k))
    (assertion_decl (g_stated k) ∷ numbered_declarations (suc k) m) two_
    (one-more-read two_.state r (g_row k) (numbered_rows (suc k) m) (env_t env k) (used ++ t_name k ∷ []) (g_name k) (assertion_decl (g_stated k))
    (numbered_declarations (suc k) m) three rest))

-- ---- the sorts, the terms and the axioms

abbrev env1 : List Declaration
env1 = sort_decl (record { 0 = 4 }) ∷ []

wff-printable : IsPrintable (spoken ab) 2 [] [] (record { name = codes "wff"; decl = sort_decl (record { 0 = 4 }) })
wff-printable = record { identifier = refl; legal = (sort-stated [] (codes "wff") (record { 0 = 4 })).0; new = (refl, λ i less. absurd (omega arith)); within = omega arith }

nat-printable : IsPrintable (spoken ab) 2 env1 [] (record { name = codes "nat"; decl = sort_decl (record { 0 = 0 }) })
nat-printable = record { identifier = refl; legal = (sort-stated env1 (codes "nat") (record { 0 = 0 })).0; new = (refl, others); within = omega arith }
  where
    others : (i : ℕ) → i < 1 → sort_name i ≡ codes "nat" → ⊥
    others zero less is = other-heads 119 110 _ _ (λ e. absurd (omega (arith, e))) is
    others (suc i) less is = absurd (omega (arith, less))

im-printable : IsPrintable (spoken ab) 2 env2 [] (record { name = codes "im"; decl = term_decl im_declared })
im-printable = record {
  identifier = refl;
  legal = im-stated.0;
  new = (refl, (λ t less. absurd (omega arith)), λ x less is. ab-are.apart x 0 is);
  within = (omega arith, two-ascend, none-rising, tt);
}

all-printable : IsPrintable (spoken xp) 2 env3 [] (record { name = codes "all"; decl = term_decl all_declared })
all-printable = record { identifier = refl; legal = all-stated.0; new = (refl, others, λ x less is. xp-are.apart x 1 is); within = (omega arith, nat-ascend, none-rising, tt) }
  where
    others : (t : ℕ) → t < 1 → term_name t ≡ codes "all" → ⊥
    others zero less is = other-heads 105 97 _ _ (λ e. absurd (omega (arith, e))) is
    others (suc t) less is = absurd (omega (arith, less))

ax-1-printable : IsPrintable (spoken ab) 2 env4 [] (record { name = codes "ax_1"; decl = assertion_decl ax_1 })
ax-1-printable = record { identifier = refl; legal = ax-1-stated.0; new = refl; within = (omega arith, two-ascend, tt, record { few = omega arith; low = omega arith }) }

ax-mp-printable : IsPrintable (spoken ab) 2 env5 (codes "ax_1" ∷ []) (record { name = codes "ax_mp"; decl = assertion_decl ax_mp })
ax-mp-printable = record {
  identifier = refl;
  legal = ax-mp-stated.0;
  new = refl;
  within = (omega arith, two-ascend, (record { few = omega arith; low = omega arith }, (record { few = omega arith; low = omega arith }, tt)), record { few = omega arith; low = omega arith });
}

ax-gen-printable : IsPrintable (spoken xp) 2 env6 (codes "ax_1" ∷ codes "ax_mp" ∷ []) (record { name = codes "ax_gen"; decl = assertion_decl ax_gen })
ax-gen-printable = record {
  identifier = refl;
  legal = ax-gen-stated.0;
  new = refl;
  within = (omega arith, nat-ascend, (record { few = omega arith; low = omega arith }, tt), record { few = omega arith; low = omega arith });
}

first-new : AreNew 0 (codes "ax_1" ∷ codes "ax_mp" ∷ codes "ax_gen" ∷ [])
first-new = record { new_t = λ i less low. refl; new_g = λ i less low. refl }

sample-is-read : (n : ℕ) → n ≤ 10000 → AllRead nothing 0 (sample_rows n) [] (sample_declarations n)
sample-is-read n few =
    let p1 : ℕ = next_row 0 (row ab (codes "wff") (sort_decl (record { 0 = 4 }))) in
    let p2 : ℕ = next_row p1 (row ab (codes "nat") (sort_decl (record { 0 = 0 }))) in
    let p3 : ℕ = next_row p2 im_words in
    let p4 : ℕ = next_row p3 (row xp (codes "all") (term_decl all_declared)) in
    let p5 : ℕ = next_row p4 ax_1_words in
    let p6 : ℕ = next_row p5 ax_mp_words in
    let p7 : ℕ = next_row p6 (row xp (codes "ax_gen") (assertion_decl ax_gen)) in
    let r1 = plain-read ab ab-are nothing [] [] ready-nothing 0 (codes "wff") (sort_decl (record { 0 = 4 })) wff-printable in
    let r2 = plain-read ab ab-are r1.state env1 [] r1.ready p1 (codes "nat") (sort_decl (record { 0 = 0 })) nat-printable in
    let r3 = im-read r2.state env2 [] r2.ready p2 im-printable in
    let r4 = plain-read xp xp-are r3.state env3 [] r3.ready p3 (codes "all") (term_decl all_declared) all-printable in
    let r5 = ax-1-read r4.state env4 [] r4.ready (omega arith) p4 ax-1-printable in
    let r6 = ax-mp-read r5.state env5 (codes "ax_1" ∷ []) r5.ready (omega arith) p5 ax-mp-printable in
    let r7 = plain-read xp xp-are r6.state env6 (codes "ax_1" ∷ codes "ax_mp" ∷ []) r6.ready p6 (codes "ax_gen") (assertion_decl ax_gen) ax-gen-printable in
    let rest = numbered-read 0 n (omega (arith, few)) r7.state p7 head_declarations (codes "ax_1" ∷ codes "ax_mp" ∷ codes "ax_gen" ∷ []) head-stands first-new r7.ready in
    let a7 = one-more-read r6.state p6 _ _ env6 _ _ _ _ r7 rest in
    let a6 = one-more-read r5.state p5 _ _ env5 _ _ _ _ r6 a7 in
    let a5 = one-more-read r4.state p4 _ _ env4 _ _ _ _ r5 a6 in
    let a4 = one-more-read r3.state p3 _ _ env3 _ _ _ _ r4 a5 in
    let a3 = one-more-read r2.state p2 _ _ env2 _ _ _ _ r3 a4 in
    let a2 = one-more-read r1.state p1 _ _ env1 _ _ _ _ r2 a3 in
    one-more-read nothing 0 _ _ [] _ _ _ _ r1 a2

-- ---- the text

-- words with what stands behind them
abbrev words_then : List Word → List ℕ → List ℕ
words_then [] rest = rest
words_then (w ∷ ws) rest = w.gap ++ (w.text ++ words_then ws rest)

then-words : (ws : List Word) (rest : List ℕ) → written ws ++ rest ≡ words_then ws rest
then-words [] rest = refl
then-words (w ∷ ws) rest =
    append_assoc w.gap (w.text ++ written ws) rest ∙ ap (λ (bs : List ℕ). w.gap ++ bs) (append_assoc w.text (written ws) rest ∙ ap (λ (bs : List ℕ). w.text ++ bs) (then-words ws rest))

row-then : (ws : List Word) (tail : List ℕ) → row_text ws ++ tail ≡ words_then ws (10 ∷ tail)
row-then ws tail = append_assoc (written ws) (10 ∷ []) tail ∙ then-words ws (10 ∷ tail)

abbrev tokens_then : Tokens → List ℕ → List ℕ
tokens_then [] rest = rest
tokens_then (t ∷ ts) rest = t ++ (32 ∷ tokens_then ts rest)

then-tokens : (ts : Tokens) (rest : List ℕ) → spaced ts ++ rest ≡ tokens_then ts rest
then-tokens [] rest = refl
then-tokens (t ∷ ts) rest = append_assoc t (32 ∷ spaced ts) rest ∙ ap (λ (bs : List ℕ). t ++ (32 ∷ bs)) (then-tokens ts rest)

then-math : (ts : Tokens) (rest : List ℕ) → math_text ts ++ rest ≡ 36 ∷ 32 ∷ tokens_then ts (36 ∷ rest)
then-math ts rest = ap (λ (bs : List ℕ). 36 ∷ 32 ∷ bs) (append_assoc (spaced ts) (36 ∷ []) rest ∙ then-tokens ts (36 ∷ rest))

body-text : (k : ℕ) (rest : List ℕ) → body_formula k ++ (32 ∷ rest) ≡ tokens_then (formula_of (spoken ab) (body k)) rest
body-text zero rest = refl
body-text (suc j) rest =
    ap (λ (b : Bool). cond b (codes "im a ( im a a )") (joined (codes "im a ( d") (decimal (suc j) ∷ codes " a )" ∷ [])) ++ (32 ∷ rest)) (ne_eqb (suc j) 0 (λ e. absurd (omega (arith, e))))
    ∙ then-pieces (codes "im a ( d") (decimal (suc j) ∷ codes " a )" ∷ []) (32 ∷ rest)

d-text : (k : ℕ) (tail : List ℕ) → row_text (d_row k) ++ tail ≡ declared_definition k (suc k) ++ tail
d-text k tail =
    let front : List ℕ → List ℕ = pieces_then (codes "def d" ∷ decimal (suc k) ∷ codes " (a: wff): wff = " ∷ []) in
    row-then (d_row k) tail ∙ ap front (then-math (formula_of (spoken ab) (body k)) (59 ∷ 10 ∷ tail))
    ∙ sym (then-pieces (codes "def d") (decimal (suc k) ∷ codes " (a: wff): wff = $ " ∷ body_formula k ∷ codes " $;\n" ∷ []) tail
    ∙ ap (λ (bs : List ℕ). front (codes "$ " ++ bs)) (body-text k (36 ∷ 59 ∷ 10 ∷ tail)))

t-text : (k : ℕ) (tail : List ℕ) → row_text (t_row k) ++ tail ≡ declared_theorem (suc k) ++ tail
t-text k tail =
    let front : List ℕ → List ℕ = pieces_then (codes "theorem t" ∷ decimal (suc k) ∷ codes " (a: wff): " ∷ []) in
    row-then (t_row k) tail ∙ ap front (then-math (formula_of (spoken ab) (d (d_number k) (var 0))) (59 ∷ 10 ∷ tail))
    ∙ sym (then-pieces (codes "theorem t") (decimal (suc k) ∷ codes " (a: wff): $ d" ∷ decimal (suc k) ∷ codes " a $;\n" ∷ []) tail)

g-text : (k : ℕ) (tail : List ℕ) → row_text (g_row k) ++ tail ≡ declared_generalization (suc k) ++ tail
g-text k tail =
    let front : List ℕ → List ℕ = pieces_then (codes "theorem g" ∷ decimal (suc k) ∷ codes " {x: nat} (p: wff x): " ∷ []) in
    row-then (g_row k) tail ∙ ap front (then-math (formula_of (spoken xp) (all (var 0) (d (d_number k) (var 1)))) (59 ∷ 10 ∷ tail))
    ∙ sym (then-pieces (codes "theorem g") (decimal (suc k) ∷ codes " {x: nat} (p: wff x): $ all x ( d" ∷ decimal (suc k) ∷ codes " p ) $;\n" ∷ []) tail)

numbered-text : (k m : ℕ) → sample_specification k ++ rows_text (numbered_rows k m) ≡ sample_specification (k + m)
numbered-text k zero = let e : k ≡ k + 0 = omega arith in append-nil (sample_specification k) ∙ ap sample_specification e
numbered-text k (suc m) =
    let e : suc k + m ≡ k + suc m = omega arith in
    let rest : List ℕ = rows_text (numbered_rows (suc k) m) in
    ap (λ (bs : List ℕ). sample_specification k ++ (row_text (d_row k) ++ (row_text (t_row k) ++ bs))) (g-text k rest)
    ∙ ap (λ (bs : List ℕ). sample_specification k ++ (row_text (d_row k) ++ bs)) (t-text k (declared_generalization (suc k) ++ rest))
    ∙ ap (λ (bs : List ℕ). sample_specification k ++ bs) (d-text k (declared_theorem (suc k) ++ (declared_generalization (suc k) ++ rest)))
    ∙ sym (then-pieces (sample_specification k) (declared_definition k (suc k) ∷ declared_theorem (suc k) ∷ declared_generalization (suc k) ∷ []) rest)
    ∙ numbered-text (suc k) m ∙ ap sample_specification e

head-text : (n : ℕ) → rows_text (sample_rows n) ≡ specification_head ++ rows_text (numbered_rows 0 n)
head-text n = refl

pub sample-specified : (n : ℕ) → n ≤ 10000 → SpecOf (sample_specification n) (sample_declarations n)
sample-specified n few =
    let all_ = sample-is-read n few in
    let e : 0 + n ≡ n = omega arith in
    subst (λ (text : List ℕ). SpecOf text (sample_declarations n)) (head-text n ∙ numbered-text 0 n ∙ ap sample_specification e) (
      entries_of all_.last.env all_.last.spans,
      (rows_lexemes 0 (sample_rows n), all_.statements, all_.last, rows-from (sample_rows n) [] all_.are, all_.stand, refl),
      sym (entries-decls all_.last.env all_.last.spans all_.spans ∙ all_.env_is),
    )
