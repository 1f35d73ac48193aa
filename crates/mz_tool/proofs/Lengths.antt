-- How long the samples are, up to 10,000 definitions: no number has more than five digits.
use Rattle.std.proofs.Common.{ℕ, zero, suc, ◌≡◌, ◌≤◌, ◌<◌, ◌+◌, ◌*◌, ◌^◌, ◌++◌, ◌∷◌, [], List, Bool, true, false, cond, length, codes, decimal, refl, ap, ◌∙◌, arith, length-append, ◌==◌}
use Rattle.std.proofs.lemmas.Fmt.{length-decimal-le}
use Rattle.mz_tool.specs.Samples.{specification_head, body_formula, declared_definition, declared_theorem, declared_generalization, sample_specification, text_head, body_expression, body_proof, stated_definition, proved_theorem, proved_generalization, sample_text}
use Rattle.mz_tool.proofs.Pieces.{joined}
use Rattle.mz_tool.proofs.Lines.{further-proof}

-- ---- pieces of a line

abbrev total : ℕ → List (List ℕ) → ℕ
total n [] = n
total n (p ∷ ps) = total (n + length p) ps

length-joined : (first : List ℕ) (ps : List (List ℕ)) → length (joined first ps) ≡ total (length first) ps
length-joined first [] = refl
length-joined first (p ∷ ps) = length-joined (first ++ p) ps ∙ ap (λ (n : ℕ). total n ps) (length-append first p)

digits-few : (n : ℕ) → n ≤ 10000 → length (decimal n) ≤ 5
digits-few n small = length-decimal-le 5 n (omega arith) (omega (arith, small)) (omega (arith, small))

one-of-two : (b : Bool) (xs ys : List ℕ) (m : ℕ) → length xs ≤ m → length ys ≤ m → length (cond b xs ys) ≤ m
one-of-two true xs ys m x y = x
one-of-two false xs ys m x y = y

three-more : (first a b c : List ℕ) → length (first ++ a ++ b ++ c) ≡ length first + length a + length b + length c
three-more first a b c = length-joined first (a ∷ b ∷ c ∷ [])

-- ---- the specification

formula-first : length (codes "im a ( im a a )") ≡ 15
formula-first = refl

formula-next : (k : ℕ) → length (codes "im a ( d" ++ decimal k ++ codes " a )") ≡ 8 + length (decimal k) + 4
formula-next k = length-joined (codes "im a ( d") (decimal k ∷ codes " a )" ∷ [])

formula-short : (k : ℕ) → k ≤ 10000 → length (body_formula k) ≤ 17
formula-short k small =
    one-of-two (k == 0) (codes "im a ( im a a )") (codes "im a ( d" ++ decimal k ++ codes " a )") 17 (omega (arith, formula-first))
    (omega (arith, formula-next k, digits-few k small))

definition-length : (k i : ℕ) → length (declared_definition k i) ≡ 5 + length (decimal i) + 19 + length (body_formula k) + 4
definition-length k i = length-joined (codes "def d") (decimal i ∷ codes " (a: wff): wff = $ " ∷ body_formula k ∷ codes " $;\n" ∷ [])

theorem-length : (i : ℕ) → length (declared_theorem i) ≡ 9 + length (decimal i) + 14 + length (decimal i) + 6
theorem-length i = length-joined (codes "theorem t") (decimal i ∷ codes " (a: wff): $ d" ∷ decimal i ∷ codes " a $;\n" ∷ [])

generalization-length : (i : ℕ) → length (declared_generalization i) ≡ 9 + length (decimal i) + 33 + length (decimal i) + 8
generalization-length i =
    length-joined (codes "theorem g") (decimal i ∷ codes " {x: nat} (p: wff x): $ all x ( d" ∷ decimal i ∷ codes " p ) $;\n" ∷ [])

head-length : length specification_head ≡ 240
head-length = refl

specification-length : (n : ℕ) → n ≤ 10000 → length (sample_specification n) ≤ 240 + 149 * n
specification-length zero small = omega (arith, head-length)
specification-length (suc k) small =
    let before = specification-length k (omega (arith, small)) in
    let i = digits-few (suc k) small in
    let all = three-more (sample_specification k) (declared_definition k (suc k)) (declared_theorem (suc k)) (declared_generalization (suc k)) in
    let body = formula-short k (omega (arith, small)) in
    omega (arith, before, i, all, body, definition-length k (suc k), theorem-length (suc k), generalization-length (suc k))

pub specification-fits : (n : ℕ) (text : List ℕ) → n ≤ 10000 → text ≡ sample_specification n → length text < 2 ^ 32
specification-fits n text small e =
    let whole : length text ≡ length (sample_specification n) = ap (λ (xs : List ℕ). length xs) e in
    omega (arith, small, whole, specification-length n small)

-- ---- the proof text

expression-first : length (codes "(im a (im a a))") ≡ 15
expression-first = refl

expression-next : (k : ℕ) → length (codes "(im a (d" ++ decimal k ++ codes " a))") ≡ 8 + length (decimal k) + 4
expression-next k = length-joined (codes "(im a (d") (decimal k ∷ codes " a))" ∷ [])

expression-short : (k : ℕ) → k ≤ 10000 → length (body_expression k) ≤ 17
expression-short k small =
    one-of-two (k == 0) (codes "(im a (im a a))") (codes "(im a (d" ++ decimal k ++ codes " a))") 17 (omega (arith, expression-first))
    (omega (arith, expression-next k, digits-few k small))

proof-first : length (codes "(ax_1 (a a))") ≡ 12
proof-first = refl

proof-next : (k : ℕ) → length (further-proof k) ≡ 10 + length (decimal k) + 12 + length (decimal k) + 15 + length (decimal k) + 10 + length (decimal k) + 6
proof-next k =
    length-joined (codes "(ax_mp ((d") (decimal k ∷ codes " a) (im a (d" ∷ decimal k ∷ codes " a))) (ax_1 ((d" ∷ decimal k ∷ codes " a) a)) (t"
    ∷ decimal k ∷ codes " (a)))" ∷ [])

proof-short : (k : ℕ) → k ≤ 10000 → length (body_proof k) ≤ 73
proof-short k small =
    one-of-two (k == 0) (codes "(ax_1 (a a))") (further-proof k) 73 (omega (arith, proof-first)) (omega (arith, proof-next k, digits-few k small))

stated-length : (k i : ℕ) → length (stated_definition k i) ≡ 6 + length (decimal i) + 26 + length (body_expression k) + 2
stated-length k i = length-joined (codes "(def d") (decimal i ∷ codes " ((a wff ())) (wff ()) () " ∷ body_expression k ∷ codes ")\n" ∷ [])

proved-length : (k i : ℕ) → length (proved_theorem k i)
    ≡ 10 + length (decimal i) + 19 + length (decimal i) + 16 + length (decimal i) + 14 + length (decimal i) + 8 + length (body_expression k) + 2 + length (body_proof k) + 3
proved-length k i =
    length-joined (codes "(theorem t") (decimal i ∷ codes " ((a wff ())) () (d" ∷ decimal i ∷ codes " a) () (:conv (d" ∷ decimal i
    ∷ codes " a) (:unfold d" ∷ decimal i ∷ codes " (a) () " ∷ body_expression k ∷ codes ") " ∷ body_proof k ∷ codes "))\n" ∷ [])

generalized-length : (i : ℕ) → length (proved_generalization i)
    ≡ 10 + length (decimal i) + 35 + length (decimal i) + 21 + length (decimal i) + 7 + length (decimal i) + 8
generalized-length i =
    length-joined (codes "(theorem g") (decimal i ∷ codes " ((x nat) (p wff (x))) () (all x (d" ∷ decimal i ∷ codes " p)) () (ax_gen (x (d"
    ∷ decimal i ∷ codes " p)) (t" ∷ decimal i ∷ codes " (p))))\n" ∷ [])

text-head-length : length text_head ≡ 276
text-head-length = refl

text-length : (n : ℕ) → n ≤ 10000 → length (sample_text n) ≤ 276 + 339 * n
text-length zero small = omega (arith, text-head-length)
text-length (suc k) small =
    let before = text-length k (omega (arith, small)) in
    let i = digits-few (suc k) small in
    let all = three-more (sample_text k) (stated_definition k (suc k)) (proved_theorem k (suc k)) (proved_generalization (suc k)) in
    let body = expression-short k (omega (arith, small)) in
    let proof = proof-short k (omega (arith, small)) in
    omega (arith, before, i, all, body, proof, stated-length k (suc k), proved-length k (suc k), generalized-length (suc k))

pub text-fits : (n : ℕ) (text : List ℕ) → n ≤ 10000 → text ≡ sample_text n → length text < 2 ^ 32
text-fits n text small e =
    let whole : length text ≡ length (sample_text n) = ap (λ (xs : List ℕ). length xs) e in
    omega (arith, small, whole, text-length n small)
