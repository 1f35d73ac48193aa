-- The text of a line whose numbers aren't too large, with its newline, and that of a text's lines.
use Rattle.std.proofs.Common.{◌≡◌, ◌≤◌, ℕ, Bool, true, false, not, List, [], ◌∷◌, ◌++◌, length, get_or, codes, decimal, refl, sym, ap, ◌∙◌, arith, append_assoc, append-nil, eq-eqb}
use Rattle.std.specs.Prelude.{◌==◌, ◌||◌}
use Rattle.std.specs.List.{before_first}
use Rattle.std.specs.Str.Parse.{AllDigits, digits_value}
use Rattle.std.proofs.lemmas.Bool.{eqb-true}
use Rattle.std.proofs.lemmas.Fmt.{decimal-digits_value}
use Rattle.std.proofs.lemmas.Str.Parse.{numerals_by_value, tells_digits}
use Rattle.std.proofs.lemmas.List.Sums.{split_at_first, passes_at_first}
use Rattle.std.proofs.lemmas.Str.{digit_value_digit}
use Rattle.mz_base.proofs.Offered.{both-true, digit-between}
use Rattle.mz_show.specs.Tokens.{texts, numbered, param_line, result_line, command_words, unify_name, unify_has_number, proof_name, proof_has_number}
use Rattle.mz_asm.specs.declared.line.Line.{Line}
use Rattle.mz_asm.specs.declared.line.Line.TheVariants as lines
use Rattle.mz_asm.specs.declared.rows.Rows.{Rows}
use Rattle.mz_base.specs.Identifiers.{is_digit}
use Rattle.mz_asm.specs.Numbers.{are_digits, is_numeral, IsNumber}
use Rattle.mz_asm.specs.Lines.{kind_name, IsValue, IsLine}
use Rattle.mz_asm.specs.Rows.{rows_after, IsInRange}
use Rattle.mz_asm.specs.Assembling.{newline_at, behind_line, HasLines, AreFitting}
use Rattle.mz_asm.proofs.Kept.{most-few}
use Rattle.mz_asm.proofs.Numerals.{numeral-digits}

abbrev pub line_text : Line → List ℕ
line_text (lines.Head kind row number) = numbered (numbered (kind_name kind) row) number ++ codes "\n"
line_text (lines.Param w) = param_line w
line_text (lines.Outcome w) = result_line w
line_text (lines.Unify code value) = codes " u " ++ command_words (unify_has_number code) (unify_name code) value ++ codes "\n"
line_text lines.UnifyEnd = codes " u end\n"
line_text (lines.Proof code value) = codes " p " ++ command_words (proof_has_number code) (proof_name code) value ++ codes "\n"
line_text lines.ProofEnd = codes " p end\n"
line_text lines.End = codes "end\n"

-- ---- numbers

all-digits : (ds : List ℕ) → are_digits ds ≡ true → AllDigits 10 ds
all-digits [] e = tt
all-digits (c ∷ cs) e =
    let both = both-true (is_digit c) (are_digits cs) e in
    let between = digit-between c both.0 in
    let worth = digit_value_digit c (between.0, between.1) in
    (omega (arith, worth, between.0, between.1), all-digits cs both.1)

lead : (d : ℕ) (cs : List ℕ) → (not (d == 48) || (length (d ∷ cs) == 1)) ≡ true → d ≡ 48 → length (d ∷ cs) ≡ 1
lead d cs e is = go (d == 48) (eq-eqb d 48 is) (length (d ∷ cs) == 1) refl e
  where
    go : (a : Bool) → a ≡ true → (b : Bool) → (length (d ∷ cs) == 1) ≡ b → (not a || b) ≡ true → length (d ∷ cs) ≡ 1
    go true _ true f e = eqb-true _ _ f
    go _ x _ f e = absurd cc

lead-digit : (ds : List ℕ) → is_numeral ds ≡ true → get_or ds 0 0 ≡ 48 → length ds ≡ 1
lead-digit [] e is = absurd cc
lead-digit (d ∷ cs) e is = lead d cs (both-true (are_digits (d ∷ cs)) _ e).1 is

numeral-decimal : (ds : List ℕ) (n : ℕ) → IsNumber ds n → n ≤ 4294967295 → ds ≡ decimal n
numeral-decimal ds n is small =
    let digits = numeral-digits ds is.numeral in
    let v = is.value in
    let value : digits_value 10 ds ≡ n = omega (arith, v, small) in
    sym (decimal-digits_value (numerals_by_value _ tells_digits) ds (all-digits ds digits.0) digits.1 (lead-digit ds is.numeral) (omega (arith, value, small))) ∙ ap decimal value

-- ---- lines

pub head-spelled : (name r n : List ℕ) (row number : ℕ) → r ≡ decimal row → n ≡ decimal number → (name ++ (codes " " ++ (r ++ (codes " " ++ n)))) ++ (10 ∷ []) ≡ numbered (numbered name row) number ++ codes "\n"
head-spelled name r n row number a b =
    ap (λ z. (name ++ (codes " " ++ (z ++ (codes " " ++ n)))) ++ (10 ∷ [])) a
    ∙ ap (λ z. (name ++ (codes " " ++ (decimal row ++ (codes " " ++ z)))) ++ (10 ∷ [])) b
    ∙ ap (λ z. z ++ (10 ∷ [])) (sym (append_assoc (name ++ codes " ") (decimal row) (codes " " ++ decimal number) ∙ append_assoc name (codes " ") (decimal row ++ (codes " " ++ decimal number)))
    ∙ sym (append_assoc ((name ++ codes " ") ++ decimal row) (codes " ") (decimal number)))

words-spelled : (b : Bool) (name x : List ℕ) (v : ℕ) → IsValue b x v → v ≤ 4294967295 → name ++ x ≡ command_words b name v
words-spelled true name x v (ds, number, is) small = ap (λ z. name ++ z) (is ∙ ap (λ z. codes " " ++ z) (numeral-decimal ds v number small)) ∙ sym (append_assoc name (codes " ") (decimal v))
words-spelled false name x v (nil, is) small = ap (λ z. name ++ z) nil ∙ append-nil name

pub line-spelled : (bytes : List ℕ) (rows : Rows) (l : Line) → IsLine bytes l → IsInRange rows l → bytes ++ (10 ∷ []) ≡ line_text l
line-spelled bytes rows (lines.Head kind row number) (r, n, a, b, is) range =
    ap (λ z. z ++ (10 ∷ [])) is ∙ head-spelled (kind_name kind) r n row number (numeral-decimal r row a range.0) (numeral-decimal n number b (let few = most-few kind number range.1 in omega (arith, few)))
line-spelled bytes rows (lines.Param w) (small, is) range = ap (λ z. z ++ (10 ∷ [])) is
line-spelled bytes rows (lines.Outcome w) (small, is) range = ap (λ z. z ++ (10 ∷ [])) is
line-spelled bytes rows (lines.Unify code value) (x, v, is) range = ap (λ z. z ++ (10 ∷ [])) (is ∙ ap (λ z. codes " u " ++ z) (words-spelled (unify_has_number code) (unify_name code) x value v range))
line-spelled bytes rows lines.UnifyEnd is range = ap (λ z. z ++ (10 ∷ [])) is
line-spelled bytes rows (lines.Proof code value) (x, v, is) range = ap (λ z. z ++ (10 ∷ [])) (is ∙ ap (λ z. codes " p " ++ z) (words-spelled (proof_has_number code) (proof_name code) x value v range))
line-spelled bytes rows lines.ProofEnd is range = ap (λ z. z ++ (10 ∷ [])) is
line-spelled bytes rows lines.End is range = ap (λ z. z ++ (10 ∷ [])) is

pub text-spelled : (text : List ℕ) (ls : List Line) (rows : Rows) → HasLines text ls [] → AreFitting rows ls → text ≡ texts line_text ls
text-spelled text [] rows is fit = is
text-spelled text (l ∷ ls) rows (begins, more) (range, row, fit) =
    let first : List ℕ = before_first (λ b. b == 10) text in
    let is : get_or text (newline_at text) 0 ≡ 10 = eqb-true _ _ (passes_at_first (λ b. b == 10) text 0 begins.0) in
    let split : text ≡ first ++ (10 ∷ behind_line text) = split_at_first (λ b. b == 10) text 0 begins.0 ∙ ap (λ (c : ℕ). first ++ (c ∷ behind_line text)) is in
    split ∙ sym (append_assoc first (10 ∷ []) (behind_line text))
    ∙ ap (λ z. z ++ behind_line text) (line-spelled first rows l begins.1 range)
    ∙ ap (λ z. line_text l ++ z) (text-spelled (behind_line text) ls (rows_after rows l) more fit)
