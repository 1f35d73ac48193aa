-- Lines whose numbers and words are right have a text.
use Rattle.std.proofs.Common.{◌≡◌, ◌≤◌, ◌<◌, ℕ, zero, suc, Bool, true, false, not, List, [], ◌∷◌, ◌++◌, length, get_or, codes, decimal, refl, sym, ap, subst, ◌∙◌, arith, append_assoc, append-nil, length-append, ◌/◌, ◌%◌}
use Rattle.std.specs.Prelude.{◌==◌}
use Rattle.std.specs.Int.{bytes_high_first}
use Rattle.std.specs.List.{list_all, position_or_len, before_first}
use Rattle.std.specs.Str.Parse.{AllDigits}
use Rattle.std.proofs.lemmas.Bool.{ne_eqb}
use Rattle.std.proofs.lemmas.Bool.Decides.{nat_tests}
use Rattle.std.proofs.lemmas.Fmt.{decimal_is_IsNumeral, decimal_digit, first_decimal}
use Rattle.std.proofs.lemmas.List.{take_at}
use Rattle.std.proofs.lemmas.List.Folds.{list_all-append}
use Rattle.std.proofs.lemmas.Str.Parse.{digit_from_value}
use Rattle.mz_base.proofs.Offered.{both-true}
use Rattle.hex.specs.Hex.{encode_with, encode_lower, lower_digits}
use Rattle.mz_show.specs.Tokens.{texts, unify_name, unify_has_number, proof_name, proof_has_number, word_text, command_words}
use Rattle.mz_cmd.specs.declared.code.ProofCode.{ProofCode}
use Rattle.mz_cmd.specs.declared.code.ProofCode.TheVariants as proofs
use Rattle.mz_cmd.specs.declared.code.UnifyCode.{UnifyCode}
use Rattle.mz_cmd.specs.declared.code.UnifyCode.TheVariants as unifies
use Rattle.mz_asm.specs.declared.kind.Kind.{Kind}
use Rattle.mz_asm.specs.declared.kind.Kind.TheVariants as kinds
use Rattle.mz_asm.specs.declared.line.Line.{Line}
use Rattle.mz_asm.specs.declared.line.Line.TheVariants as lines
use Rattle.mz_asm.specs.declared.rows.Rows.{Rows}
use Rattle.mz_base.specs.Identifiers.{is_digit}
use Rattle.mz_asm.specs.Numbers.{are_digits, is_numeral, IsNumber}
use Rattle.mz_asm.specs.Lines.{kind_name, IsValue, IsLine}
use Rattle.mz_asm.specs.Rows.{rows_after, IsInRange}
use Rattle.mz_asm.specs.Assembling.{behind_line, HasLines, AreFitting}
use Rattle.mz_asm.proofs.Plain.{IsPlain, ArePlain}
use Rattle.mz_asm.proofs.Kept.{most-few}
use Rattle.mz_asm.proofs.LineReading.{drop-past}
use Rattle.mz_asm.proofs.LineTexts.{line_text, head-spelled}

-- ---- numbers

digits-of : (ds : List ℕ) → AllDigits 10 ds → are_digits ds ≡ true
digits-of [] all = refl
digits-of (c ∷ cs) all =
    let range = digit_from_value c all.0 in
    let here : is_digit c ≡ true = grind (arith, nat_tests, range) in
    rw (here, digits-of cs all.1) refl

numeral-of : (ds : List ℕ) → are_digits ds ≡ true → 0 < length ds → 48 < get_or ds 0 0 → is_numeral ds ≡ true
numeral-of [] all some first = absurd (omega (arith, some))
numeral-of (d ∷ ds) all some first = rw (all, ne_eqb d 48 (omega (arith, first))) refl

decimal-numeral : (n : ℕ) → n ≤ 4294967295 → is_numeral (decimal n) ≡ true
decimal-numeral zero small = ap is_numeral (decimal_digit 0 (omega arith))
decimal-numeral (suc n) small =
    let all = decimal_is_IsNumeral (suc n) (omega (arith, small)) in
    numeral-of (decimal (suc n)) (digits-of (decimal (suc n)) all.0.1) all.0.0 (first_decimal (suc n) (omega arith) (omega (arith, small)))

number-of : (n : ℕ) → n ≤ 4294967295 → IsNumber (decimal n) n
number-of n small =
    let v = (decimal_is_IsNumeral n (omega (arith, small))).1 in
    record { numeral = decimal-numeral n small; value = omega (arith, v, small) }

-- ---- bytes without a newline

abbrev pub no_mark : ℕ → Bool
no_mark c = not (c == 10)

abbrev Unbroken : List ℕ → Type 0
Unbroken xs = list_all no_mark xs ≡ true

both : (xs ys : List ℕ) → Unbroken xs → Unbroken ys → Unbroken (xs ++ ys)
both xs ys a b = list_all-append no_mark xs ys ∙ (rw (a, b) refl)

unbroken-digits : (ds : List ℕ) → AllDigits 10 ds → Unbroken ds
unbroken-digits [] all = refl
unbroken-digits (c ∷ cs) all =
    let range = digit_from_value c all.0 in
    let here : (c == 10) ≡ false = ne_eqb c 10 (omega (arith, range.0)) in
    rw (here, unbroken-digits cs all.1) refl

unbroken-decimal : (n : ℕ) → n ≤ 4294967295 → Unbroken (decimal n)
unbroken-decimal n small = unbroken-digits (decimal n) (decimal_is_IsNumeral n (omega (arith, small))).0.1

digit-mark : (k : ℕ) → no_mark (get_or lower_digits k 0) ≡ true
digit-mark (suc (suc (suc (suc (suc (suc (suc (suc (suc (suc (suc (suc (suc (suc (suc zero))))))))))))))) = refl
digit-mark _ = refl

unbroken-hex : (xs : List ℕ) → Unbroken (encode_lower xs)
unfolding encode_with
unbroken-hex [] = refl
unbroken-hex (x ∷ xs) = rw (digit-mark (x / 16), digit-mark (x % 16), unbroken-hex xs) refl

unbroken-kind : (k : Kind) → Unbroken (kind_name k)
unbroken-kind kinds.Sort = refl
unbroken-kind _ = refl

unbroken-unify : (c : UnifyCode) → Unbroken (unify_name c)
unbroken-unify unifies.Term = refl
unbroken-unify _ = refl

unbroken-proof : (c : ProofCode) → Unbroken (proof_name c)
unbroken-proof proofs.Term = refl
unbroken-proof _ = refl

-- ---- lines

record HasBytes (l : Line) : Type 0 where
  pub bytes : List ℕ
  pub is : line_text l ≡ bytes ++ (10 ∷ [])
  pub line : IsLine bytes l
  pub unbroken : Unbroken bytes

-- a command's name and its number
valued : (b : Bool) (name : List ℕ) (v : ℕ) → Unbroken name → v ≤ 4294967295 → (b ≡ false → v ≡ 0) → (x : List ℕ) × IsValue b x v × (command_words b name v ≡ name ++ x) × Unbroken (name ++ x)
valued true name v whole small plain = (codes " " ++ decimal v, (decimal v, number-of v small, refl), append_assoc name (codes " ") (decimal v), both name (codes " " ++ decimal v) whole (both (codes " ") (decimal v) refl (unbroken-decimal v small)))
valued false name v whole small plain = ([], (refl, plain refl), sym (append-nil name), both name [] whole refl)

line-bytes : (rows : Rows) (l : Line) → IsInRange rows l → IsPlain l → HasBytes l
line-bytes rows (lines.Head kind row number) range plain =
    let few : number ≤ 4294967295 = (let m = most-few kind number range.1 in omega (arith, m)) in
    record {
      bytes = kind_name kind ++ (codes " " ++ (decimal row ++ (codes " " ++ decimal number)));
      is = sym (head-spelled (kind_name kind) (decimal row) (decimal number) row number refl refl);
      line = (decimal row, decimal number, number-of row range.0, number-of number few, refl);
      unbroken = both (kind_name kind) (codes " " ++ (decimal row ++ (codes " " ++ decimal number))) (unbroken-kind kind) (both (codes " ") (decimal row ++ (codes " " ++ decimal number)) refl (both (decimal row) (codes " " ++ decimal number) (unbroken-decimal row range.0) (both (codes " ") (decimal number) refl (unbroken-decimal number few))));
    }
line-bytes rows (lines.Param w) range plain = record { bytes = codes " param " ++ word_text w; is = refl; line = (plain, refl); unbroken = both (codes " param ") (word_text w) refl (unbroken-hex (bytes_high_first 8 w.0)) }
line-bytes rows (lines.Outcome w) range plain = record { bytes = codes " result " ++ word_text w; is = refl; line = (plain, refl); unbroken = both (codes " result ") (word_text w) refl (unbroken-hex (bytes_high_first 8 w.0)) }
line-bytes rows (lines.Unify c v) range plain =
    let (x, value, is, whole) = valued (unify_has_number c) (unify_name c) v (unbroken-unify c) range plain in
    record { bytes = codes " u " ++ (unify_name c ++ x); is = ap (λ z. codes " u " ++ z ++ codes "\n") is; line = (x, value, refl); unbroken = both (codes " u ") (unify_name c ++ x) refl whole }
line-bytes rows lines.UnifyEnd range plain = record { bytes = codes " u end"; is = refl; line = refl; unbroken = refl }
line-bytes rows (lines.Proof c v) range plain =
    let (x, value, is, whole) = valued (proof_has_number c) (proof_name c) v (unbroken-proof c) range plain in
    record { bytes = codes " p " ++ (proof_name c ++ x); is = ap (λ z. codes " p " ++ z ++ codes "\n") is; line = (x, value, refl); unbroken = both (codes " p ") (proof_name c ++ x) refl whole }
line-bytes rows lines.ProofEnd range plain = record { bytes = codes " p end"; is = refl; line = refl; unbroken = refl }
line-bytes rows lines.End range plain = record { bytes = codes "end"; is = refl; line = refl; unbroken = refl }

-- ---- texts

mark-place : (xs rest : List ℕ) → Unbroken xs → position_or_len (λ b. b == 10) (xs ++ (10 ∷ rest)) ≡ length xs
mark-place [] rest all = refl
mark-place (c ∷ cs) rest all = go (mark-place cs rest (both-true (no_mark c) (list_all no_mark cs) all).1) (c == 10) refl
  where
    go : position_or_len (λ b. b == 10) (cs ++ (10 ∷ rest)) ≡ length cs → (b : Bool) → (c == 10) ≡ b → position_or_len (λ b. b == 10) ((c ∷ cs) ++ (10 ∷ rest)) ≡ length (c ∷ cs)
    go more true e = absurd (let parts = both-true (no_mark c) (list_all no_mark cs) all in let no : no_mark c ≡ false = ap not e in cc)
    go more false e = rw e (omega (arith, more))

pub has-lines : (ls : List Line) (rows : Rows) → AreFitting rows ls → ArePlain ls → HasLines (texts line_text ls) ls []
has-lines [] rows fit plain = refl
has-lines (l ∷ ls) rows (range, row, fit) (one, plain) =
    let h = line-bytes rows l range one in
    let rest : List ℕ = texts line_text ls in
    let text : line_text l ++ rest ≡ h.bytes ++ (10 ∷ rest) = ap (λ z. z ++ rest) h.is ∙ append_assoc h.bytes (10 ∷ []) rest in
    let place = mark-place h.bytes rest h.unbroken in
    let first : before_first (λ b. b == 10) (h.bytes ++ (10 ∷ rest)) ≡ h.bytes = take_at h.bytes (10 ∷ rest) _ (sym place) in
    let others : behind_line (h.bytes ++ (10 ∷ rest)) ≡ rest = drop-past h.bytes 10 rest _ place in
    let many = length-append h.bytes (10 ∷ rest) in
    subst (λ t. HasLines t (l ∷ ls) []) (sym text)
    ((omega (arith, place, many), subst (λ b. IsLine b l) (sym first) h.line), subst (λ t. HasLines t ls []) (sym others) (has-lines ls (rows_after rows l) fit plain))

-- what has a text is plain
plain-value : (b : Bool) (x : List ℕ) (v : ℕ) → IsValue b x v → b ≡ false → v ≡ 0
plain-value true x v is e = absurd cc
plain-value false x v is e = is.1

plain-line : (bytes : List ℕ) (l : Line) → IsLine bytes l → IsPlain l
plain-line bytes (lines.Param w) is = is.0
plain-line bytes (lines.Outcome w) is = is.0
plain-line bytes (lines.Unify c v) (x, value, is) = plain-value (unify_has_number c) x v value
plain-line bytes (lines.Proof c v) (x, value, is) = plain-value (proof_has_number c) x v value
plain-line bytes _ is = tt

pub plain-lines : (text : List ℕ) (ls : List Line) (rest : List ℕ) → HasLines text ls rest → ArePlain ls
plain-lines text [] rest h = tt
plain-lines text (l ∷ ls) rest (begins, more) = (plain-line _ l begins.1, plain-lines (behind_line text) ls rest more)
