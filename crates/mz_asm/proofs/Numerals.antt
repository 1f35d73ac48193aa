-- Numbers and words that a listing's bytes write.
use Rattle.std.proofs.Common.{◌≡◌, ◌<◌, ◌+◌, ◌*◌, ◌-◌, ◌^◌, min, ℕ, zero, suc, true, List, [], ◌∷◌, length, take, get_or, Result, Ok, Err, Some, refl, sym, ap, subst, ◌∙◌, arith}
use Rattle.std.specs.Prelude.{bytes_eq}
use Rattle.std.specs.Int.{w64, from_be_bytes, to_be_bytes, bytes_high_first}
use Rattle.std.proofs.lemmas.Bool.Decides.{nat_tests}
use Rattle.std.proofs.lemmas.Int.Digits.{digits_value_more}
use Rattle.std.proofs.lemmas.Nat.{be_bytes_8, from_be_bytes-to_be_bytes_8}
use Rattle.std.proofs.lemmas.Str.{digit_value_digit}
use Rattle.std.proofs.lemmas.Option.{cond_some}
use Rattle.mz_base.proofs.Offered.{both-true, same-bytes, digit-at, digit-between}
use Rattle.hex.specs.Hex.{encode_lower, decode_sized, IsBytes}
use Rattle.hex.specs.declared.error.FromHexError.{FromHexError}
use Rattle.hex.proofs.HexLemmas.{decode_of-ok, decode_sized-ok, decode_sized-twice, decode_sized-encode_lower}
use Rattle.mz_logic_theory.specs.declared.word.Word.{Word}
use Rattle.mz_show.specs.Tokens.{word_text}
use Rattle.mz_asm.specs.Numbers.{are_digits, is_numeral, number_of, IsNumber, number_in, word_from, word_in}

-- ---- tests

pub bytes-same : (xs : List ℕ) → bytes_eq xs xs ≡ true
bytes-same [] = refl
bytes-same (x ∷ xs) = grind (arith, nat_tests, bytes-same xs)

-- ---- digits

-- one more digit
pub next-value : (ds : List ℕ) (i value : ℕ) → i < length ds → are_digits ds ≡ true → value ≡ number_of (take i ds)
    → min (value * 10 + (get_or ds i 0 - 48)) 4294967296 ≡ number_of (take (i + 1) ds)
next-value ds i value below all is =
    let between = digit-between (get_or ds i 0) (digit-at ds i 0 all below) in
    let worth = digit_value_digit (get_or ds i 0) (between.0, between.1) in
    let more = digits_value_more 10 ds i below in
    omega (arith, worth, more, is, between.0)

pub number-sound : (ds : List ℕ) (n : ℕ) → number_in ds ≡ Some n → IsNumber ds n
number-sound ds n e = let is = cond_some (is_numeral ds) (number_of ds) n e in record { numeral = is.0; value = sym is.1 }

pub number-complete : (ds : List ℕ) (n : ℕ) → IsNumber ds n → number_in ds ≡ Some n
number-complete ds n is = rw is.numeral (ap Some (sym is.value))

-- a numeral is digits, one at least
pub numeral-digits : (ds : List ℕ) → is_numeral ds ≡ true → (are_digits ds ≡ true) × (0 < length ds)
numeral-digits [] e = absurd cc
numeral-digits (d ∷ ds) e = ((both-true (are_digits (d ∷ ds)) _ e).0, omega arith)

-- ---- words

small-word : (bs : List ℕ) → IsBytes bs → from_be_bytes w64 bs < 2 ^ 64
small-word bs fits = omega (arith, fits 0, fits 1, fits 2, fits 3, fits 4, fits 5, fits 6, fits 7)

pub word-sound : (text : List ℕ) (w : Word) → word_in text ≡ Some w → (w.0 < 2 ^ 64) × (text ≡ word_text w)
word-sound text w e = go (decode_sized text 8) refl e
  where
    go : (r : Result (List ℕ) FromHexError) → decode_sized text 8 ≡ r → word_from text r ≡ Some w → (w.0 < 2 ^ 64) × (text ≡ word_text w)
    go (Err f) is e = absurd cc
    go (Ok bytes) is e =
        let found = cond_some (bytes_eq (encode_lower bytes) text) (record { 0 = from_be_bytes w64 bytes }) w e in
        let spelled : encode_lower bytes ≡ text = same-bytes (encode_lower bytes) text found.0 in
        let long = decode_sized-ok text 8 bytes is in
        let fits = (decode_of-ok text bytes (sym (decode_sized-twice text 8 long) ∙ is)) in
        let eight : length bytes ≡ 8 = omega (arith, long, fits.2) in
        let value : w.0 ≡ from_be_bytes w64 bytes = sym (ap (λ (v : Word). v.0) found.1) in
        let again : to_be_bytes w64 w.0 ≡ bytes = be_bytes_8 bytes w.0 eight fits.3 value in
        (subst (λ (n : ℕ). n < 2 ^ 64) (sym value) (small-word bytes fits.3), sym spelled ∙ ap encode_lower (sym again))

pub word-complete : (w : Word) → w.0 < 2 ^ 64 → word_in (word_text w) ≡ Some w
word-complete w small =
    let bytes : List ℕ = bytes_high_first 8 w.0 in
    let fits : IsBytes bytes = bytes-fit w.0 in
    let decoded : decode_sized (encode_lower bytes) 8 ≡ Ok bytes = decode_sized-encode_lower bytes 8 refl fits in
    let back : from_be_bytes w64 bytes ≡ w.0 = from_be_bytes-to_be_bytes_8 w.0 small in
    rw (decoded, bytes-same (encode_lower bytes)) (ap (λ (n : ℕ). Some (record { 0 = n })) back)
  where
    bytes-fit : (n : ℕ) → IsBytes (bytes_high_first 8 n)
    bytes-fit n (suc (suc (suc (suc (suc (suc (suc zero))))))) = omega arith
    bytes-fit n _ = omega arith
