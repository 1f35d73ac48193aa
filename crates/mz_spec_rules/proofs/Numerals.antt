-- The value of digits.
use Rattle.std.proofs.Common.{◌≡◌, ◌<◌, ◌+◌, ◌*◌, ◌-◌, take, ℕ, List, length, get_or, arith}
use Rattle.std.specs.Prelude.{IsTrue}
use Rattle.std.specs.List.{list_all}
use Rattle.std.specs.Str.Parse.{digits_value}
use Rattle.std.proofs.lemmas.Str.{digit_value_digit}
use Rattle.std.proofs.lemmas.Int.Digits.{digits_value_more}
use Rattle.mz_base.specs.Identifiers.{is_digit}
use Rattle.mz_base.proofs.Offered.{digit-at, digit-between}

-- one more digit
pub next-value : (ds : List ℕ) (i value : ℕ) → i < length ds → IsTrue (list_all is_digit ds) → value ≡ digits_value 10 (take i ds) → digits_value 10 (take (i + 1) ds) ≡ value * 10 + (get_or ds i 0 - 48)
next-value ds i value below all is =
    let between = digit-between (get_or ds i 0) (digit-at ds i 0 all below) in
    let worth = digit_value_digit (get_or ds i 0) (between.0, between.1) in
    let more = digits_value_more 10 ds i below in
    omega (arith, worth, more, is, between.0)
