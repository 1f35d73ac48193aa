-- Arguments that say a number, in decimal.
use Rattle.std.proofs.Common.{◌≡◌, ◌≤◌, ◌<◌, ◌^◌, ◌∙◌, ℕ, List, [], ◌∷◌, length, get_or, drop, cond, Bool, ap, sym, subst, arith, decimal, Result, Ok}
use Rattle.std.specs.Str.Parse.{ParsesUnsigned, without_leading_plus, digits_value, AllDigits}
use Rattle.mz_tool.specs.Sizes.{BeginsNumber}
use Rattle.std.proofs.lemmas.Bool.{ne_eqb}
use Rattle.std.proofs.lemmas.Result.{OkIff-at_ok}
use Rattle.std.proofs.lemmas.Str.Parse.{numerals_by_value, tells_digits, digit_from_value}
use Rattle.std.proofs.lemmas.Fmt.{decimal-digits_value, first_decimal, decimal_is_IsNumeral}

first-digit : (bs : List ℕ) → 0 < length bs → AllDigits 10 bs → get_or bs 0 0 ≤ 57
first-digit [] some digits = absurd (omega arith)
first-digit (c ∷ cs) some digits = omega (arith, digit_from_value c digits.0)

-- each number but 0 begins so
pub decimal-begins : (n : ℕ) → 1 ≤ n → n ≤ 10000 → BeginsNumber (decimal n)
decimal-begins n some few =
    let is = decimal_is_IsNumeral n (omega (arith, few)) in
    (is.0.0, first_decimal n (omega (arith, some)) (omega (arith, few)), first-digit (decimal n) is.0.0 is.0.1)

no-plus : (bs : List ℕ) → BeginsNumber bs → without_leading_plus bs ≡ bs
no-plus [] (some, low, high) = absurd (omega arith)
no-plus (c ∷ cs) (some, low, high) = ap (λ (b : Bool). drop (cond b 1 0) (c ∷ cs)) (ne_eqb c 43 (λ e. omega (arith, e, low)))

-- what is read of such an argument is the number that it says
pub reads-number : {E : Type 0} (bs : List ℕ) (r : Result ℕ E) (n : ℕ) → BeginsNumber bs → n < 2 ^ 64 → ParsesUnsigned 32 10 bs r → r ≡ Ok n → bs ≡ decimal n
reads-number bs r n begins small parses is =
    let (numeral, value) = OkIff-at_ok r _ _ n parses is in
    let same = no-plus bs begins in
    let digits : AllDigits 10 bs = subst (λ (xs : List ℕ). AllDigits 10 xs) same numeral.0.1 in
    let number : n ≡ digits_value 10 bs = value ∙ ap (λ (xs : List ℕ). digits_value 10 xs) same in
    sym (decimal-digits_value (numerals_by_value _ tells_digits) bs digits begins.0 (λ zero-first. absurd (omega (arith, zero-first, begins.1))) (omega (arith, number, small))) ∙ ap decimal (sym number)

pub ok-one : {T E : Type 0} (r : Result T E) (x y : T) → r ≡ Ok x → r ≡ Ok y → x ≡ y
ok-one r x y e f = let both : Ok x ≡ Ok y = sym e ∙ f in cc
