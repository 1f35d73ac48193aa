-- Digits, alone and in names.
use Rattle.std.proofs.Common.{◌≡◌, ◌≤◌, ◌<◌, ℕ, zero, suc, List, [], ◌∷◌, length, get_or, true, refl, arith}
use Rattle.std.specs.Prelude.{nat_le}
use Rattle.std.specs.List.{list_all}
use Rattle.std.specs.Str.Parse.{AllDigits}
use Rattle.std.proofs.lemmas.Bool.{and_from, and_parts, or_right, le-leb, leb-true}
use Rattle.std.proofs.lemmas.Str.Parse.{digit_from_value}
use Rattle.mz_base.specs.Identifiers.{is_digit, is_name_start, is_name_byte}

-- a name may go on with digits
pub digits-named : (ds : List ℕ) → AllDigits 10 ds → list_all is_name_byte ds ≡ true
digits-named [] all = refl
digits-named (c ∷ cs) (here, rest) =
    let range = digit_from_value c here in
    and_from _ _ (or_right (is_name_start c) (is_digit c) (and_from _ _ (le-leb 48 c (omega arith)) (le-leb c 57 (omega arith)))) (digits-named cs rest)

-- a digit among digits
pub digit-at : (ds : List ℕ) (i d : ℕ) → list_all is_digit ds ≡ true → i < length ds → is_digit (get_or ds i d) ≡ true
digit-at [] i d all below = absurd (omega (arith, below))
digit-at (c ∷ cs) zero d all below = (and_parts (is_digit c) (list_all is_digit cs) all).0
digit-at (c ∷ cs) (suc i) d all below = digit-at cs i d (and_parts (is_digit c) (list_all is_digit cs) all).1 (omega (arith, below))

pub digit-between : (c : ℕ) → is_digit c ≡ true → (48 ≤ c) × (c ≤ 57)
digit-between c is = let parts = and_parts (nat_le 48 c) (nat_le c 57) is in (leb-true 48 c parts.0, leb-true c 57 parts.1)
