-- Identifiers, and the bytes of which they are made (mm0.md, section on the lexical structure).
use Rattle.std.specs.Prelude.{ℕ, List, [], ◌∷◌, Bool, false, nat_le, ◌==◌, ◌&&◌, ◌||◌, not, bytes_eq, codes}
use Rattle.std.specs.List.{list_all}

abbrev pub is_between : ℕ → ℕ → ℕ → Bool
is_between low high c = nat_le low c && nat_le c high

abbrev pub is_digit : ℕ → Bool
is_digit c = is_between 48 57 c

-- a letter or `_`
abbrev pub is_name_start : ℕ → Bool
is_name_start c = is_between 97 122 c || is_between 65 90 c || (c == 95)

abbrev pub is_name_byte : ℕ → Bool
is_name_byte c = is_name_start c || is_digit c

-- an identifier: a letter or `_`, then letters, digits and `_`, but not `_` alone
abbrev pub is_name : List ℕ → Bool
is_name [] = false
is_name (c ∷ cs) = is_name_start c && list_all is_name_byte cs && not (bytes_eq (c ∷ cs) (codes "_"))
