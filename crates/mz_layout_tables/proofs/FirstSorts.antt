-- The first sorts of a file.
use Rattle.std.proofs.Common.{◌≡◌, ◌<◌, ◌≤◌, ℕ, zero, suc, List, [], ◌∷◌, length, take, slice_get, None, refl, arith, le_of_suc-le-suc}
use Rattle.std.proofs.lemmas.List.{length-take-le}
use Rattle.std.proofs.lemmas.Option.{slice_get_past}
use Rattle.mz_layout_tables.specs.Tables.{tables_of, sort_count}
use Rattle.mz_layout_tables.proofs.TableLists.{length-sorts}
use Rattle.mz_layout_tables.specs.RowWords.{first_sorts}

pub slice_get-take : {A : Type 0} → (n i : ℕ) (xs : List A) → i < n → slice_get (take n xs) i ≡ slice_get xs i
slice_get-take zero i xs below = absurd (omega arith)
slice_get-take (suc n) i [] below = refl
slice_get-take (suc n) zero (x ∷ xs) below = refl
slice_get-take (suc n) (suc i) (x ∷ xs) below = slice_get-take n i xs (le_of_suc-le-suc below)

module _ (file : List ℕ) (n : ℕ) (within : n ≤ sort_count file) where
  pub length-first_sorts : length (first_sorts file n) ≡ n
  length-first_sorts = length-take-le n (tables_of file).sorts (omega (arith, length-sorts file))

  pub slice_get-first_sorts : (s : ℕ) → s < n → slice_get (first_sorts file n) s ≡ slice_get (tables_of file).sorts s
  slice_get-first_sorts s below = slice_get-take n s (tables_of file).sorts below

  pub slice_get-further : (s : ℕ) → n ≤ s → slice_get (first_sorts file n) s ≡ None
  slice_get-further s past = slice_get_past (first_sorts file n) s (omega (arith, length-first_sorts))
