-- Names that stand in one run of bytes stay where they are as it grows.
use Rattle.std.proofs.Common.{◌≡◌, ◌∙◌, ◌≤◌, ◌-◌, ◌++◌, ◌<◌, ◌⊎◌, ℕ, List, [], ◌∷◌, length, take, drop, refl, sym, ap, inl, inr, arith, length-append}
use Rattle.std.proofs.lemmas.List.{take-append-le, drop-append-le, length-drop, map-append}
use Rattle.std.proofs.lemmas.Bool.{cases_lt}
use Rattle.std.specs.Prelude.{slice_range}
use Rattle.mz_base.proofs.Offered.{slice_range-end}
use Rattle.mz_decompile_text.specs.declared.list.Span.{Span}
use Rattle.mz_decompile_text.specs.Spans.{name_at, names_at, AreWithin}

pub within-more : (n m : ℕ) (spans : List Span) → n ≤ m → AreWithin n spans → AreWithin m spans
within-more n m [] le are = are
within-more n m (s ∷ ss) le (here, are) = (omega (arith, here, le), within-more n m ss le are)

within-last : (n : ℕ) (spans : List Span) (span : Span) → span.to ≤ n → AreWithin n spans → AreWithin n (spans ++ span ∷ [])
within-last n [] span le are = (le, are)
within-last n (s ∷ ss) span le (here, are) = (here, within-last n ss span le are)

-- bytes up to a place that is within
between-on : (bytes more : List ℕ) (from to : ℕ) → to ≤ length bytes → slice_range (bytes ++ more) from to ≡ slice_range bytes from to
between-on bytes more from to le = by (cases_lt from to)
  where
    by : (from < to) ⊎ (to ≤ from) → slice_range (bytes ++ more) from to ≡ slice_range bytes from to
    by (inl low) =
        ap (take (to - from)) (drop-append-le from bytes more (omega (arith, low, le)))
        ∙ take-append-le (to - from) (drop from bytes) more (let e = length-drop from bytes in omega (arith, e, le))
    by (inr past) =
        let none : to - from ≡ 0 = omega (arith, past) in
        ap (λ (n : ℕ). take n (drop from (bytes ++ more))) none ∙ sym (ap (λ (n : ℕ). take n (drop from bytes)) none)

names-on : (bytes more : List ℕ) (spans : List Span) → AreWithin (length bytes) spans → names_at (bytes ++ more) spans ≡ names_at bytes spans
names-on bytes more [] are = refl
names-on bytes more (s ∷ ss) (here, are) =
    ap (λ (n : List ℕ). n ∷ names_at (bytes ++ more) ss) (between-on bytes more s.from s.to here) ∙ ap (λ (ns : List (List ℕ)). name_at bytes s ∷ ns) (names-on bytes more ss are)

module _ (bytes name : List ℕ) (spans : List Span) (span : Span) (from : span.from ≡ length bytes) (to : span.to ≡ length (bytes ++ name)) (are : AreWithin (length bytes) spans) where
  pub still-within : AreWithin (length (bytes ++ name)) (spans ++ span ∷ [])
  still-within =
      let longer : length bytes ≤ length (bytes ++ name) = (let e = length-append bytes name in omega (arith, e)) in
      within-last (length (bytes ++ name)) spans span (omega (arith, to)) (within-more (length bytes) (length (bytes ++ name)) spans longer are)

  pub one-name-more : names_at (bytes ++ name) (spans ++ span ∷ []) ≡ names_at bytes spans ++ name ∷ []
  one-name-more =
      let last-is : name_at (bytes ++ name) span ≡ name =
      ap (λ (k : ℕ). slice_range (bytes ++ name) k span.to) from ∙ ap (slice_range (bytes ++ name) (length bytes)) to ∙ slice_range-end bytes name in
      map-append (name_at (bytes ++ name)) spans (span ∷ [])
      ∙ ap (λ (ns : List (List ℕ)). ns ++ name_at (bytes ++ name) span ∷ []) (names-on bytes name spans are)
      ∙ ap (λ (n : List ℕ). names_at bytes spans ++ n ∷ []) last-is
