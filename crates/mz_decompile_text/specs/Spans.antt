-- Names that stand in one run of bytes.
use Rattle.std.specs.Prelude.{◌≤◌, ⊤, ℕ, List, [], ◌∷◌, map, slice_range}
use Rattle.mz_decompile_text.specs.declared.list.Span.{Span}

abbrev pub name_at : List ℕ → Span → List ℕ
name_at bytes span = slice_range bytes span.from span.to

abbrev pub names_at : List ℕ → List Span → List (List ℕ)
names_at bytes spans = map (name_at bytes) spans

-- each ends within so many bytes
abbrev pub AreWithin : ℕ → List Span → Type 0
AreWithin n [] = ⊤
AreWithin n (s ∷ ss) = (s.to ≤ n) × AreWithin n ss
