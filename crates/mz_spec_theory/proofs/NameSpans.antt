-- What stands at a place among declarations with their spans.
use Rattle.std.proofs.Common.{◌≡◌, ◌<◌, ◌≤◌, ◌∷◌, [], ℕ, suc, List, length, map, ap, sym, subst, ◌∙◌, refl, inl, inr, arith}
use Rattle.std.specs.Prelude.{Some, None, option_map, slice_get, get_or, ◌⊎◌}
use Rattle.std.proofs.lemmas.Option.{slice_get-map, slice_get_cases}
use Rattle.mz_logic_theory.specs.Declaration.{Declaration}
use Rattle.mz_spec_theory.specs.declared.spec.NameSpan.{NameSpan}
use Rattle.mz_spec_theory.specs.State.{Entry, entries_of, entry_at}

-- as many entries as spans
pub entries-length : (ds : List Declaration) (ms : List NameSpan) → length ms ≡ length ds → length (entries_of ds ms) ≡ length ms
entries-length [] [] same = refl
entries-length [] (m ∷ ms) same = absurd cc
entries-length (d ∷ ds) [] same = absurd cc
entries-length (d ∷ ds) (m ∷ ms) same = ap suc (entries-length ds ms (let e : length ms ≡ length ds = cc in e))

-- the declarations of the entries
pub entries-decls : (ds : List Declaration) (ms : List NameSpan) → length ms ≡ length ds → map (λ e. e.decl) (entries_of ds ms) ≡ ds
entries-decls [] ms same = refl
entries-decls (d ∷ ds) [] same = absurd cc
entries-decls (d ∷ ds) (m ∷ ms) same = ap (λ xs. d ∷ xs) (entries-decls ds ms (let e : length ms ≡ length ds = cc in e))

-- what only the span says
pub entries-spans : {A : Type 0} (f : Entry → A) (g : NameSpan → A) → ((d : Declaration) (m : NameSpan) → f (entry_at d m) ≡ g m)
    → (ds : List Declaration) (ms : List NameSpan) → length ms ≡ length ds → map f (entries_of ds ms) ≡ map g ms
entries-spans f g each [] [] same = refl
entries-spans f g each [] (m ∷ ms) same = absurd cc
entries-spans f g each (d ∷ ds) [] same = absurd cc
entries-spans f g each (d ∷ ds) (m ∷ ms) same = cc (each d m, entries-spans f g each ds ms (let e : length ms ≡ length ds = cc in e))

pub entry-decl : (ds : List Declaration) (ms : List NameSpan) (i : ℕ) → length ms ≡ length ds → option_map (λ e. e.decl) (slice_get (entries_of ds ms) i) ≡ slice_get ds i
entry-decl ds ms i same = sym (slice_get-map (λ e. e.decl) (entries_of ds ms) i) ∙ ap (λ xs. slice_get xs i) (entries-decls ds ms same)

pub entry-span : {A : Type 0} (f : Entry → A) (g : NameSpan → A) → ((d : Declaration) (m : NameSpan) → f (entry_at d m) ≡ g m)
    → (ds : List Declaration) (ms : List NameSpan) (i : ℕ) → length ms ≡ length ds → option_map f (slice_get (entries_of ds ms) i) ≡ option_map g (slice_get ms i)
entry-span f g each ds ms i same = sym (slice_get-map f (entries_of ds ms) i) ∙ ap (λ xs. slice_get xs i) (entries-spans f g each ds ms same) ∙ slice_get-map g ms i

-- a place among the entries is one among the spans
pub span-within : (ds : List Declaration) (ms : List NameSpan) (i : ℕ) → length ms ≡ length ds → i < length (entries_of ds ms) → i < length ms
span-within ds ms i same within = subst (λ n. i < n) (entries-length ds ms same) within

-- what stands within a list is there
pub within-not : {A : Type 0} (xs : List A) (i : ℕ) → i < length xs → slice_get xs i ≡ None → ⊥
within-not {A} xs i within none = by (slice_get_cases xs i).1 where
  by : ((x : A) × (i < length xs) × (slice_get xs i ≡ Some x) × (get_or xs i x ≡ x)) ⊎ ((length xs ≤ i) × (slice_get xs i ≡ None)) → ⊥
  by (inl (x, _, some, _)) = let e : Some x ≡ None = sym some ∙ none in absurd cc
  by (inr (past, _)) = omega (arith, within, past)
