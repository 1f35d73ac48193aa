-- The names of declarations, one after another, and the longest run of underscores with which they begin.
use Rattle.std.proofs.Common.{◌≡◌, ◌∙◌, ◌≤◌, ◌<◌, ◌+◌, ℕ, zero, suc, max, List, [], ◌∷◌, length, drop, get_or, refl, sym, ap, add-one, arith}
use Rattle.std.proofs.lemmas.List.{drop_all}
use Rattle.std.proofs.lemmas.Option.{slice_get_past}
use Rattle.mz_spec_theory.specs.State.{Entry}
use Rattle.mz_spec_theory.specs.Names.{name_at, name_in}
use Rattle.mz_mmu_theory.specs.DeclaredNames.{underscores, longest_run}
use Rattle.mz_decompile_text.specs.Names.{names_from, declared_names}

drop-more : {A : Type 0} (xs : List A) (k : ℕ) → k < length xs → (x : A) × (drop k xs ≡ x ∷ drop (suc k) xs)
drop-more [] k lt = absurd (omega (arith, lt))
drop-more (x ∷ xs) zero lt = (x, refl)
drop-more (x ∷ xs) (suc k) lt = drop-more xs k (omega (arith, lt))

module _ (spec : List ℕ) (entries : List Entry) where
  -- the names from the k-th on
  abbrev pub rest : ℕ → List (List ℕ)
  rest k = names_from spec entries k (drop k entries)

  rest-more : (k : ℕ) → k < length entries → rest k ≡ name_at spec entries k ∷ rest (suc k)
  rest-more k lt = ap (names_from spec entries k) ((drop-more entries k lt).1)

  max-on : (run u more whole : ℕ) → max run (max u more) ≡ whole → max (max run u) more ≡ whole
  max-on run u more whole is = omega (arith, is)

  -- one name more
  pub run-on : (k run u new : ℕ) (name : List ℕ) → k < length entries → name ≡ name_at spec entries k → u ≡ underscores name → new ≡ max run u
      → max run (longest_run (rest k)) ≡ longest_run (declared_names spec entries) → max new (longest_run (rest (k + 1))) ≡ longest_run (declared_names spec entries)
  run-on k run u new name lt is counted is-new so_far =
      let more = longest_run (rest (suc k)) in
      let here : longest_run (rest k) ≡ max (underscores (name_at spec entries k)) more = ap longest_run (rest-more k lt) in
      let found : underscores (name_at spec entries k) ≡ u = sym (counted ∙ ap underscores is) in
      let so_here : max run (max u more) ≡ longest_run (declared_names spec entries) = sym (ap (λ (r : ℕ). max run r) (here ∙ ap (λ (n : ℕ). max n more) found)) ∙ so_far in
      rw add-one (ap (λ (n : ℕ). max n more) is-new ∙ max-on run u more (longest_run (declared_names spec entries)) so_here)

  pub run-end : (k run : ℕ) → length entries ≤ k → max run (longest_run (rest k)) ≡ longest_run (declared_names spec entries) → run ≡ longest_run (declared_names spec entries)
  run-end k run past so_far =
      let nothing : longest_run (rest k) ≡ 0 = ap (λ (es : List Entry). longest_run (names_from spec entries k es)) (drop_all k entries past) in
      omega (arith, nothing, so_far)

  -- the i-th of the names from one on
  name-from : (es : List Entry) (k i : ℕ) → k + length es ≡ length entries → get_or (names_from spec entries k es) i [] ≡ name_at spec entries (k + i)
  name-from [] k i many = sym (ap (name_in spec) (slice_get_past entries (k + i) (omega (arith, many))))
  name-from (e ∷ es) k zero many = ap (name_at spec entries) (omega arith)
  name-from (e ∷ es) k (suc i) many = name-from es (suc k) i (omega (arith, many)) ∙ ap (name_at spec entries) (omega arith)

  pub name-is : (k : ℕ) → get_or (declared_names spec entries) k [] ≡ name_at spec entries k
  name-is k = name-from entries 0 k (omega arith) ∙ ap (name_at spec entries) (omega arith)
