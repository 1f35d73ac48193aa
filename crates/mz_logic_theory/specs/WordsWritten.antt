-- The words that say given parameters, and a given result (the .mmb format, its words of binders).
use Rattle.std.specs.Prelude.{◌≡◌, ℕ, suc, ◌+◌, ◌*◌, ◌^◌, ◌<◌, ◌≤◌, Bool, List, [], ◌∷◌, ◌++◌, length, All, count_by, if◌then◌else◌}
use Rattle.std.specs.List.Sorted.{IsStrictlyIncreasing}
use Rattle.mz_logic_theory.specs.Variables.{IsBoundAt, is_member}
use Rattle.mz_logic_theory.specs.Legality.{AreParams}
use Rattle.mz_logic_theory.specs.Laws.{SortsThere}
use Rattle.mz_logic_theory.specs.Words.{binders_of, result_of}
use Rattle.mz_logic_theory.specs.declared.word.Word.{Word}
use Rattle.mz_logic_theory.specs.declared.binder.Binder.{Binder}
use Rattle.mz_logic_theory.specs.declared.binder.ResultType.{ResultType}
use Rattle.mz_logic_theory.specs.declared.binder.SortMods.{SortMods}

-- ---- words

-- bit k is set where the k-th of the places is one of the dependencies
abbrev pub bits_of : List ℕ → List ℕ → ℕ
bits_of [] deps = 0
bits_of (p ∷ ps) deps = (if is_member p deps then 1 else 0) + 2 * bits_of ps deps

-- a word after bound ones at these places: a bound one has the bit after theirs
abbrev pub word_of : List ℕ → Binder → Word
word_of places b = record { 0 = (if b.bound then 2 ^ 63 else 0) + b.sort * 2 ^ 56 + (if b.bound then 2 ^ length places else bits_of places b.deps) }

-- the words of the binders, `places` being those of the bound ones among the i before them
abbrev pub words_from : ℕ → List ℕ → List Binder → List Word
words_from i places [] = []
words_from i places (b ∷ bs) = word_of places b ∷ words_from (suc i) (if b.bound then places ++ i ∷ [] else places) bs

abbrev pub words_of : List Binder → List Word
words_of params = words_from 0 [] params

-- the places of the bound ones, the first binder's place being i
abbrev pub bound_from : ℕ → List Binder → List ℕ
bound_from i [] = []
bound_from i (b ∷ bs) = if b.bound then i ∷ bound_from (suc i) bs else bound_from (suc i) bs

abbrev pub result_word : List Binder → ResultType → Word
result_word params r = record { 0 = r.sort * 2 ^ 56 + bits_of (bound_from 0 params) r.deps }

-- ---- what is promised

-- right parameters, of whose sorts seven bits hold the numbers, whose dependencies ascend and of which at most 55
-- are bound
pub record CanBeWords (ss : List SortMods) (params : List Binder) : Type 0 where
  pub few_sorts : length ss ≤ 128
  pub sorts_there : SortsThere ss params
  pub right : AreParams ss params
  pub ascend : All (λ b. IsStrictlyIncreasing b.deps) params
  pub few_bound : count_by (λ b. b.bound) params ≤ 55

-- such parameters are read back
abbrev pub ParamsAreReadBack : Type 0
ParamsAreReadBack = (ss : List SortMods) (params : List Binder) → CanBeWords ss params → binders_of (words_of params) ≡ params

-- and so are results that depend on bound parameters, in ascending order
abbrev pub ResultsAreReadBack : Type 0
ResultsAreReadBack = (ss : List SortMods) (params : List Binder) (r : ResultType) (has_body : Bool) → CanBeWords ss params
    → r.sort < length ss → All (IsBoundAt params) r.deps → IsStrictlyIncreasing r.deps
    → result_of (record { params = words_of params; result = result_word params r; has_body = has_body }) ≡ r

-- they are words of 64 bits
abbrev pub WordsFit : Type 0
WordsFit = (ss : List SortMods) (params : List Binder) → CanBeWords ss params → All (λ (w : Word). w.0 < 2 ^ 64) (words_of params)

abbrev pub ResultWordsFit : Type 0
ResultWordsFit = (ss : List SortMods) (params : List Binder) (r : ResultType) → CanBeWords ss params → r.sort < length ss → (result_word params r).0 < 2 ^ 64
