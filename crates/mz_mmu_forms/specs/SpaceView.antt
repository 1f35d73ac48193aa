-- How the code keeps the names of a space: each beside 0, and an atom that is no name beside its
-- place and 1, since it may come again.
use Rattle.std.specs.Prelude.{ℕ, suc, ◌≡◌, ◌⊎◌, ⊤, false, List, [], ◌∷◌}
use Rattle.std.specs.Borrow.{Bor}
use Rattle.mz_base.specs.Identifiers.{is_name}
use Rattle.mz_mmu_theory.specs.Name.{IsName}

abbrev pub Key : Type 0
Key = Bor (List ℕ) × ℕ

abbrev pub word_of_key : Key → List ℕ
word_of_key k = k.0.now

abbrev pub IsKeyAt : ℕ → Key → Type 0
IsKeyAt i k = (IsName k.0.now × (k.1 ≡ 0)) ⊎ ((is_name k.0.now ≡ false) × (k.1 ≡ suc i))

-- from the place i on
abbrev pub AreKeysFrom : ℕ → List Key → Type 0
AreKeysFrom i [] = ⊤
AreKeysFrom i (k ∷ ks) = IsKeyAt i k × AreKeysFrom (suc i) ks
