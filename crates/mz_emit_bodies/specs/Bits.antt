-- The words of binders, and the bit of each of their places.
use Rattle.std.specs.Prelude.{ℕ, suc, ◌≡◌, ◌≤◌, ◌^◌, List, [], ◌∷◌, length, if◌then◌else◌}
use Rattle.mz_logic_theory.specs.WordsWritten.{bound_from, words_of}
use Rattle.mz_logic_theory.specs.declared.binder.Binder.{Binder}
use Rattle.mz_emit_bodies.specs.declared.words.BinderWords.{BinderWords}

-- after k bound binders: a bound one has the next bit, a regular one none
abbrev pub place_bits : ℕ → List Binder → List ℕ
place_bits k [] = []
place_bits k (b ∷ bs) = if b.bound then 2 ^ k ∷ place_bits (suc k) bs else 0 ∷ place_bits k bs

-- the words of these binders, at most 55 of which are bound
pub record AreWordsOf (binders : List Binder) (w : BinderWords) : Type 0 where
  pub words : w.params.items ≡ words_of binders
  pub bits : w.bits.items ≡ place_bits 0 binders
  pub few : length (bound_from 0 binders) ≤ 55
