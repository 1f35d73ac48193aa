-- Names that are numbered: each has the number at which it stands.
use Rattle.std.proofs.Common.{ℕ, zero, suc, ◌≡◌, ◌<◌, ◌≤◌, ◌∙◌, inl, inr, List, [], ◌∷◌, ◌++◌, length, Some, sym, ap, subst, refl, arith, length-append}
use Rattle.std.proofs.lemmas.Bool.{cases_eq}
use Rattle.mz_base.specs.Names.{number_of, IsNew}
use Rattle.mz_base.proofs.Offered.{new-more, number-last, number-more}
use Rattle.mz_mmu_theory.specs.Name.{IsName}

-- ---- names that a vocabulary has by number

-- xs are the names of 0 up to k, each an identifier of its own
pub record Numbered (f : ℕ → List ℕ) (k : ℕ) (xs : List (List ℕ)) : Type 0 where
  pub many : length xs ≡ k
  pub named : (i : ℕ) → i < k → IsName (f i)
  pub found : (i : ℕ) → i < k → number_of xs (f i) ≡ Some i

pub last-or-before : (P : ℕ → Type 0) (k : ℕ) → ((i : ℕ) → i < k → P i) → P k → (i : ℕ) → i < suc k → P i
last-or-before P k before last i less = elim (cases_eq i k) [
  | inl same ↦ subst P (sym same) last
  | inr other ↦ before i (below other)
]
  where
    below : (i ≡ k → ⊥) → i < k
    below other = grind arith

pub numbered-none : (f : ℕ → List ℕ) → Numbered f 0 []
numbered-none f = record { many = refl; named = λ i less. absurd (omega arith); found = λ i less. absurd (omega arith) }

pub numbered-more : (f : ℕ → List ℕ) (k : ℕ) (xs : List (List ℕ)) → Numbered f k xs → IsName (f k) → IsNew xs (f k) → Numbered f (suc k) (xs ++ f k ∷ [])
numbered-more f k xs are name new = record {
  many = let e = length-append xs (f k ∷ []) in let m = are.many in omega arith;
  named = last-or-before (λ i. IsName (f i)) k are.named name;
  found = last-or-before (λ i. number_of (xs ++ f k ∷ []) (f i) ≡ Some i) k (λ i less. number-more xs (f k) (f i) i (are.found i less))
      (number-last xs (f k) new ∙ ap (λ m. Some m) are.many);
}

-- the names of 0 up to k
abbrev pub upto : (ℕ → List ℕ) → ℕ → List (List ℕ)
upto f zero = []
upto f (suc k) = upto f k ++ f k ∷ []

pub new-upto : (f : ℕ → List ℕ) (k : ℕ) (w : List ℕ) → ((i : ℕ) → i < k → f i ≡ w → ⊥) → IsNew (upto f k) w
new-upto f zero w others = refl
new-upto f (suc k) w others = new-more (upto f k) (f k) w (new-upto f k w (λ i less. others i (omega arith))) (others k (omega arith))

-- the first n are identifiers, and different
abbrev pub AreOwn : (ℕ → List ℕ) → ℕ → Type 0
AreOwn f n = ((i : ℕ) → i < n → IsName (f i)) × ((i j : ℕ) → i < n → j < n → f i ≡ f j → i ≡ j)

pub new-next : (f : ℕ → List ℕ) (n : ℕ) → AreOwn f n → (k : ℕ) → k < n → IsNew (upto f k) (f k)
new-next f n own k less = new-upto f k (f k) (λ i below is. let same : i ≡ k = own.1 i k (omega arith) less is in absurd (omega arith))

pub numbered-upto : (f : ℕ → List ℕ) (n : ℕ) → AreOwn f n → (k : ℕ) → k ≤ n → Numbered f k (upto f k)
numbered-upto f n own zero le = numbered-none f
numbered-upto f n own (suc k) le =
    numbered-more f k (upto f k) (numbered-upto f n own k (omega arith)) (own.0 k (omega arith)) (new-next f n own k (omega arith))
