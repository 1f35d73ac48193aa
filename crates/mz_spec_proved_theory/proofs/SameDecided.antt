-- Whether two trees are the same can be found out.
use Rattle.std.proofs.Common.{◌≡◌, ◌⊎◌, ◌∙◌, ℕ, List, [], ◌∷◌, length, Option, Some, None, slice_get, refl, sym, ap, inl, inr, arith}
use Rattle.std.specs.Prelude.{zero, suc}
use Rattle.std.proofs.lemmas.Bool.{cases_eq}
use Rattle.mz_logic_theory.specs.Tree.{Tree, Trees, var, app, none, more}
use Rattle.mz_logic_theory.specs.declared.binder.Binder.{Binder}
use Rattle.mz_spec_proved_theory.specs.AlphaTrees.{SameTree, SameTrees, SameBody}
use Rattle.mz_spec_proved_theory.specs.Comparison.{Beside, compared}
use Rattle.mz_spec_proved_theory.proofs.Renaming.{SaysNothing, no-pairs, sound, complete}

row-decided : (o : Option ℕ) (t : ℕ) → (o ≡ Some t) ⊎ (o ≡ Some t → ⊥)
row-decided None t = inr (λ e. absurd cc)
row-decided (Some r) t = elim (cases_eq r t) [
  | inl same ↦ inl (ap Some same)
  | inr differ ↦ inr (λ e. differ (let same : r ≡ t = cc in same))
]

both-decided : (P Q : Type 0) → P ⊎ (P → ⊥) → Q ⊎ (Q → ⊥) → (P × Q) ⊎ (P × Q → ⊥)
both-decided P Q (inl p) (inl q) = inl (p, q)
both-decided P Q (inr out) q = inr (λ both. out both.0)
both-decided P Q (inl p) (inr out) = inr (λ both. out both.1)

mutual
  pub same-tree-decided : (rows : List ℕ) (e f : Tree) → SameTree rows e f ⊎ (SameTree rows e f → ⊥)
  same-tree-decided rows (var x) (var y) = cases_eq x y
  same-tree-decided rows (var x) (app t fs) = inr (λ h. h)
  same-tree-decided rows (app k es) (var y) = inr (λ h. h)
  same-tree-decided rows (app k es) (app t fs) = both-decided (slice_get rows k ≡ Some t) (SameTrees rows es fs) (row-decided (slice_get rows k) t) (same-trees-decided rows es fs)

  pub same-trees-decided : (rows : List ℕ) (es fs : Trees) → SameTrees rows es fs ⊎ (SameTrees rows es fs → ⊥)
  same-trees-decided rows none none = inl tt
  same-trees-decided rows none (more f fs) = inr (λ h. h)
  same-trees-decided rows (more e es) none = inr (λ h. h)
  same-trees-decided rows (more e es) (more f fs) = both-decided (SameTree rows e f) (SameTrees rows es fs) (same-tree-decided rows e f) (same-trees-decided rows es fs)

-- as many slots as there are dummies
slots : ℕ → List (Option ℕ)
slots zero = []
slots (suc n) = None ∷ slots n

length-slots : (n : ℕ) → length (slots n) ≡ n
unfolding slots
length-slots zero = refl
length-slots (suc n) = ap suc (length-slots n)

slots-empty : (n : ℕ) → SaysNothing (slots n)
unfolding slots
slots-empty zero k p at = absurd cc
slots-empty (suc n) zero p at = absurd cc
slots-empty (suc n) (suc k) p at = slots-empty n k p at

pub same-body-decided : (rows : List ℕ) (n : ℕ) (ds es : List Binder) (e f : Tree) → SameBody rows n ds es e f ⊎ (SameBody rows n ds es e f → ⊥)
same-body-decided rows n ds es e f = go (compared b ps e f) refl
  where
    b : Beside
    b = record { rows = rows; params = n; ds = ds; es = es }

    ps : List (Option ℕ)
    ps = slots (length es)

    go : (o : Option (List (Option ℕ))) → compared b ps e f ≡ o → SameBody rows n ds es e f ⊎ (SameBody rows n ds es e f → ⊥)
    go (Some qs) is = let (good, up, same) = sound b ps qs e f (no-pairs ds es ps (slots-empty (length es))) is in inl (qs, good, same)
    go None is = inr (λ (qs, good, same).
        let room = length-slots (length es) in
        let (rs, found, up, many) = complete b qs good ps e f (omega (arith, room)) (λ k p at. absurd (slots-empty (length es) k p at)) same in
        let both : None ≡ Some rs = sym is ∙ found in
        absurd cc)
