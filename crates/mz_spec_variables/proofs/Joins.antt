-- What a loop has made of a list, and what is left to be made.
use Rattle.std.proofs.Common.{◌≡◌, ◌∙◌, ◌<◌, ◌≤◌, ◌+◌, ◌++◌, ℕ, List, [], ◌∷◌, length, drop, get_or, ap, sym, append_assoc}
use Rattle.std.proofs.lemmas.List.{append-nil}
use Rattle.mz_base.proofs.Offered.{drop-item, drop-past}

module _ {X Y : Type 0} (F : List X → List Y) (g : X → List Y) (xs : List X) (i : ℕ) where
  -- F joins what is made of each
  abbrev pub Joins : Type 0
  Joins = ((x : X) (ys : List X) → F (x ∷ ys) ≡ g x ++ F ys) × (F [] ≡ [])

  pub made-step : Joins → (made whole : List Y) (x : X) → i < length xs → x ≡ get_or xs i x → made ++ F (drop i xs) ≡ whole → (made ++ g x) ++ F (drop (i + 1) xs) ≡ whole
  made-step (joins, none) made whole x within is so_far =
      append_assoc made (g x) (F (drop (i + 1) xs)) ∙ ap (λ ys. made ++ ys) (sym (ap F (drop-item xs i x within is) ∙ joins x (drop (i + 1) xs))) ∙ so_far

  pub made-end : Joins → (made whole : List Y) → length xs ≤ i → made ++ F (drop i xs) ≡ whole → made ≡ whole
  made-end (joins, none) made whole past so_far = sym (append-nil made) ∙ ap (λ ys. made ++ ys) (sym (ap F (drop-past xs i past) ∙ none)) ∙ so_far
