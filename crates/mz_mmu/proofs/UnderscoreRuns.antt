-- Runs of underscores.
use Rattle.std.proofs.Common.{◌≡◌, ◌∙◌, ◌+◌, ◌++◌, ℕ, List, [], ◌∷◌, replicate, ap, append_assoc}
use Rattle.std.proofs.lemmas.List.{replicate-append-replicate}

-- one underscore more
pub underscore-on : (old out new : List ℕ) (n : ℕ) → out ≡ old ++ replicate n 95 → new ≡ out ++ 95 ∷ [] → new ≡ old ++ replicate (n + 1) 95
underscore-on old out new n so_far added =
    added ∙ ap (λ o. o ++ 95 ∷ []) so_far ∙ append_assoc old (replicate n 95) (95 ∷ []) ∙ ap (λ t. old ++ t) (replicate-append-replicate n 1 95)
