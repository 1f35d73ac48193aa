-- Pieces of a line, one behind the other.
use Rattle.std.proofs.Common.{ℕ, ◌≡◌, ◌++◌, ◌∙◌, List, [], ◌∷◌, refl, append_assoc}

abbrev pub joined : List ℕ → List (List ℕ) → List ℕ
joined first [] = first
joined first (p ∷ ps) = joined (first ++ p) ps

abbrev pub pieces_then : List (List ℕ) → List ℕ → List ℕ
pieces_then [] tail = tail
pieces_then (p ∷ ps) tail = p ++ pieces_then ps tail

pub then-pieces : (first : List ℕ) (ps : List (List ℕ)) (tail : List ℕ) → joined first ps ++ tail ≡ first ++ pieces_then ps tail
then-pieces first [] tail = refl
then-pieces first (p ∷ ps) tail = then-pieces (first ++ p) ps tail ∙ append_assoc first p (pieces_then ps tail)
