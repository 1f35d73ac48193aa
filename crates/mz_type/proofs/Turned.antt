-- A list that is turned, and whose last item is taken again and again.
use Rattle.std.proofs.Common.{◌≡◌, List, [], ◌∷◌, ◌++◌, ◌∙◌, length, suc, reverse, ap, arith, length-append}
use Rattle.std.proofs.lemmas.List.{reverse-append, reverse-reverse}

-- what was last is the first of the turned list
pub taken : {A : Type 0} (old new : List A) (x : A) → old ≡ new ++ x ∷ [] → reverse old ≡ x ∷ reverse new
taken old new x is = ap reverse is ∙ reverse-append new (x ∷ [])

-- and there is one less
pub fewer : {A : Type 0} (old new : List A) (x : A) → old ≡ new ++ x ∷ [] → length old ≡ suc (length new)
fewer old new x is = let many = ap length is ∙ length-append new (x ∷ []) in omega (arith, many)

-- turned twice it is as before
pub turned : {A : Type 0} (xs ys : List A) → ys ≡ reverse xs → reverse ys ≡ xs
turned xs ys is = ap reverse is ∙ reverse-reverse xs
