-- The numbers of public terms.
use Rattle.std.proofs.Common.{◌≡◌, ◌<◌, ◌∙◌, ℕ, zero, suc, List, [], ◌∷◌, length, Bool, true, false, ap, refl, arith}
use Rattle.std.specs.Prelude.{if◌then◌else◌}
use Rattle.mz_prefix.specs.PublicPart.{public_number, is_local_term}

step : (l b : Bool) (x y : ℕ) → y ≡ (if b then x else suc x) → (if l then y else suc y) ≡ (if b then (if l then x else suc x) else suc (if l then x else suc x))
step true true x y is = is
step true false x y is = is
step false true x y is = ap suc is
step false false x y is = ap suc is

next-number : (ls : List Bool) (t : ℕ) → t < length ls → public_number ls (suc t) ≡ (if is_local_term ls t then public_number ls t else suc (public_number ls t))
next-number [] t less = absurd (omega arith)
next-number (l ∷ ls) zero less = refl
next-number (l ∷ ls) (suc t) less = step l (is_local_term ls t) (public_number ls t) (public_number ls (suc t)) (next-number ls t (omega arith))

-- a local term takes no number
pub local-number : (ls : List Bool) (t : ℕ) → t < length ls → is_local_term ls t ≡ true → public_number ls (suc t) ≡ public_number ls t
local-number ls t less is = next-number ls t less ∙ ap (λ b. if b then public_number ls t else suc (public_number ls t)) is

-- a public one takes the next
pub public-number : (ls : List Bool) (t : ℕ) → t < length ls → is_local_term ls t ≡ false → public_number ls (suc t) ≡ suc (public_number ls t)
public-number ls t less is = next-number ls t less ∙ ap (λ b. if b then public_number ls t else suc (public_number ls t)) is
