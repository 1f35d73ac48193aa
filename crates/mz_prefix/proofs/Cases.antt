-- What holds in both cases of a Bool.
use Rattle.std.proofs.Common.{◌≡◌, Bool, true, false, refl}

pub chosen : (P : Bool → Type 0) (b : Bool) → (b ≡ true → P true) → (b ≡ false → P false) → P b
chosen P true yes_ no_ = yes_ refl
chosen P false yes_ no_ = no_ refl
