-- Numbers of names, and which byte strings are names, computed.
use Rattle.std.proofs.Common.{◌≡◌, ◌∷◌, [], Some, true, false, refl}
use Rattle.std.specs.Prelude.{codes}
use Rattle.mz_base.specs.Identifiers.{is_name}
use Rattle.mz_base.specs.Names.{number_of, IsNew, IsKnown}

second : number_of (codes "wff" ∷ codes "set" ∷ codes "wff" ∷ []) (codes "set") ≡ Some 1
second = refl

-- of two that are the same the first counts
first : number_of (codes "wff" ∷ codes "set" ∷ codes "wff" ∷ []) (codes "wff") ≡ Some 0
first = refl

known : IsKnown (codes "wff" ∷ codes "set" ∷ []) (codes "set")
known = (1, refl)

-- a name that begins as another one does is another name
longer : IsNew (codes "wff" ∷ codes "set" ∷ []) (codes "sets")
longer = refl

-- ---- identifiers

an_identifier : is_name (codes "_x1") ≡ true
an_identifier = refl

line_alone : is_name (codes "_") ≡ false
line_alone = refl

digit_first : is_name (codes "1x") ≡ false
digit_first = refl
