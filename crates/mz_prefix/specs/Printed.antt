-- The printed lines of what making a specification answers (this project's own).
use Rattle.std.specs.Prelude.{◌++◌, ℕ, List, codes, decimal}

abbrev pub specified_line : ℕ → List ℕ
specified_line bytes = codes "specified: " ++ decimal bytes ++ codes " bytes\n"

abbrev pub local_line : ℕ → List ℕ
local_line statement = codes "refused: text statement " ++ decimal statement ++ codes ": local definition\n"

abbrev pub long_line : ℕ → List ℕ
long_line statement = codes "refused: text statement " ++ decimal statement ++ codes ": depth\n"
