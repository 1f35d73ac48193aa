-- The printed lines of what making a text of a binary answers (this project's own).
use Rattle.std.specs.Prelude.{◌++◌, ℕ, List, codes, decimal}

abbrev pub decompiled_line : ℕ → List ℕ
decompiled_line bytes = codes "decompiled: " ++ decimal bytes ++ codes " bytes\n"

abbrev pub deep_line : ℕ → List ℕ
deep_line statement = codes "refused: decompiled statement " ++ decimal statement ++ codes ": depth\n"
