-- Words of parameters that were right, for rows that share them.
use Rattle.std.specs.Prelude.{ℕ, List, Option, IfSome}
use Rattle.mz_base.specs.Checks.{AllHold}
use Rattle.mz_layout_tables.specs.RowWords.{first_sorts, param_checks}
use Rattle.mz_machine_env.specs.OwnRow.{words_from}
use Rattle.mz_binary.specs.declared.words.RightWords.{RightWords}

-- so many words from this place of the file on are right where the first of its sorts are declared
abbrev pub AreRight : List ℕ → Option RightWords → Type 0
AreRight file last = IfSome last (λ r. AllHold (param_checks (first_sorts file r.sorts) r.at (words_from file r.at r.params)))
