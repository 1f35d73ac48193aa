-- What reading the rows of a text answers.
use Rattle.std.specs.Prelude.{ℕ, ◌≡◌, ⊤, List, map}
use Rattle.mz_base.specs.Checks.{AllHold, FailsFirst}
use Rattle.mz_sexpr.specs.declared.sexprs.RowsRead.{RowsRead}
use Rattle.mz_sexpr.specs.declared.sexprs.RowsRead.TheVariants as read
use Rattle.mz_sexpr.specs.declared.scan.Class.TheVariants.{Space}
use Rattle.mz_sexpr.specs.Scan.{text_checks, tokens}
use Rattle.mz_sexpr.specs.Rows.{entry, entries}

abbrev pub AreRows : List ℕ → RowsRead → Type 0
AreRows text (read.Rows rows) = AllHold (text_checks text) × (map (entry text) rows.items ≡ entries 0 (tokens 0 Space text))
AreRows text (read.Refused r) = FailsFirst (text_checks text) r
AreRows text read.Mem = ⊤
