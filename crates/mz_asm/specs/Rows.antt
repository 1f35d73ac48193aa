-- Rows and numbers of a listing's lines: the statements of a kind take the rows of its table in order (this project's own
-- listing; the .mmb format has room for so much).
use Rattle.std.specs.Prelude.{◌≡◌, ◌≤◌, ◌<◌, ◌+◌, ⊤, ℕ, true, false, Bool, List, [], ◌∷◌, if◌then◌else◌}
use Rattle.mz_base.specs.Checks.{Checks, demand, ◌>>◌}
use Rattle.mz_asm.specs.declared.kind.Kind.{Kind}
use Rattle.mz_asm.specs.declared.kind.Kind.TheVariants as kinds
use Rattle.mz_asm.specs.declared.line.Line.{Line}
use Rattle.mz_asm.specs.declared.line.Line.TheVariants as lines
use Rattle.mz_asm.specs.declared.rows.Rows.{Rows}
use Rattle.mz_asm.specs.declared.rule.A.{A}
use Rattle.mz_asm.specs.declared.rule.A.TheVariants as rules
use Rattle.mz_asm.specs.Statements.{is_sort}

abbrev pub no_rows : Rows
no_rows = record { sorts = 0; terms = 0; thms = 0 }

-- the next row of the kind's table
abbrev pub next_row : Rows → Kind → ℕ
next_row rows kinds.Sort = rows.sorts
next_row rows kinds.Term = rows.terms
next_row rows kinds.Definition = rows.terms
next_row rows kinds.LocalDefinition = rows.terms
next_row rows kinds.Axiom = rows.thms
next_row rows kinds.Theorem = rows.thms
next_row rows kinds.LocalTheorem = rows.thms

abbrev pub taken : Rows → Kind → Rows
taken rows kinds.Sort = record rows { sorts = rows.sorts + 1 }
taken rows kinds.Term = record rows { terms = rows.terms + 1 }
taken rows kinds.Definition = record rows { terms = rows.terms + 1 }
taken rows kinds.LocalDefinition = record rows { terms = rows.terms + 1 }
taken rows kinds.Axiom = record rows { thms = rows.thms + 1 }
taken rows kinds.Theorem = record rows { thms = rows.thms + 1 }
taken rows kinds.LocalTheorem = record rows { thms = rows.thms + 1 }

-- the rows taken after a line
abbrev pub rows_after : Rows → Line → Rows
rows_after rows (lines.Head kind row number) = taken rows kind
rows_after rows _ = rows

abbrev pub rows_of : Rows → List Line → Rows
rows_of rows [] = rows
rows_of rows (l ∷ ls) = rows_of (rows_after rows l) ls

-- a sort's modifiers are four bits, and a row has at most 65,535 parameters
abbrev pub most_of : Kind → ℕ
most_of kind = if is_sort kind then 15 else 65535

-- there are at most 128 sorts
abbrev pub HasRoom : Bool → Rows → Type 0
HasRoom true rows = rows.sorts < 128
HasRoom false rows = ⊤

-- the numbers of the line aren't too large
abbrev pub IsInRange : Rows → Line → Type 0
IsInRange rows (lines.Head kind row number) = (row ≤ 4294967295) × (number ≤ most_of kind) × HasRoom (is_sort kind) rows
IsInRange rows (lines.Unify code value) = value ≤ 4294967295
IsInRange rows (lines.Proof code value) = value ≤ 4294967295
IsInRange rows _ = ⊤

-- a statement's row is the next one
abbrev pub TakesRow : Rows → Line → Type 0
TakesRow rows (lines.Head kind row number) = row ≡ next_row rows kind
TakesRow rows _ = ⊤

abbrev pub number_checks : Rows → Line → Checks A
number_checks rows l = demand rules.Range (IsInRange rows l) >> demand rules.Row (TakesRow rows l)

abbrev pub head_checks : Rows → Kind → ℕ → ℕ → Checks A
head_checks rows kind row number = number_checks rows (lines.Head kind row number)

abbrev pub value_checks : ℕ → Checks A
value_checks value = demand rules.Range (value ≤ 4294967295) >> demand rules.Row ⊤
