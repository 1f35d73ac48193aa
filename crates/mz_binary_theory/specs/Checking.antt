-- What is asked of a place of the list of statements, in order: of its head, then of the statement's words and its body
-- (the .mmb format, its list of statements).
use Rattle.std.specs.Prelude.{ℕ, Bool, true, false, List, length, Option, Some, None, Result, Ok, Err}
use Rattle.mz_base.specs.Checks.{Checks, nothing, ◌>>◌}
use Rattle.mz_cmd.specs.declared.code.StatementCode.{StatementCode}
use Rattle.mz_cmd.specs.declared.code.StatementCode.TheVariants as codes
use Rattle.mz_cmd.specs.declared.statement.StmtAt.{StmtAt}
use Rattle.mz_cmd.specs.declared.statement.StmtAt.TheVariants.{End, Head}
use Rattle.mz_cmd.specs.declared.statement.StmtFault.{StmtFault}
use Rattle.mz_cmd.specs.declared.rule.K.{K}
use Rattle.mz_cmd.specs.Codes.{statement_code}
use Rattle.mz_cmd.specs.StatementList.{statement_at}
use Rattle.mz_logic_theory.specs.Declaration.{Declaration}
use Rattle.mz_layout_tables.specs.Heads.{body_bytes, empty_checks, head_checks}
use Rattle.mz_layout_tables.specs.Heads as heads
use Rattle.mz_layout_tables.specs.Tables.{term_row, thm_row}
use Rattle.mz_layout_tables.specs.declared.rows_so_far.Rows.{Rows}
use Rattle.mz_machine_theory.specs.Lists.{definition_of, assertion_of}
use Rattle.mz_layout_tables.specs.RowWords.{param_checks, word_checks}
use Rattle.mz_machine_theory.specs.FileRows.{Taken, taken_by, term_of_file, thm_of_file, rows_taken}
use Rattle.mz_binary_theory.specs.Standards.{Standard, checks_by}

-- how many rows are taken
abbrev pub counts : Taken → Rows
counts taken = record { sorts = length taken.sorts; terms = taken.terms; thms = taken.thms }

-- ---- words and bodies

-- a plain term's body is empty, a definition's runs against its stream
abbrev pub term_body_checks : Standard → List ℕ → Taken → ℕ → ℕ → ℕ → Option (List ℕ) → Checks (ℕ × K)
term_body_checks standard file taken at body next None = empty_checks file at body next
term_body_checks standard file taken at body next (Some stream) =
    checks_by standard (rows_taken file taken) (definition_of (term_of_file file taken.terms) stream) body (body_bytes file body next)

abbrev pub term_checks : Standard → List ℕ → Taken → ℕ → ℕ → ℕ → Checks (ℕ × K)
term_checks standard file taken at body next =
    word_checks taken.sorts (term_row file taken.terms)
    >> term_body_checks standard file taken at body next (term_of_file file taken.terms).stream

-- an axiom's or a theorem's body runs
abbrev pub thm_checks : Standard → List ℕ → Taken → ℕ → ℕ → Bool → Checks (ℕ × K)
thm_checks standard file taken body next without_proof =
    param_checks taken.sorts (thm_row file taken.thms).words_at (thm_row file taken.thms).params
    >> checks_by standard (rows_taken file taken) (assertion_of without_proof (thm_of_file file taken.thms)) body (body_bytes file body next)

-- of the statement that takes the next row of its kind
abbrev pub part_checks : Standard → List ℕ → Taken → ℕ → ℕ → ℕ → StatementCode → Checks (ℕ × K)
part_checks standard file taken at body next codes.Sort = empty_checks file at body next
part_checks standard file taken at body next codes.Term = term_checks standard file taken at body next
part_checks standard file taken at body next codes.LocalDefinition = term_checks standard file taken at body next
part_checks standard file taken at body next codes.Axiom = thm_checks standard file taken body next true
part_checks standard file taken at body next codes.Theorem = thm_checks standard file taken body next false
part_checks standard file taken at body next codes.LocalTheorem = thm_checks standard file taken body next false

abbrev pub parts_of : Standard → List ℕ → Taken → ℕ → ℕ → ℕ → Option StatementCode → Checks (ℕ × K)
parts_of standard file taken at body next None = nothing
parts_of standard file taken at body next (Some code) = part_checks standard file taken at body next code

-- ---- by what stands there, after what is taken

abbrev pub kind_checks : Standard → List ℕ → Taken → ℕ → ℕ → ℕ → Option StatementCode → Checks (ℕ × K)
kind_checks standard file taken at body next kind = heads.kind_checks file (counts taken) at kind >> parts_of standard file taken at body next kind

abbrev pub rest_checks : Standard → List ℕ → Taken → ℕ → Result StmtAt StmtFault → Checks (ℕ × K)
rest_checks standard file taken at (Err f) = nothing
rest_checks standard file taken at (Ok End) = nothing
rest_checks standard file taken at (Ok (Head code body next)) = parts_of standard file taken at body next (statement_code code)

abbrev pub checks_of : Standard → List ℕ → Taken → ℕ → Result StmtAt StmtFault → Checks (ℕ × K)
checks_of standard file taken at there = heads.checks_of file (counts taken) at there >> rest_checks standard file taken at there

-- what is asked of a place of the list after what is taken
abbrev pub place_checks : Standard → List ℕ → Taken → ℕ → Checks (ℕ × K)
place_checks standard file taken at = head_checks file (counts taken) at >> rest_checks standard file taken at (statement_at file at)

-- what is asked of a place after what env declares
abbrev pub list_checks : Standard → List ℕ → List Declaration → ℕ → Checks (ℕ × K)
list_checks standard file env at = place_checks standard file (taken_by env) at
