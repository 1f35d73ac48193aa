-- What the assembler has made of the lines so far, and of one line more.
use Rattle.std.specs.Prelude.{◌≡◌, ℕ, List, [], ◌∷◌, ◌++◌, true, false, Bool, Some, None, Result, Ok, Err, ⊤, ◌⊎◌}
use Rattle.mz_base.specs.Checks.{AllHold, FailsFirst}
use Rattle.mz_cmd.specs.Codes.{statement_byte, unify_byte, proof_byte}
use Rattle.mz_cmd.specs.Spelling.{shortest}
use Rattle.mz_logic_theory.specs.declared.word.Word.{Word}
use Rattle.mz_layout_tables.specs.Normal.{Parts, no_parts, row_of_term, row_of_thm}
use Rattle.mz_asm.specs.declared.kind.Kind.{Kind}
use Rattle.mz_asm.specs.declared.line.Line.{Line}
use Rattle.mz_asm.specs.declared.line.Line.TheVariants as lines
use Rattle.mz_asm.specs.declared.rows.Rows.{Rows}
use Rattle.mz_asm.specs.declared.rule.A.{A}
use Rattle.mz_asm.specs.declared.rule.A.TheVariants as rules
use Rattle.mz_asm.specs.declared.stop.Fault.{Fault}
use Rattle.mz_asm.specs.declared.stop.Fault.TheVariants as faults
use Rattle.mz_asm.specs.declared.expected.Want.{Want}
use Rattle.mz_asm.specs.declared.expected.Want.TheVariants as wants
use Rattle.mz_asm.specs.Reading.{line_in}
use Rattle.mz_asm.specs.Statements.{is_sort, has_result, code_of}
use Rattle.mz_asm.specs.Rows.{no_rows, taken, number_checks}
use Rattle.mz_asm.specs.Progress.{next}

-- the parts of whole statements, the rows taken, what may come next, and the words and bytes of the statement that is begun
pub record Made : Type 0 where
  pub parts : Parts
  pub rows : Rows
  pub want : Want
  pub params : List Word
  pub outcome : Word
  pub unify : List ℕ
  pub body : List ℕ

abbrev pub nothing_made : Made
nothing_made = record { parts = no_parts; rows = no_rows; want = wants.Head; params = []; outcome = record { 0 = 0 }; unify = []; body = [] }

abbrev pub sort_parts : Bool → Parts → ℕ → Parts
sort_parts true p mods = record p { sorts = p.sorts ++ mods ∷ []; statements = p.statements ++ record { code = 0x04; body = [] } ∷ [] }
sort_parts false p mods = p

abbrev pub with_head : Made → Kind → ℕ → Made
with_head m kind number = record m { rows = taken m.rows kind; params = []; unify = []; body = []; parts = sort_parts (is_sort kind) m.parts number }

-- a plain term is whole with its result
abbrev pub outcome_parts : Want → Made → Word → Parts
outcome_parts wants.Head m w = record m.parts { terms = m.parts.terms ++ row_of_term m.params w None ∷ []; statements = m.parts.statements ++ record { code = 0x05; body = [] } ∷ [] }
outcome_parts _ m w = m.parts

abbrev pub row_parts : Bool → Made → List ℕ → ℕ → Parts
row_parts true m body code = record m.parts { terms = m.parts.terms ++ row_of_term m.params m.outcome (Some m.unify) ∷ []; statements = m.parts.statements ++ record { code = code; body = body } ∷ [] }
row_parts false m body code = record m.parts { thms = m.parts.thms ++ row_of_thm m.params m.unify ∷ []; statements = m.parts.statements ++ record { code = code; body = body } ∷ [] }

-- the others with the end of their body
abbrev pub with_end : Want → Made → Made
with_end (wants.Proof kind) m = record m { body = m.body ++ 0 ∷ []; parts = row_parts (has_result kind) m (m.body ++ 0 ∷ []) (statement_byte (code_of kind)) }
with_end _ m = m

-- what one line adds, after which this is wanted
abbrev pub put_line : Made → Line → Want → Made
put_line m (lines.Head kind row number) w = with_head m kind number
put_line m (lines.Param x) w = record m { params = m.params ++ x ∷ [] }
put_line m (lines.Outcome x) w = record m { outcome = x; parts = outcome_parts w m x }
put_line m (lines.Unify code value) w = record m { unify = m.unify ++ shortest (unify_byte code) value }
put_line m lines.UnifyEnd w = record m { unify = m.unify ++ 0 ∷ [] }
put_line m (lines.Proof code value) w = record m { body = m.body ++ shortest (proof_byte code) value }
put_line m lines.ProofEnd w = with_end m.want m
put_line m lines.End w = m

abbrev pub with_line : Made → Line → Want → Made
with_line m l w = record (put_line m l w) { want = w }

-- ---- the answer at a line

pub record IsAdded (old : Made) (text : List ℕ) (new : Made) : Type 0 where
  pub line : Line
  pub want : Want
  pub read : line_in text ≡ Some line
  pub comes : next old.want line ≡ Some want
  pub right : AllHold (number_checks old.rows line)
  pub new_is : new ≡ with_line old line want

-- it is no line, or none that may come
abbrev pub IsNoNext : Made → List ℕ → Type 0
IsNoNext old text = (line_in text ≡ None) ⊎ ((l : Line) × (line_in text ≡ Some l) × (next old.want l ≡ None))

pub record HasBadNumber (old : Made) (text : List ℕ) (rule : A) : Type 0 where
  pub line : Line
  pub want : Want
  pub read : line_in text ≡ Some line
  pub comes : next old.want line ≡ Some want
  pub fails : FailsFirst (number_checks old.rows line) rule

abbrev pub Adds : Made → List ℕ → Made → Result (Unit {0}) Fault → Type 0
Adds old text new (Ok _) = IsAdded old text new
Adds old text new (Err (faults.Rule rule)) = ((rule ≡ rules.Form) × IsNoNext old text) ⊎ HasBadNumber old text rule
Adds old text new (Err faults.Mem) = ⊤
