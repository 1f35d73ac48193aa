-- The statements that a listing says, their lines, and the parts of the binary that has them (this project's own listing,
-- the .mmb format's tables and list of statements).
use Rattle.std.specs.Prelude.{◌++◌, ℕ, Bool, true, false, List, [], ◌∷◌, length, map, Some, None, if◌then◌else◌}
use Rattle.mz_cmd.specs.declared.code.StatementCode.{StatementCode}
use Rattle.mz_cmd.specs.declared.code.StatementCode.TheVariants as codes_of
use Rattle.mz_cmd.specs.declared.code.ProofCode.{ProofCode}
use Rattle.mz_cmd.specs.declared.code.UnifyCode.{UnifyCode}
use Rattle.mz_cmd.specs.Codes.{statement_byte, unify_byte, proof_byte}
use Rattle.mz_cmd.specs.Spelling.{shortest}
use Rattle.mz_logic_theory.specs.declared.word.Word.{Word}
use Rattle.mz_layout_tables.specs.Normal.{Row, Written, Parts, no_parts, row_of_term, row_of_thm}
use Rattle.mz_asm.specs.declared.kind.Kind.{Kind}
use Rattle.mz_asm.specs.declared.kind.Kind.TheVariants as kinds
use Rattle.mz_asm.specs.declared.line.Line.{Line}
use Rattle.mz_asm.specs.declared.line.Line.TheVariants as lines

-- ---- kinds

abbrev pub is_sort : Kind → Bool
is_sort kinds.Sort = true
is_sort _ = false

-- terms and definitions have a result
abbrev pub has_result : Kind → Bool
has_result kinds.Term = true
has_result kinds.Definition = true
has_result kinds.LocalDefinition = true
has_result _ = false

-- all but sorts and plain terms have a unify stream and a body with commands
abbrev pub has_streams : Kind → Bool
has_streams kinds.Sort = false
has_streams kinds.Term = false
has_streams _ = true

abbrev pub code_of : Kind → StatementCode
code_of kinds.Sort = codes_of.Sort
code_of kinds.Term = codes_of.Term
code_of kinds.Definition = codes_of.Term
code_of kinds.LocalDefinition = codes_of.LocalDefinition
code_of kinds.Axiom = codes_of.Axiom
code_of kinds.Theorem = codes_of.Theorem
code_of kinds.LocalTheorem = codes_of.LocalTheorem

-- ---- statements

-- a statement: a sort with its modifiers, or a row with its words and, where its kind has them, the commands of its unify
-- stream and of its body, each with its operand; what its kind hasn't says nothing
pub record Statement : Type 0 where
  pub kind : Kind
  pub row : ℕ
  pub mods : ℕ
  pub params : List Word
  pub outcome : Word
  pub unify : List (UnifyCode × ℕ)
  pub proof : List (ProofCode × ℕ)

-- ---- their lines

abbrev pub unify_line : UnifyCode × ℕ → Line
unify_line c = lines.Unify c.0 c.1

abbrev pub proof_line : ProofCode × ℕ → Line
proof_line c = lines.Proof c.0 c.1

abbrev pub outcome_lines : Bool → Word → List Line
outcome_lines true w = lines.Outcome w ∷ []
outcome_lines false w = []

-- the commands of both streams, each stream with its end
abbrev pub stream_lines : Bool → Statement → List Line
stream_lines true s = map unify_line s.unify ++ (lines.UnifyEnd ∷ (map proof_line s.proof ++ (lines.ProofEnd ∷ [])))
stream_lines false s = []

abbrev pub lines_of : Bool → Statement → List Line
lines_of true s = lines.Head s.kind s.row s.mods ∷ []
lines_of false s =
    lines.Head s.kind s.row (length s.params) ∷ (map lines.Param s.params ++ (outcome_lines (has_result s.kind) s.outcome ++ stream_lines (has_streams s.kind) s))

abbrev pub statement_lines : Statement → List Line
statement_lines s = lines_of (is_sort s.kind) s

-- the lines of all statements, one after another
abbrev pub all_lines : List Statement → List Line
all_lines [] = []
all_lines (s ∷ ss) = statement_lines s ++ all_lines ss

-- a whole listing
abbrev pub listing_lines : List Statement → List Line
listing_lines ss = all_lines ss ++ (lines.End ∷ [])

-- ---- the parts of their binary: each command in its shortest spelling, and an end after the last one

abbrev pub command_bytes : {C : Type 0} → (C → ℕ) → List (C × ℕ) → List ℕ
command_bytes byte [] = []
command_bytes byte (c ∷ cs) = shortest (byte c.0) c.1 ++ command_bytes byte cs

abbrev pub unify_bytes : List (UnifyCode × ℕ) → List ℕ
unify_bytes cs = command_bytes unify_byte cs

abbrev pub proof_bytes : List (ProofCode × ℕ) → List ℕ
proof_bytes cs = command_bytes proof_byte cs

abbrev pub unify_stream : Statement → List ℕ
unify_stream s = unify_bytes s.unify ++ (0 ∷ [])

abbrev pub body_of : Bool → Statement → List ℕ
body_of true s = proof_bytes s.proof ++ (0 ∷ [])
body_of false s = []

abbrev pub written : Statement → Written
written s = record { code = statement_byte (code_of s.kind); body = body_of (has_streams s.kind) s }

abbrev pub term_row : Statement → Row
term_row s = row_of_term s.params s.outcome (if has_streams s.kind then Some (unify_stream s) else None)

abbrev pub thm_row : Statement → Row
thm_row s = row_of_thm s.params (unify_stream s)

-- one statement more: a sort, a term's row, or that of an axiom or a theorem
abbrev pub with_row : Kind → Parts → Statement → Parts
with_row kinds.Sort p s = record p { sorts = p.sorts ++ (s.mods ∷ []) }
with_row kinds.Term p s = record p { terms = p.terms ++ (term_row s ∷ []) }
with_row kinds.Definition p s = record p { terms = p.terms ++ (term_row s ∷ []) }
with_row kinds.LocalDefinition p s = record p { terms = p.terms ++ (term_row s ∷ []) }
with_row kinds.Axiom p s = record p { thms = p.thms ++ (thm_row s ∷ []) }
with_row kinds.Theorem p s = record p { thms = p.thms ++ (thm_row s ∷ []) }
with_row kinds.LocalTheorem p s = record p { thms = p.thms ++ (thm_row s ∷ []) }

abbrev pub with_statement : Parts → Statement → Parts
with_statement p s = let q = with_row s.kind p s in record q { statements = q.statements ++ (written s ∷ []) }

abbrev pub parts_from : Parts → List Statement → Parts
parts_from p [] = p
parts_from p (s ∷ ss) = parts_from (with_statement p s) ss

abbrev pub parts_of : List Statement → Parts
parts_of ss = parts_from no_parts ss
