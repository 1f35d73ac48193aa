-- What the row of a statement that is reported says.
use Rattle.std.specs.Prelude.{◌≡◌, ◌≤◌, ◌<◌, ⊤, ℕ, Bool, true, false, List, [], length, reverse}
use Rattle.mz_cmd.specs.Codes.{statement_byte}
use Rattle.mz_cmd.specs.declared.code.StatementCode.{StatementCode}
use Rattle.mz_cmd.specs.declared.code.StatementCode.TheVariants as codes
use Rattle.mz_logic_theory.specs.Tree.{Tree, listed}
use Rattle.mz_logic_theory.specs.Declaration.{Declaration, sort_decl, term_decl, assertion_decl, Term, Assertion, Form, plain_form, abstract_form, defined, is_defined}
use Rattle.mz_logic_theory.specs.Words.{binders_of, signature_of}
use Rattle.mz_layout_tables.specs.Tables.{sort_count, term_count, thm_count, mods_of, term_row, thm_row}
use Rattle.mz_machine_theory.specs.Spells.{Marks}
use Rattle.mz_layout_tables.specs.RowWords.{bound_count}
use Rattle.mz_binary_theory.specs.declared.statement.Statement.{Statement as Reported}
use Rattle.mz_match_rows.specs.declared.stream.Cursor.{Cursor}
use Rattle.mz_match_rows.specs.Streams.{AreMarks, IsSaid, HypsAreSaid}

-- a stream that begins at a place, over n parameters: its marks, and the expression that it says first
pub record SaysFirst (file : List ℕ) (n start : ℕ) (m : Marks) (f : Tree) : Type 0 where
  pub within : start ≤ length file
  pub marks : AreMarks file n start m
  pub to : Cursor
  pub said : IsSaid file n m start 0 f to.at to.dummies

-- a definition's stream says its body, with its dummies; no row is left open
abbrev pub SaysForm : List ℕ → ℕ → ℕ → Form → Type 0
SaysForm file n start plain_form = ⊤
SaysForm file n start abstract_form = ⊥
SaysForm file n start (defined dummies body) = (m : Marks) × SaysFirst file n start m body × (m.dummies ≡ dummies)

-- an assertion's stream says its conclusion, and behind it the hypotheses from the last to the first
pub record SaysClaims (file : List ℕ) (n start : ℕ) (a : Assertion) : Type 0 where
  pub marks : Marks
  pub conclusion : SaysFirst file n start marks a.conclusion
  pub no_dummies : marks.dummies ≡ []
  pub hyps : HypsAreSaid file n marks conclusion.to.at (reverse (listed a.hyps))

pub record IsTermRow (file : List ℕ) (row : ℕ) (d : Term) : Type 0 where
  pub there : row < term_count file
  pub signature : d.signature ≡ signature_of (term_row file row).words
  pub few : bound_count (term_row file row).words.params ≤ 55
  pub has_body : (term_row file row).words.has_body ≡ is_defined d.form
  pub form : SaysForm file (length (term_row file row).words.params) (term_row file row).stream_at d.form

pub record IsThmRow (file : List ℕ) (row : ℕ) (a : Assertion) : Type 0 where
  pub there : row < thm_count file
  pub params : a.params ≡ binders_of (thm_row file row).params
  pub few : bound_count (thm_row file row).params ≤ 55
  pub claims : SaysClaims file (length (thm_row file row).params) (thm_row file row).stream_at a

-- the code of an axiom's public statement, and of a theorem's
abbrev pub assertion_code : Bool → StatementCode
assertion_code true = codes.Axiom
assertion_code false = codes.Theorem

-- the row of the statement that is reported says the declaration
abbrev pub IsRowOf : List ℕ → Reported → Declaration → Type 0
IsRowOf bin told (sort_decl m) = (told.kind ≡ statement_byte codes.Sort) × (told.row < sort_count bin) × (m ≡ mods_of bin told.row)
IsRowOf bin told (term_decl d) = (told.kind ≡ statement_byte codes.Term) × IsTermRow bin told.row d
IsRowOf bin told (assertion_decl a) = (told.kind ≡ statement_byte (assertion_code a.is_axiom)) × IsThmRow bin told.row a
