-- A small text with one statement of each kind, and the parts that say it.
use Rattle.std.specs.Prelude.{ℕ, Bool, true, false, List, [], ◌∷◌, Some, None}
use Rattle.mz_logic_theory.specs.Tree.{Tree, var, app, none, more}
use Rattle.mz_logic_theory.specs.Signature.{Signature}
use Rattle.mz_logic_theory.specs.Declaration.{Form, plain_form, defined, Declaration, sort_decl, term_decl, assertion_decl}
use Rattle.mz_logic_theory.specs.LegalLists.{Statement, Legal}
use Rattle.mz_logic_theory.specs.declared.binder.Binder.{Binder}
use Rattle.mz_logic_theory.specs.declared.word.Word.{Word}
use Rattle.mz_layout_tables.specs.Normal.{Parts, row_of_term, row_of_thm}
use Rattle.mz_layout_tables.specs.Standing.{Fit}
use Rattle.mz_machine_theory.specs.Spells.{dummy_of}
use Rattle.mz_binary_theory.specs.Gapped.{IsGapped}
use Rattle.mz_emit_theory.specs.Gaps.{bodies_written}
use Rattle.mz_emit_theory.specs.FileWriting.{IsWrittenAs}

-- a constant of sort 0, and the constant term 0 as an expression
abbrev pub constant : Signature
constant = record { params = []; result = record { sort = 0; deps = [] } }

abbrev pub truth : Tree
truth = app 0 none

-- a constructor over two bound variables of sort 0
abbrev pub two_bound : List Binder
two_bound = dummy_of 0 ∷ dummy_of 0 ∷ []

abbrev pub constructor : Signature
constructor = record { params = two_bound; result = record { sort = 0; deps = [] } }

-- term 1 over two variables
abbrev pub pair : ℕ → ℕ → Tree
pair x y = app 1 (more (var x) (more (var y) none))

abbrev pub a_term : Signature → Form → Declaration
a_term signature f = term_decl (record { signature = signature; form = f })

abbrev pub holds : Bool → Declaration
holds is_axiom = assertion_decl (record { is_axiom = is_axiom; params = []; hyps = none; conclusion = truth })

abbrev pub said : Bool → Declaration → Statement
said is_local d = record { is_local = is_local; decl = d }

-- A provable sort; two terms; local definitions of the first and, by two dummies, of the second; that the first holds,
-- as an axiom and as a local theorem.
abbrev pub statements_with : Declaration → List Statement
statements_with d =
    said false (sort_decl (record { 0 = 4 })) ∷ said false (a_term constant plain_form) ∷ said false (a_term constructor plain_form)
    ∷ said true (a_term constant (defined [] truth)) ∷ said true d ∷ said false (holds true) ∷ said true (holds false) ∷ []

-- the text's second dummy comes first, and has the number 0 in the binary
abbrev pub text : List Statement
text = statements_with (a_term constant (defined two_bound (pair 1 0)))

abbrev pub made : List Statement
made = statements_with (a_term constant (defined two_bound (pair 0 1)))

abbrev pub result_word : Word
result_word = record { 0 = 0 }

abbrev pub bound_words : List Word
bound_words = record { 0 = 0x8000000000000001 } ∷ record { 0 = 0x8000000000000002 } ∷ []

-- A stream or a body is the term 0, by 30 or 10, and END. The second definition's stream is the term 1 with two dummies,
-- by 33 or 13, which its body makes first. The theorem's body has this command behind the term.
abbrev pub parts_by : ℕ → Parts
parts_by command = record {
  sorts = 4 ∷ [];
  terms = row_of_term [] result_word None ∷ row_of_term bound_words result_word None ∷ row_of_term [] result_word (Some (0x30 ∷ 0x00 ∷ []))
      ∷ row_of_term [] result_word (Some (0x70 ∷ 0x01 ∷ 0x33 ∷ 0x33 ∷ 0x00 ∷ [])) ∷ [];
  thms = row_of_thm [] (0x30 ∷ 0x00 ∷ []) ∷ row_of_thm [] (0x30 ∷ 0x00 ∷ []) ∷ [];
  statements = record { code = 0x04; body = [] } ∷ record { code = 0x05; body = [] } ∷ record { code = 0x05; body = [] } ∷ record { code = 0x0D; body = 0x10 ∷ 0x00 ∷ [] }
      ∷ record { code = 0x0D; body = 0x13 ∷ 0x13 ∷ 0x50 ∷ 0x01 ∷ 0x00 ∷ [] } ∷ record { code = 0x02; body = 0x10 ∷ 0x00 ∷ [] } ∷ record { code = 0x0E; body = 0x10 ∷ command ∷ 0x00 ∷ [] } ∷ [];
}

-- it cites the axiom, by 14
abbrev pub parts : Parts
parts = parts_by 0x14

-- they are within the format's bounds, and say the text, which is legal
abbrev pub ExampleIsWritten : Type 0
ExampleIsWritten = Fit parts × Legal text × IsWrittenAs false parts text made

-- or leaves a gap, by 20
abbrev pub draft_parts : Parts
draft_parts = parts_by 0x20

-- these say the text as a draft, whose theorem, the second assertion, is gapped
abbrev pub DraftIsWritten : Type 0
DraftIsWritten = Fit draft_parts × IsWrittenAs true draft_parts text made × IsGapped (bodies_written text draft_parts.statements) 1
