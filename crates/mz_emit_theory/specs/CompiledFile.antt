-- The file that statements are compiled to, as a function of them (this project's own).
use Rattle.std.specs.Prelude.{Bool, true, false, ℕ, List, [], ◌∷◌, ◌++◌, Option, Some, None}
use Rattle.mz_logic_theory.specs.Tree.{Tree, listed}
use Rattle.mz_logic_theory.specs.Signature.{Signature}
use Rattle.mz_logic_theory.specs.Declaration.{Form, plain_form, abstract_form, defined, Assertion, Declaration, sort_decl, term_decl, assertion_decl}
use Rattle.mz_logic_theory.specs.WordsWritten.{words_of, result_word}
use Rattle.mz_logic_theory.specs.declared.binder.Binder.{Binder}
use Rattle.mz_layout_tables.specs.Normal.{Row, Written, Parts, no_parts, row_of_term, row_of_thm, file_of}
use Rattle.mz_mmu_theory.specs.Statements.{Statement}
use Rattle.mz_mmu_theory.specs.Proof.{Proof}
use Rattle.mz_emit_theory.specs.StreamWriting.{stream_of, assertion_written as assertion_streamed, definition_written as definition_streamed}
use Rattle.mz_emit_theory.specs.Endings.{spelled_body}
use Rattle.mz_emit_theory.specs.BodyWriting.{definition_written, axiom_written, theorem_written}

-- ---- what is added to the parts

abbrev pub with_sort : Parts → ℕ → Parts
with_sort p m = record p { sorts = p.sorts ++ m ∷ []; statements = p.statements ++ record { code = 0x04; body = [] } ∷ [] }

abbrev pub with_term : Parts → Row → Written → Parts
with_term p r w = record p { terms = p.terms ++ r ∷ []; statements = p.statements ++ w ∷ [] }

abbrev pub with_thm : Parts → Row → Written → Parts
with_thm p r w = record p { thms = p.thms ++ r ∷ []; statements = p.statements ++ w ∷ [] }

-- the row of a term that has this stream, if it has one, and of an axiom or theorem
abbrev pub term_row : Signature → Option (List ℕ) → Row
term_row sg stream = row_of_term (words_of sg.params) (result_word sg.params sg.result) stream

abbrev pub thm_row : Assertion → List ℕ → Row
thm_row a stream = row_of_thm (words_of a.params) stream

-- the code of a definition's statement, which may be local
abbrev pub definition_code : Bool → ℕ
definition_code true = 0x0D
definition_code false = 0x05

-- of an axiom's or a theorem's
abbrev pub assertion_code : Bool → Bool → ℕ
assertion_code true is_local = 0x02
assertion_code false true = 0x0E
assertion_code false false = 0x06

-- ---- what is written of a text, as a function of its statements

abbrev pub definition_stream_of : List Binder → List Binder → Tree → List ℕ
definition_stream_of params dummies e = stream_of (definition_streamed params dummies e).commands

abbrev pub definition_body_of : List Binder → List Binder → Tree → List ℕ
definition_body_of params dummies e = spelled_body (definition_written params dummies e).commands

abbrev pub assertion_stream_of : Assertion → List ℕ
assertion_stream_of a = stream_of (assertion_streamed a.params a.hyps a.conclusion).commands

-- the body of an axiom, or of a theorem with this proof
abbrev pub assertion_body_of : List Declaration → List Binder → List Binder → List Tree → Tree → Option Proof → List ℕ
assertion_body_of env params dummies hyps e None = spelled_body (axiom_written params dummies hyps e).commands
assertion_body_of env params dummies hyps e (Some p) = spelled_body (theorem_written env params dummies hyps p).commands

-- a term more; a text has none whose body is left open
abbrev pub with_form : Parts → Bool → Signature → Form → Parts
with_form p is_local sg plain_form = with_term p (term_row sg None) (record { code = 0x05; body = [] })
with_form p is_local sg abstract_form = p
with_form p is_local sg (defined dummies e) =
    with_term p (term_row sg (Some (definition_stream_of sg.params dummies e))) (record { code = definition_code is_local; body = definition_body_of sg.params dummies e })

-- a statement more, local or not, with these dummies and this proof, after env
abbrev pub with_declaration : List Declaration → Parts → Bool → List Binder → Option Proof → Declaration → Parts
with_declaration env p is_local dummies q (sort_decl m) = with_sort p m.0
with_declaration env p is_local dummies q (term_decl t) = with_form p is_local t.signature t.form
with_declaration env p is_local dummies q (assertion_decl a) =
    with_thm p (thm_row a (assertion_stream_of a)) (record { code = assertion_code a.is_axiom is_local; body = assertion_body_of env a.params dummies (listed a.hyps) a.conclusion q })

abbrev pub parts_after : List Declaration → Parts → List Statement → Parts
parts_after env p [] = p
parts_after env p (s ∷ ss) = parts_after (env ++ s.decl ∷ []) (with_declaration env p s.is_local s.dummies s.proof s.decl) ss

abbrev pub compiled_parts : List Statement → Parts
compiled_parts ss = parts_after [] no_parts ss

-- the file that the statements are compiled to
abbrev pub compiled_file : List Statement → List ℕ
compiled_file ss = file_of (compiled_parts ss)
