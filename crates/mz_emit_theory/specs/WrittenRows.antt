-- Rows whose streams are written spell the statements of a legal list.
use Rattle.std.specs.Prelude.{⊤, ℕ, List, ◌++◌, Option, Some, None}
use Rattle.mz_logic_theory.specs.Declaration.{Form, plain_form, abstract_form, defined, Term, Assertion, Declaration, term_decl, assertion_decl, signatures}
use Rattle.mz_logic_theory.specs.Legality.{IsLegalDecl}
use Rattle.mz_logic_theory.specs.declared.binder.Binder.{Binder}
use Rattle.mz_machine_theory.specs.Spells.{SpellsThm, SpellsTerm}
use Rattle.mz_emit_theory.specs.StreamWriting.{assertion_written, definition_written, stream_of, AreShort}
use Rattle.mz_emit_theory.specs.SpelledLists.{form_spelled}

-- the bytes from a term's stream on, where these come after it; only a definition has one
abbrev pub stream_written : List Binder → Form → List ℕ → Option (List ℕ)
stream_written params plain_form further = None
stream_written params abstract_form further = None
stream_written params (defined dummies body) further = Some (stream_of (definition_written params dummies body).commands ++ further)

-- a plain term, or a definition with a body, whose stream's operands take four bytes at most
abbrev pub CanBeStream : List Binder → Form → Type 0
CanBeStream params plain_form = ⊤
CanBeStream params abstract_form = ⊥
CanBeStream params (defined dummies body) = AreShort (definition_written params dummies body).commands

abbrev pub AssertionRowsSpell : Type 0
AssertionRowsSpell = (env : List Declaration) (a : Assertion) (further : List ℕ) → IsLegalDecl env (assertion_decl a) → AreShort (assertion_written a.params a.hyps a.conclusion).commands
    → SpellsThm (signatures env) (record { params = a.params; stream = stream_of (assertion_written a.params a.hyps a.conclusion).commands ++ further }) a

abbrev pub TermRowsSpell : Type 0
TermRowsSpell = (env : List Declaration) (d : Term) (further : List ℕ) → IsLegalDecl env (term_decl d) → CanBeStream d.signature.params d.form
    → SpellsTerm (signatures env) (record { signature = d.signature; stream = stream_written d.signature.params d.form further }) (record d { form = form_spelled d.signature.params d.form })
