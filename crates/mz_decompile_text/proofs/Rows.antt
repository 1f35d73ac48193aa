-- What the rows of a file spell, as what is read.
use Rattle.std.proofs.Common.{ℕ, ◌≡◌, Bool, true, List, [], length, drop, Option, Some, None, if◌then◌else◌, refl, ap, subst}
use Rattle.mz_logic_theory.specs.Tree.{Tree, none}
use Rattle.mz_logic_theory.specs.Words.{binders_of}
use Rattle.mz_logic_theory.specs.Signature.{Signature}
use Rattle.mz_logic_theory.specs.Declaration.{Form, plain_form, abstract_form, defined, Term}
use Rattle.mz_logic_theory.specs.declared.binder.Binder.{Binder}
use Rattle.mz_layout_tables.specs.Tables.{term_row, thm_row}
use Rattle.mz_machine_theory.specs.Spells.{Marks, SpellsForm, SpellsTerm, Text}
use Rattle.mz_machine_theory.specs.Streams.{StreamKind, UnifyCommand, of_definition}
use Rattle.mz_machine_theory.specs.FileRows.{term_of_file}
use Rattle.mz_decompile_text.specs.Frames.{Target}
use Rattle.mz_decompile_text.specs.Reading.{Over}
use Rattle.mz_decompile_text.specs.Rows.{AreArities}

-- ---- what streams are read over

abbrev pub over : (file : List ℕ) → StreamKind → List Binder → (sigs : List Signature) → AreArities file sigs → Over file
over file kind params sigs arities = record { kind = kind; params = length params; sigs = sigs; arities = arities }

abbrev pub target : Tree → Marks → List UnifyCommand → Target
target e m us = record { tree = e; after = m; rest = us }

abbrev pub thm_params : List ℕ → ℕ → List Binder
thm_params file row = binders_of (thm_row file row).params

abbrev pub thm_stream : List ℕ → ℕ → List ℕ
thm_stream file row = drop (thm_row file row).stream_at file

abbrev pub term_params : List ℕ → ℕ → List Binder
term_params file row = binders_of (term_row file row).words.params

abbrev pub term_stream : List ℕ → ℕ → List ℕ
term_stream file row = drop (term_row file row).stream_at file

-- ---- definitions

text_of_form : (sigs : List Signature) (params : List Binder) (bytes : List ℕ) (form : Form) → SpellsForm sigs params (Some bytes) form
    → (ds : List Binder) × (body : Tree) × (form ≡ defined ds body) × Text of_definition sigs params bytes none body ds
text_of_form sigs params bytes plain_form h = absurd h
text_of_form sigs params bytes abstract_form h = absurd h
text_of_form sigs params bytes (defined ds body) h = (ds, body, refl, h)

-- the row's stream
has_stream : (file : List ℕ) (row : ℕ) → (term_row file row).words.has_body ≡ true → (term_of_file file row).stream ≡ Some (term_stream file row)
has_stream file row has = ap (λ (b : Bool). if b then Some (term_stream file row) else None) has

module _ (file : List ℕ) (row : ℕ) (has : (term_row file row).words.has_body ≡ true) (sigs : List Signature) (d : Term) (spells : SpellsTerm sigs (term_of_file file row) d) where
  form_spelled : SpellsForm sigs (term_params file row) (Some (term_stream file row)) d.form
  form_spelled = subst (λ (s : Option (List ℕ)). SpellsForm sigs (term_params file row) s d.form) (has_stream file row has) spells.1

  -- what a definition's row spells has a body
  pub some_body : (ds : List Binder) × (body : Tree) × (d.form ≡ defined ds body) × Text of_definition sigs (term_params file row) (term_stream file row) none body ds
  some_body = text_of_form sigs (term_params file row) (term_stream file row) d.form form_spelled

  pub body_text : (ds : List Binder) (body : Tree) → d.form ≡ defined ds body → Text of_definition sigs (term_params file row) (term_stream file row) none body ds
  body_text ds body is = subst (λ (f : Form). SpellsForm sigs (term_params file row) (Some (term_stream file row)) f) is form_spelled
