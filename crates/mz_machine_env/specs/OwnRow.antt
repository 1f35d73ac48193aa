-- A statement's own row, and what its body is run for (the .mmb format, its list of statements).
use Rattle.std.specs.Prelude.{◌≡◌, ◌<◌, ◌≤◌, ◌+◌, ◌*◌, ◌⊎◌, ℕ, true, List, [], map}
use Rattle.std.specs.List.{range_with_len}
use Rattle.mz_logic_theory.specs.declared.word.Word.{Word}
use Rattle.mz_layout_tables.specs.Numbers.{number_at}
use Rattle.mz_layout_tables.specs.Tables.{term_count, thm_count, term_row, thm_row}
use Rattle.mz_store.specs.declared.item.Item.{Item as Kept}
use Rattle.mz_store.specs.declared.item.Id.{Id}
use Rattle.mz_store.specs.declared.item.Item.TheVariants.{Expr, Proof}
use Rattle.mz_store.specs.declared.item.DepsMode.{DepsMode}
use Rattle.mz_store.specs.declared.item.DepsMode.TheVariants.{All, Free}
use Rattle.mz_machine_theory.specs.MachineState.{Kind, is_axiom, is_theorem, is_definition}
use Rattle.mz_machine_env.specs.Before.{AreWithin, HasRightWords, HasRightParams}
use Rattle.mz_machine_env.specs.declared.own.BodyKind.{BodyKind}
use Rattle.mz_machine_env.specs.declared.own.BodyKind.TheVariants.{Axiom, Definition, Theorem}
use Rattle.mz_layout_tables.specs.declared.rows_so_far.Rows.{Rows}
use Rattle.mz_machine_theory.specs.Headings.{kind_at}

-- ---- kinds

abbrev pub kind_of : BodyKind → Kind
kind_of Axiom = is_axiom
kind_of Definition = is_definition
kind_of Theorem = is_theorem

-- the code of such a statement, without its visibility
abbrev pub byte_of : BodyKind → ℕ
byte_of Axiom = 0x02
byte_of Definition = 0x05
byte_of Theorem = 0x06

-- which variables the words of expressions name: in a definition's body the free ones
abbrev pub mode_for : Kind → DepsMode
mode_for is_axiom = All
mode_for is_theorem = All
mode_for is_definition = Free

-- ---- the row

-- the words of the row's parameters
abbrev pub own_words : List ℕ → ℕ → Kind → List Word
own_words file row is_axiom = (thm_row file row).params
own_words file row is_theorem = (thm_row file row).params
own_words file row is_definition = (term_row file row).words.params

-- so many words, of which the first stands at a place of the file
abbrev pub words_from : List ℕ → (at count : ℕ) → List Word
words_from file at count = map (λ i. record { 0 = number_at 8 file (at + 8 * i) }) (range_with_len 0 count)

-- the first n ids
abbrev pub id_at : ℕ → Id
id_at i = record { 0 = i }

abbrev pub first_ids : ℕ → List Id
first_ids n = map id_at (range_with_len 0 n)

-- hypotheses as proofs, of which a definition has none
abbrev pub own_proofs : Kind → List Id → List Kept
own_proofs is_axiom hyps = map Proof hyps
own_proofs is_theorem hyps = map Proof hyps
own_proofs is_definition hyps = []

-- the first n ids, as expressions
abbrev pub first_items : ℕ → List Kept
first_items n = map (λ i. Expr (record { 0 = i })) (range_with_len 0 n)

-- the row is the next of its kind, it is there, and its words are right; a definition's has a body
abbrev pub IsNextRow : List ℕ → Rows → ℕ → Kind → Type 0
IsNextRow file before row is_axiom = (row ≡ before.thms) × (row < thm_count file) × HasRightParams file before.sorts row
IsNextRow file before row is_theorem = (row ≡ before.thms) × (row < thm_count file) × HasRightParams file before.sorts row
IsNextRow file before row is_definition =
    (row ≡ before.terms) × (row < term_count file) × ((term_row file row).words.has_body ≡ true) × HasRightWords file before.sorts row

-- The kind is that of an axiom (02), a definition (05) or a theorem (06), and the row is the next of its kind. The words
-- of the rows before it were right in their turn, where perhaps fewer sorts were declared.
pub record MayRun (file : List ℕ) (kind row : ℕ) (before : Rows) : Type 0 where
  pub kinds : (kind ≡ 0x02) ⊎ (kind ≡ 0x05) ⊎ (kind ≡ 0x06)
  pub within : AreWithin file before
  pub next : IsNextRow file before row (kind_at kind)
  pub terms_right : (t : ℕ) → t < before.terms → (n : ℕ) × (n ≤ before.sorts) × HasRightWords file n t
  pub thms_right : (i : ℕ) → i < before.thms → (n : ℕ) × (n ≤ before.sorts) × HasRightParams file n i
