-- What is asked of the signatures over which a file's rows spell, and what phrases of a row are (this project's own).
use Rattle.std.specs.Prelude.{◌≡◌, ◌<◌, ℕ, List, length, map, All, Some, slice_get}
use Rattle.mz_logic_theory.specs.Signature.{Signature}
use Rattle.mz_logic_theory.specs.Declaration.{Assertion}
use Rattle.mz_logic_theory.specs.Tree.{Tree}
use Rattle.mz_logic_theory.specs.declared.binder.Binder.{Binder}
use Rattle.mz_layout_tables.specs.Tables.{term_count, term_row}
use Rattle.mz_machine_theory.specs.Spells.{dummy_of}
use Rattle.mz_decompile_text.specs.Phrases.{Phrase}
use Rattle.mz_decompile_text.specs.Phrasing.{Vocabulary, expression, expressions}
use Rattle.mz_decompile_text.specs.ByNumber.{phrase_at, phrases_at}
use Rattle.mz_decompile_text.specs.declared.row.Said.{Said}
use Rattle.mz_decompile_text.specs.declared.row.Defined.{Defined}

-- each term has a row in the file, with as many parameters
abbrev pub AreArities : List ℕ → List Signature → Type 0
AreArities file sigs = (t : ℕ) (d : Signature) → slice_get sigs t ≡ Some d → (t < term_count file) × (length d.params ≡ length (term_row file t).words.params)

-- the phrase with the number is there, and is this one
abbrev pub IsPhrase : List Phrase → ℕ → Phrase → Type 0
IsPhrase ps n p = (n < length ps) × (phrase_at ps n ≡ p)

-- these are the phrases of the assertion's conclusion and hypotheses
pub record IsSaid (v : Vocabulary) (ps : List Phrase) (s : Said) (a : Assertion) : Type 0 where
  pub conclusion : IsPhrase ps s.conclusion (expression v a.conclusion)
  pub there : All (λ n. n < length ps) s.hypotheses.items
  pub hypotheses : phrases_at ps s.hypotheses.items ≡ expressions v a.hyps

-- these are the sorts of the dummies, and the body's phrase
pub record IsDefined (v : Vocabulary) (ps : List Phrase) (s : Defined) (ds : List Binder) (e : Tree) : Type 0 where
  pub dummies : ds ≡ map dummy_of s.dummies.items
  pub body : IsPhrase ps s.body (expression v e)
