-- What is read of a text that is written of statements.
use Rattle.std.specs.Prelude.{◌≡◌, ◌≤◌, ⊤, ℕ, false, List, All}
use Rattle.mz_sexpr.specs.Node.{Nodes, depth_limit}
use Rattle.mz_sexpr.specs.Grammar.{Reads as Spells, IsAllowed, IsAtom}
use Rattle.mz_mmu_theory.specs.Statements.{Statement}
use Rattle.mz_mmu_theory.specs.TextOf.{TextOf}
use Rattle.mz_decompile_text.specs.Phrases.{Phrase, Phrases, a_word, a_list, no_phrases, one_more, lines_of, phrases_of, depth_of_all}
use Rattle.mz_decompile_text.specs.Phrasing.{Vocabulary, text_of}
use Rattle.mz_decompile_text.specs.Phrasable.{HasNames, ArePhrasable}

-- each of its tokens is an atom of allowed bytes
abbrev mutual
  pub HasAtoms : Phrase → Type 0
  HasAtoms (a_word w) = IsAtom w × All IsAllowed w
  HasAtoms (a_list ps) = HaveAtoms ps

  pub HaveAtoms : Phrases → Type 0
  HaveAtoms no_phrases = ⊤
  HaveAtoms (one_more p ps) = HasAtoms p × HaveAtoms ps

-- the lines of phrases spell nodes that are these phrases
abbrev pub LinesSpellPhrases : Type 0
LinesSpellPhrases = (ps : Phrases) → HaveAtoms ps → depth_of_all ps ≤ depth_limit
    → (ns : Nodes) × Spells (lines_of ps) ns × (phrases_of ns ≡ ps)

-- the text of statements that can be phrased is a well-typed text of these statements
abbrev pub StatedTextsAreRead : Type 0
StatedTextsAreRead = (v : Vocabulary) (n : ℕ) (ss : List Statement) → HasNames v n → ArePhrasable v n ss → TextOf false (text_of v ss) ss
