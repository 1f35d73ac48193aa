-- Phrases, which are s-expressions without places, and how they are written (this project's own form: one space where two
-- parts meet, and a line for each phrase of a text).
use Rattle.std.specs.Prelude.{ℕ, suc, max, List, [], ◌++◌, codes}
use Rattle.mz_sexpr.specs.Node.{Node, Nodes, atom, list, no_nodes, node}

-- a token, or a list of phrases
mutual
  pub data Phrase : Type 0 where
    a_word : List ℕ → Phrase
    a_list : Phrases → Phrase

  pub data Phrases : Type 0 where
    no_phrases : Phrases
    one_more : Phrase → Phrases → Phrases

-- ---- how they are written

abbrev mutual
  pub written : Phrase → List ℕ
  written (a_word w) = w
  written (a_list ps) = codes "(" ++ (all_written ps ++ codes ")")

  -- with a space between each two
  pub all_written : Phrases → List ℕ
  all_written no_phrases = []
  all_written (one_more p no_phrases) = written p
  all_written (one_more p (one_more q qs)) = written p ++ (codes " " ++ all_written (one_more q qs))

-- each with a newline behind it
abbrev pub lines_of : Phrases → List ℕ
lines_of no_phrases = []
lines_of (one_more p ps) = written p ++ (codes "\n" ++ lines_of ps)

-- ---- the nodes that are read of them

-- how deep lists stand in one another
abbrev mutual
  pub depth : Phrase → ℕ
  depth (a_word w) = 0
  depth (a_list ps) = suc (depth_of_all ps)

  pub depth_of_all : Phrases → ℕ
  depth_of_all no_phrases = 0
  depth_of_all (one_more p ps) = max (depth p) (depth_of_all ps)

-- nodes without their places
abbrev mutual
  pub phrase_of : Node → Phrase
  phrase_of (atom at w) = a_word w
  phrase_of (list at ns) = a_list (phrases_of ns)

  pub phrases_of : Nodes → Phrases
  phrases_of no_nodes = no_phrases
  phrases_of (node n ns) = one_more (phrase_of n) (phrases_of ns)
