-- What is said of the nodes so far.
use Rattle.std.specs.Prelude.{ℕ, ◌≡◌, ◌<◌, List, [], ◌∷◌, ◌++◌, length, map, drop}
use Rattle.mz_decompile_text.specs.Phrases.{Phrase}
use Rattle.mz_decompile_text.specs.Phrasing.{Vocabulary}
use Rattle.mz_decompile_text.specs.ByNumber.{phrase_at, Grows}
use Rattle.mz_decompile_text.specs.Measures.{capped}
use Rattle.mz_trace.specs.declared.node.RunNode.{RunNode}
use Rattle.mz_decompile_text.specs.Growing.{AreThere, those_at}
use Rattle.mz_decompile_text.specs.Telling.{told, told_behind, weighed, weight_at, weight_behind, all_told, all_weighed}
use Rattle.mz_decompile_text.specs.declared.proof.SizedNodes.{SizedNodes}

-- each has a phrase that is there, and a weight
pub record AreTold (ps : List Phrase) (t : SizedNodes) : Type 0 where
  pub there : AreThere ps t.phrases.items
  pub same : length t.weights.items ≡ length t.phrases.items

abbrev pub phrases_in : List Phrase → SizedNodes → List Phrase
phrases_in ps t = those_at ps t.phrases.items

-- the phrases and the weights of these nodes
pub record AreGathered (v : Vocabulary) (ps : List Phrase) (ns : List RunNode) (t : SizedNodes) : Type 0 where
  pub there : AreTold ps t
  pub phrases : phrases_in ps t ≡ all_told v ns
  pub weights : t.weights.items ≡ map capped (all_weighed ns)

-- those of one more
pub record IsOneMore (v : Vocabulary) (ps qs : List Phrase) (t u : SizedNodes) (n : RunNode) : Type 0 where
  pub grows : Grows ps qs
  pub there : AreTold qs u
  pub phrases : phrases_in qs u ≡ phrases_in ps t ++ told v (phrases_in ps t) n ∷ []
  pub weights : u.weights.items ≡ t.weights.items ++ capped (weighed t.weights.items n) ∷ []

-- the phrase and the weight of the root behind the lets from the k-th on
pub record IsBehind (v : Vocabulary) (ps qs : List Phrase) (t : SizedNodes) (lets : List ℕ) (root k phrase weight : ℕ) : Type 0 where
  pub grows : Grows ps qs
  pub there : phrase < length qs
  pub is : phrase_at qs phrase ≡ told_behind v k (map (phrase_at (phrases_in ps t)) (drop k lets)) (phrase_at (phrases_in ps t) root)
  pub weighs : weight ≡ capped (weight_behind (map (weight_at t.weights.items) (drop k lets)) (weight_at t.weights.items root))
