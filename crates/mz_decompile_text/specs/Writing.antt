-- What is left to be written of lists that are not closed yet.
use Rattle.std.specs.Prelude.{ℕ, ◌+◌, ◌*◌, ◌<◌, ⊤, Bool, true, false, All, List, [], ◌∷◌, ◌++◌, length, codes}
use Rattle.mz_decompile_text.specs.Phrases.{Phrase, Phrases, no_phrases, one_more, written, all_written}
use Rattle.mz_decompile_text.specs.ByNumber.{phrases_at}
use Rattle.mz_decompile_text.specs.declared.writing.Open.{Open}

-- each with a space before it
abbrev pub after_spaces : Phrases → List ℕ
after_spaces no_phrases = []
after_spaces (one_more p ps) = codes " " ++ (written p ++ after_spaces ps)

-- the parts that are left, where none or some are written
abbrev pub parts_left : Bool → Phrases → List ℕ
parts_left true ps = all_written ps
parts_left false ps = after_spaces ps

-- what is written before the next part
abbrev pub separator : Bool → List ℕ
separator true = []
separator false = codes " "

abbrev pub left_of : List Phrase → Open → List ℕ
left_of ps o = parts_left o.first (phrases_at ps o.parts.now) ++ codes ")"

-- of all, the next of which is the last
abbrev pub left : List Phrase → List Open → List ℕ
left ps [] = []
left ps (o ∷ os) = left ps os ++ left_of ps o

abbrev pub IsOpen : List Phrase → Open → Type 0
IsOpen ps o = All (λ n. n < length ps) o.parts.now

abbrev pub AreOpen : List Phrase → List Open → Type 0
AreOpen ps [] = ⊤
AreOpen ps (o ∷ os) = IsOpen ps o × AreOpen ps os

-- what bounds the steps that are left: twice the bytes, and one for each list of which no part is written
abbrev pub one_if : Bool → ℕ
one_if true = 1
one_if false = 0

abbrev pub weight_of : List Phrase → Open → ℕ
weight_of ps o = 2 * length (left_of ps o) + one_if o.first

abbrev pub weight : List Phrase → List Open → ℕ
weight ps [] = 0
weight ps (o ∷ os) = weight ps os + weight_of ps o
