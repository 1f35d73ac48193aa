-- The applications that are being read, each an operand of the next.
use Rattle.std.specs.Prelude.{◌≡◌, ◌⊎◌, ◌+◌, ⊤, ℕ, suc, List, [], ◌∷◌, ◌++◌, length, map, Option, Some, None, slice_get}
use Rattle.mz_logic_theory.specs.Tree.{Tree, Trees, app, more, listed}
use Rattle.mz_logic_theory.specs.Signature.{Signature}
use Rattle.mz_machine_theory.specs.Streams.{UnifyCommand}
use Rattle.mz_machine_theory.specs.Spells.{Marks, SpellsAll}
use Rattle.mz_decompile_text.specs.Phrases.{Phrase, a_word}
use Rattle.mz_decompile_text.specs.Phrasing.{Vocabulary, expression}
use Rattle.mz_decompile_text.specs.declared.reading.Open.{Open}

-- its term and operands, those of them that are read, and its own mark, where it is saved
pub record Frame : Type 0 where
  pub term : ℕ
  pub operands : Trees
  pub read : List Tree
  pub mark : Option ℕ

abbrev pub whole : Frame → Tree
whole f = app f.term f.operands

-- one operand more is read
abbrev pub with_read : Frame → Tree → Frame
with_read f e = record f { read = f.read ++ e ∷ [] }

-- these before those
abbrev pub join : List Tree → Trees → Trees
join [] fs = fs
join (e ∷ es) fs = more e (join es fs)

-- ---- what is read of them: their tokens, and the phrases of operands; the innermost stands first in the list, and last here

abbrev pub parts_of : Vocabulary → Frame → List Phrase
parts_of v f = a_word (v.term f.term) ∷ map (expression v) f.read

abbrev pub parts : Vocabulary → List Frame → List Phrase
parts v [] = []
parts v (f ∷ fs) = parts v fs ++ parts_of v f

-- where they stand
abbrev pub open_at : ℕ → Frame → Open
open_at from f = record { from = from; to = from + suc (length (listed f.operands)); mark = f.mark }

abbrev pub opens_of : Vocabulary → List Frame → List Open
opens_of v [] = []
opens_of v (f ∷ fs) = opens_of v fs ++ open_at (length (parts v fs)) f ∷ []

-- ---- their marks

abbrev pub IsOpenMark : List Frame → ℕ → Type 0
IsOpenMark [] i = ⊥
IsOpenMark (f ∷ fs) i = (f.mark ≡ Some i) ⊎ IsOpenMark fs i

-- the mark is the tree's, if there is one
abbrev pub IsOwn : List Tree → Option ℕ → Tree → Type 0
IsOwn trees None e = ⊤
IsOwn trees (Some i) e = slice_get trees i ≡ Some e

abbrev pub AreOwn : List Tree → List Frame → Type 0
AreOwn trees [] = ⊤
AreOwn trees (f ∷ fs) = IsOwn trees f.mark (whole f) × AreOwn trees fs

-- each mark is of an application that is being read, or its phrase has the number that is kept for it
abbrev pub IsMarked : Vocabulary → List Phrase → List ℕ → List Frame → ℕ → Tree → Type 0
IsMarked v ps marks fs i e = IsOpenMark fs i ⊎ ((k : ℕ) × (slice_get marks i ≡ Some k) × (slice_get ps k ≡ Some (expression v e)))

pub record AreMarked (v : Vocabulary) (ps : List Phrase) (trees : List Tree) (marks : List ℕ) (fs : List Frame) : Type 0 where
  pub many : length marks ≡ length trees
  pub each : (i : ℕ) (e : Tree) → slice_get trees i ≡ Some e → IsMarked v ps marks fs i e

-- ---- what is left of them

-- an expression that is read, and what is left after it
pub record Target : Type 0 where
  pub tree : Tree
  pub after : Marks
  pub rest : List UnifyCommand

-- Behind the expression the commands spell what is left of each application, the next of which is the innermost; behind
-- the last the target is read.
abbrev pub Behind : ℕ → List Signature → Target → Marks → List UnifyCommand → List Frame → Tree → Type 0
Behind n sigs t m us [] e = (e ≡ t.tree) × (m ≡ t.after) × (us ≡ t.rest)
Behind n sigs t m us (f ∷ fs) e = (left : Trees) × (mid : Marks) × (rest : List UnifyCommand)
    × (f.operands ≡ join f.read (more e left)) × SpellsAll n sigs m us left mid rest × Behind n sigs t mid rest fs (whole f)

-- the same where no operand is being read
abbrev pub Within : ℕ → List Signature → Target → Marks → List UnifyCommand → List Frame → Type 0
Within n sigs t m us [] = (m ≡ t.after) × (us ≡ t.rest)
Within n sigs t m us (f ∷ fs) = (left : Trees) × (mid : Marks) × (rest : List UnifyCommand)
    × (f.operands ≡ join f.read left) × SpellsAll n sigs m us left mid rest × Behind n sigs t mid rest fs (whole f)
