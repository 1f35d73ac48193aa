-- What holds while a unify stream is read.
use Rattle.std.specs.Prelude.{◌≡◌, ◌+◌, ℕ, suc, List, [], ◌∷◌, ◌++◌, length, map, Option, Some, None, slice_set}
use Rattle.mz_logic_theory.specs.Tree.{Tree}
use Rattle.mz_logic_theory.specs.Signature.{Signature}
use Rattle.mz_machine_theory.specs.Streams.{StreamKind, UnifyCommand, StreamIs}
use Rattle.mz_machine_theory.specs.Spells.{Marks, Spells, SpellsHyps, dummy_of}
use Rattle.mz_decompile_text.specs.Phrases.{Phrase}
use Rattle.mz_decompile_text.specs.Phrasing.{Vocabulary, expression}
use Rattle.mz_decompile_text.specs.Rows.{AreArities}
use Rattle.mz_decompile_text.specs.Numbers.{AreAt}
use Rattle.mz_decompile_text.specs.Frames.{Frame, Target, AreMarked, AreOwn, Behind, Within, opens_of, parts}
use Rattle.mz_decompile_text.specs.declared.reading.Open.{Open}
use Rattle.mz_decompile_text.specs.declared.reading.Reading.{Reading}

-- what a stream is read over: so many parameters, and signatures that fit the file's terms
pub record Over (file : List ℕ) : Type 0 where
  pub kind : StreamKind
  pub params : ℕ
  pub sigs : List Signature
  pub arities : AreArities file sigs

-- these are the commands that are left, the marks, the applications that are being read, and what is read of them
pub record Stands (v : Vocabulary) (ps : List Phrase) (kind : StreamKind) (params : ℕ) (r : Reading) (us : List UnifyCommand) (m : Marks) (fs : List Frame) (qs : List Phrase) : Type 0 where
  pub stream : StreamIs kind r.stream.now us
  pub over : r.params ≡ params
  pub marked : AreMarked v ps m.trees r.marks.items fs
  pub own : AreOwn m.trees fs
  pub dummies : m.dummies ≡ map dummy_of r.dummies.items
  pub read : AreAt ps r.read.items qs
  pub pending : r.pending.items ≡ opens_of v fs

-- nothing is being read
abbrev pub IsBetween : (file : List ℕ) → Over file → Vocabulary → List Phrase → Reading → Marks → List UnifyCommand → Type 0
IsBetween file o v ps r m us = Stands v ps o.kind o.params r us m [] []

-- an expression is next, of which these commands are read
pub record IsNext (file : List ℕ) (o : Over file) (v : Vocabulary) (ps : List Phrase) (r : Reading) (t : Target) (first : List UnifyCommand) : Type 0 where
  pub marks : Marks
  pub commands : List UnifyCommand
  pub frames : List Frame
  pub tree : Tree
  pub after : Marks
  pub rest : List UnifyCommand
  pub stands : Stands v ps o.kind o.params r commands marks frames (parts v frames)
  pub spells : Spells o.params o.sigs marks (first ++ commands) tree after rest
  pub behind : Behind o.params o.sigs t after rest frames tree

-- what is read: of applications that are being read, or the whole
abbrev pub held : Vocabulary → Target → List Frame → List Phrase
held v t [] = expression v t.tree ∷ []
held v t (f ∷ fs) = parts v (f ∷ fs)

pub record IsGoing (file : List ℕ) (o : Over file) (v : Vocabulary) (ps : List Phrase) (r : Reading) (t : Target) : Type 0 where
  pub marks : Marks
  pub commands : List UnifyCommand
  pub frames : List Frame
  pub stands : Stands v ps o.kind o.params r commands marks frames (held v t frames)
  pub within : Within o.params o.sigs t marks commands frames

-- ---- steps

-- all operands of the innermost application are read
abbrev pub IsComplete : Reading → Type 0
IsComplete r = (others : List Open) × (o : Open) × (r.pending.items ≡ others ++ o ∷ []) × (o.to ≡ length r.read.items)

-- nothing else has changed but what is read, and the applications that are being read
pub record IsSame (r r' : Reading) : Type 0 where
  pub stream : r'.stream ≡ r.stream
  pub params : r'.params ≡ r.params
  pub marks : r'.marks ≡ r.marks
  pub dummies : r'.dummies ≡ r.dummies

-- an application of so many operands was begun
pub record IsOpened (r r' : Reading) (word operands : ℕ) (mark : Option ℕ) : Type 0 where
  pub read : r'.read.items ≡ r.read.items ++ word ∷ []
  pub pending : r'.pending.items ≡ r.pending.items ++ record { from = length r.read.items; to = length r.read.items + suc operands; mark = mark } ∷ []

-- the marks are those, but for one, if there is one
abbrev pub IsSet : List ℕ → Option ℕ → ℕ → List ℕ → Type 0
IsSet old None number new = new ≡ old
IsSet old (Some i) number new = new ≡ slice_set old i number

-- a hypothesis's expression is next, and others follow behind it
abbrev pub IsAtHyp : (file : List ℕ) → Over file → Vocabulary → List Phrase → Reading → Marks → List Tree → Marks → Type 0
IsAtHyp file o v ps r m hs last = (h : Tree) × (others : List Tree) × (us : List UnifyCommand) × (mid : Marks) × (rest : List UnifyCommand)
    × (hs ≡ h ∷ others) × IsBetween file o v ps r m us × Spells o.params o.sigs m us h mid rest × SpellsHyps o.params o.sigs mid rest others last

-- the first of the hypotheses are read, and others follow
pub record AreRead (file : List ℕ) (o : Over file) (v : Vocabulary) (ps : List Phrase) (r : Reading) (ns : List ℕ) (hs : List Tree) (last : Marks) : Type 0 where
  pub done : List Tree
  pub others : List Tree
  pub marks : Marks
  pub commands : List UnifyCommand
  pub all : hs ≡ done ++ others
  pub between : IsBetween file o v ps r marks commands
  pub spells : SpellsHyps o.params o.sigs marks commands others last
  pub numbers : AreAt ps ns (map (expression v) done)
