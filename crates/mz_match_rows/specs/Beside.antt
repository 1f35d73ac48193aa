-- A unify stream of a binary beside expressions of a specification.
use Rattle.std.specs.Prelude.{◌≡◌, ◌≤◌, ℕ, List, [], length, Some, slice_get}
use Rattle.mz_logic_theory.specs.Tree.{Tree, Trees, listed}
use Rattle.mz_machine_theory.specs.Spells.{Marks}
use Rattle.mz_match_rows.specs.declared.expression.Sides.{Sides}
use Rattle.mz_match_rows.specs.declared.stream.Cursor.{Cursor}
use Rattle.mz_match_rows.specs.Marks.{AreKept}
use Rattle.mz_match_rows.specs.Streams.{IsSaid, AreSaid, IsMade, AreMarks, HypsAreSaid}
use Rattle.mz_spec_proved_theory.specs.Comparison.{Beside}
use Rattle.mz_spec_proved_theory.specs.AlphaTrees.{SameTree}

-- what is compared, where the stream has these marks
abbrev pub beside : Sides → Marks → Beside
beside s m = record { rows = s.publics.now; params = s.params; ds = s.dummies.now; es = m.dummies }

-- the stream has these marks, and makes them at the places that are kept
pub record IsStream (s : Sides) (m : Marks) : Type 0 where
  pub within : s.start ≤ length s.mmb.now
  pub marks : AreMarks s.mmb.now s.params s.start m
  pub kept : AreKept s.mmb.now s.start s.places.items

abbrev pub at_start : Sides → Cursor
at_start s = record { at = s.start; dummies = 0 }

-- it says an expression from a place to another
abbrev pub SaidAt : Sides → Marks → Cursor → Tree → Cursor → Type 0
SaidAt s m from f to = IsSaid s.mmb.now s.params m from.at from.dummies f to.at to.dummies

abbrev pub AllSaidAt : Sides → Marks → Cursor → Trees → Cursor → Type 0
AllSaidAt s m from fs to = AreSaid s.mmb.now s.params m from.at from.dummies fs to.at to.dummies

abbrev pub MadeAt : Sides → Marks → Cursor → Tree → Cursor → Type 0
MadeAt s m from f to = IsMade s.mmb.now s.params m from.at from.dummies f to.at to.dummies

-- as the stream of an assertion does: without dummies
pub record IsPlainStream (s : Sides) (m : Marks) : Type 0 where
  pub stream : IsStream s m
  pub no_dummies : m.dummies ≡ []
  pub none_beside : s.dummies.now ≡ []

-- behind a conclusion it says these hypotheses, in the order of the stream
abbrev pub HypsSaidAt : Sides → Marks → List Tree → Type 0
HypsSaidAt s m hs = (conclusion : Tree) × (to : Cursor) × SaidAt s m (at_start s) conclusion to × HypsAreSaid s.mmb.now s.params m to.at hs

-- whatever it says from a place on is the i-th of these, if there are so many
abbrev pub IsHypAt : Sides → Trees → ℕ → Cursor → Type 0
IsHypAt s hyps i from = (e : Tree) (m : Marks) (f : Tree) (to : Cursor) → slice_get (listed hyps) i ≡ Some e → IsPlainStream s m → SaidAt s m from f to → SameTree s.publics.now e f
