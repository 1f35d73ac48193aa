-- What a unify stream says, read in place: places of the file in place of lists of commands.
use Rattle.std.specs.Prelude.{◌≡◌, ◌<◌, ◌≤◌, ◌+◌, ◌⊎◌, ℕ, zero, suc, Bool, true, false, List, [], ◌∷◌, length, Option, Some, None, Result, Ok, Err, slice_get}
use Rattle.mz_cmd.specs.declared.command.Cmd.{Cmd}
use Rattle.mz_cmd.specs.declared.command.CmdFault.{CmdFault}
use Rattle.mz_cmd.specs.declared.code.UnifyCode.{UnifyCode}
use Rattle.mz_cmd.specs.declared.code.UnifyCode.TheVariants as codes
use Rattle.mz_cmd.specs.Codes.{unify_code}
use Rattle.mz_cmd.specs.Reading.{command_at}
use Rattle.mz_logic_theory.specs.Tree.{Tree, Trees, var, app, none, more, listed}
use Rattle.mz_layout_tables.specs.Tables.{term_count, term_row}
use Rattle.mz_machine_theory.specs.Spells.{Marks, dummy_of}
use Rattle.mz_match_rows.specs.declared.stream.Step.{Step}
use Rattle.mz_match_rows.specs.declared.stream.Cursor.{Cursor}

-- ---- one command

abbrev pub step_of : ℕ → Cmd → Option UnifyCode → Option Step
step_of at c None = None
step_of at c (Some k) = Some (record { code = k; value = c.value; next = at + c.len })

abbrev pub step_by : ℕ → Result Cmd CmdFault → Option Step
step_by at (Err _) = None
step_by at (Ok c) = step_of at c (unify_code c.code)

-- the command at a place of the file; none at an END
abbrev pub step_at : List ℕ → ℕ → Option Step
step_at file at = step_by at (command_at file at)

-- a command with this code and operand, and the place after it
abbrev pub Says : List ℕ → ℕ → UnifyCode → ℕ → ℕ → Type 0
Says file at code value next = step_at file at ≡ Some (record { code = code; value = value; next = next })

-- ---- marks, and hypotheses

abbrev pub makes_mark : UnifyCode → Bool
makes_mark codes.Term = false
makes_mark codes.TermSave = true
makes_mark codes.Ref = false
makes_mark codes.Dummy = true
makes_mark codes.Hyp = false

abbrev pub dummies_in : UnifyCode → ℕ
dummies_in codes.Term = 0
dummies_in codes.TermSave = 0
dummies_in codes.Ref = 0
dummies_in codes.Dummy = 1
dummies_in codes.Hyp = 0

-- where the j-th mark from a place on is made, and how many dummies are met before it: at the command itself, or behind it
abbrev pub mark_by : (ℕ → Option Cursor) → ℕ → ℕ → Bool → ℕ → Option Cursor
mark_by rest at d false j = rest j
mark_by rest at d true zero = Some (record { at = at; dummies = d })
mark_by rest at d true (suc j) = rest j

abbrev pub mark_here : (ℕ → ℕ → ℕ → Option Cursor) → ℕ → ℕ → ℕ → Option Step → Option Cursor
mark_here rest at d j None = None
mark_here rest at d j (Some s) = mark_by (rest s.next (d + dummies_in s.code)) at d (makes_mark s.code) j

-- among the next n commands
abbrev pub mark_from : List ℕ → ℕ → ℕ → ℕ → ℕ → Option Cursor
mark_from file zero at d j = None
mark_from file (suc n) at d j = mark_here (mark_from file n) at d j (step_at file at)

-- n commands, none of which is a hypothesis's, lead from a place to another
abbrev pub Passes : List ℕ → ℕ → ℕ → ℕ → Type 0
Passes file zero at to = to ≡ at
Passes file (suc n) at to = (s : Step) × (step_at file at ≡ Some s) × (s.code ≡ codes.Hyp → ⊥) × Passes file n s.next to

-- ---- expressions

-- the row is there, and has as many parameters
abbrev pub HasArity : List ℕ → ℕ → Trees → Type 0
HasArity file t es = (t < term_count file) × (length (listed es) ≡ length (term_row file t).words.params)

-- Over n parameters, where these are all marks and all dummies of the stream, an expression is said from a place on, and
-- ends at another; d and d' are how many dummies are met before them.
abbrev mutual
  pub IsSaid : List ℕ → ℕ → Marks → ℕ → ℕ → Tree → ℕ → ℕ → Type 0
  IsSaid file n m at d (var x) to d' =
      ((i : ℕ) × Says file at codes.Ref i to × (slice_get m.trees i ≡ Some (var x)) × (d' ≡ d))
      ⊎ ((s : ℕ) × Says file at codes.Dummy s to × (x ≡ n + d) × (slice_get m.dummies d ≡ Some (dummy_of s)) × (d' ≡ suc d))
  IsSaid file n m at d (app t es) to d' =
      ((i : ℕ) × Says file at codes.Ref i to × (slice_get m.trees i ≡ Some (app t es)) × (d' ≡ d))
      ⊎ ((mid : ℕ) × (Says file at codes.Term t mid ⊎ Says file at codes.TermSave t mid) × HasArity file t es × AreSaid file n m mid d es to d')

  pub AreSaid : List ℕ → ℕ → Marks → ℕ → ℕ → Trees → ℕ → ℕ → Type 0
  AreSaid file n m at d none to d' = (to ≡ at) × (d' ≡ d)
  AreSaid file n m at d (more e es) to d' = (mid : ℕ) × (d1 : ℕ) × IsSaid file n m at d e mid d1 × AreSaid file n m mid d1 es to d'

-- the same without a reference at its head
abbrev pub IsMade : List ℕ → ℕ → Marks → ℕ → ℕ → Tree → ℕ → ℕ → Type 0
IsMade file n m at d (var x) to d' =
    (s : ℕ) × Says file at codes.Dummy s to × (x ≡ n + d) × (slice_get m.dummies d ≡ Some (dummy_of s)) × (d' ≡ suc d)
IsMade file n m at d (app t es) to d' =
    (mid : ℕ) × (Says file at codes.Term t mid ⊎ Says file at codes.TermSave t mid) × HasArity file t es × AreSaid file n m mid d es to d'

-- where a mark's expression is made
pub record IsMarkAt (file : List ℕ) (n start : ℕ) (m : Marks) (j : ℕ) (f : Tree) : Type 0 where
  pub many : ℕ
  pub place : Cursor
  pub end : Cursor
  pub found : mark_from file many start 0 j ≡ Some place
  pub made : IsMade file n m place.at place.dummies f end.at end.dummies

-- all marks of the stream that begins at a place: the parameters, and after them what its commands make, in order
pub record AreMarks (file : List ℕ) (n start : ℕ) (m : Marks) : Type 0 where
  pub params : (i : ℕ) → i < n → slice_get m.trees i ≡ Some (var i)
  pub made : (j : ℕ) (f : Tree) → slice_get m.trees (n + j) ≡ Some f → IsMarkAt file n start m j f
  pub few : length m.dummies ≤ 55

-- hypotheses, each behind its command, up to an END
abbrev pub HypsAreSaid : List ℕ → ℕ → Marks → ℕ → List Tree → Type 0
HypsAreSaid file n m at [] = step_at file at ≡ None
HypsAreSaid file n m at (h ∷ hs) = (v : ℕ) × (next : ℕ) × (to : ℕ) × Says file at codes.Hyp v next × IsSaid file n m next 0 h to 0 × HypsAreSaid file n m to hs
