-- What a checker answers.
use Rattle.std.specs.Prelude.{◌≡◌, ◌≤◌, ◌<◌, ◌↔◌, ⊤, ℕ, ◌+◌, Bool, true, false, List, [], ◌∷◌, ◌++◌, length}
use Rattle.mz_logic_theory.specs.Declaration.{Declaration, assertions}
use Rattle.mz_logic_theory.specs.LegalLists.{Statement, Legal, DraftLegal, declarations}
use Rattle.mz_logic_theory.specs.Closed.{TheoremsClosed}
use Rattle.mz_layout_tables.specs.Tables.{list_at}
use Rattle.mz_layout_tables.specs.Layout.{Layout}
use Rattle.mz_binary_theory.specs.declared.statement.Statement.{Statement as Reported}
use Rattle.mz_binary.specs.declared.checker.Next.{Next}
use Rattle.mz_binary.specs.declared.checker.Next.TheVariants as next
use Rattle.mz_binary.specs.declared.check_file.Checked.{Checked}
use Rattle.mz_binary.specs.declared.check_file.Checked.TheVariants as checked
use Rattle.mz_machine_theory.specs.FileRows.{taken_by}
use Rattle.mz_binary_theory.specs.FileRun.{RunsBody}
use Rattle.mz_binary_theory.specs.Chains.{IsGoodStatement, GoodTo}
use Rattle.mz_binary_theory.specs.Good.{Good, FailsAfter, BinaryFault}
use Rattle.mz_binary_theory.specs.Gapped.{GappedIn, AreFreeUnlessGapped}
use Rattle.mz_binary.specs.Progress.{Progress, HasPassed, CountsRows, Tells, next_steps, steps_left, most_left, under}
use Rattle.mz_binary_theory.specs.Standards.{Standard, lets_gaps}

-- the next statement is good, it is what is reported, and the checker has passed it; in a draft it is reported where it is a gapped
-- theorem
pub record Passes (p : Progress) (ss : List Statement) (env : List Declaration) (after : Progress) (told : Reported) : Type 0 where
  pub statement : Statement
  pub good : IsGoodStatement p.standard p.file env p.at statement after.at
  pub passed : HasPassed after (ss ++ statement ∷ []) (env ++ statement.decl ∷ [])
  pub tells : Tells told (length ss + 1) p.at env statement
  pub gap : (told.gap ≡ true) ↔ ((lets_gaps p.standard ≡ true) × GappedIn p.file (ss ++ statement ∷ []) (length (assertions env)))
  pub same_file : after.file ≡ p.file
  pub same_standard : after.standard ≡ p.standard
  pub further : p.at < after.at
  pub within : after.at ≤ length p.file

-- after good statements, which declare env, what comes next; out of memory only where a body runs
abbrev pub IsNext : {B : Type 0} → Progress → List Statement → List Declaration → Next B → Type 0
IsNext p ss env (next.Statement after told) = Passes p ss env (under p.standard after) told
IsNext p ss env (next.End rows) = Good p.standard p.file ss × CountsRows rows env
IsNext p ss env (next.Refused refusal) = FailsAfter p.standard p.file ss env p.at refusal
IsNext p ss env next.Mem = RunsBody p.file (taken_by env) p.at

-- the answer is another than out of memory
abbrev pub IfTold : {B : Type 0} → Next B → Type 0 → Type 0
IfTold (next.Statement after told) P = P
IfTold (next.End rows) P = P
IfTold (next.Refused refusal) P = P
IfTold next.Mem P = ⊤

-- what is left after it of the commands executed in the list
abbrev pub IsLeft : {B : Type 0} → Progress → Next B → Type 0
IsLeft p (next.Statement after told) = steps_left p ≡ next_steps p + steps_left (under p.standard after)
IsLeft p (next.End rows) = steps_left p ≡ next_steps p
IsLeft p (next.Refused refusal) = steps_left p ≡ next_steps p
IsLeft p next.Mem = ⊤

-- the most that may be counted, out of memory or not: where the list goes on, what may be counted after is kept
abbrev pub IsMost : {B : Type 0} → Progress → (old new : ℕ) → Next B → Type 0
IsMost p old new (next.Statement after told) = new + most_left (under p.standard after) ≤ old + most_left p
IsMost p old new (next.End rows) = new ≤ old + most_left p
IsMost p old new (next.Refused refusal) = new ≤ old + most_left p
IsMost p old new next.Mem = new ≤ old + most_left p

-- header and tables are in order, and after good statements a body runs
pub record RunsSomeBody (standard : Standard) (file : List ℕ) : Type 0 where
  pub layout : Layout file
  pub before : List Statement
  pub env : List Declaration
  pub at : ℕ
  pub statements : GoodTo standard file [] (list_at file) before env at
  pub runs : RunsBody file (taken_by env) at

-- What good statements are: a legal list, with derivations from axioms alone of all theorems. In a draft a legal draft, of which each
-- theorem that isn't gapped has a derivation without gaps that cites no gapped theorem.
abbrev pub AreSound : Bool → List ℕ → List Statement → Type 0
AreSound false file ss = Legal ss × TheoremsClosed ss
AreSound true file ss = DraftLegal ss × AreFreeUnlessGapped file ss

-- The file is good, by statements that are sound and that take so many rows; or this is its first fault. It is out of
-- memory only where a body runs.
abbrev pub IsChecked : Standard → List ℕ → Checked → Type 0
IsChecked standard file (checked.Good rows) = (ss : List Statement) × Good standard file ss × AreSound (lets_gaps standard) file ss × CountsRows rows (declarations ss)
IsChecked standard file (checked.Refused refusal) = BinaryFault standard file refusal
IsChecked standard file checked.Mem = RunsSomeBody standard file

-- what is said is other than out of memory
abbrev pub IfJudged : Checked → Type 0 → Type 0
IfJudged (checked.Good rows) P = P
IfJudged (checked.Refused refusal) P = P
IfJudged checked.Mem P = ⊤
