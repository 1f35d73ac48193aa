-- What is promised of whole files: the statements of the laws that `whole_laws.rt` proves.
use Rattle.std.specs.Prelude.{◌≡◌, ◌⊎◌, ◌↔◌, ◌≤◌, ◌<◌, ℕ, ◌+◌, ◌-◌, ◌*◌, false, List, [], length, Ok, Err}
use Rattle.mz_cmd.specs.declared.rule.Refusal.{Refusal}
use Rattle.mz_cmd.specs.declared.statement.StmtAt.TheVariants.{Head}
use Rattle.mz_cmd.specs.StatementList.{statement_at}
use Rattle.mz_logic_theory.specs.Declaration.{Assertion, Declaration, assertion_decl}
use Rattle.mz_logic_theory.specs.LegalLists.{Statement, IsProvedBy, LegalBy, allowed_with}
use Rattle.mz_logic_theory.specs.Closed.{TheoremsClosed}
use Rattle.mz_layout_tables.specs.Tables.{list_at}
use Rattle.mz_machine_theory.specs.Sound.{cites_as}
use Rattle.mz_layout_tables.specs.Heads.{body_bytes}
use Rattle.mz_machine_theory.specs.FileRows.{Taken}
use Rattle.mz_binary_theory.specs.Chains.{Statements, IsGoodStatement, GoodTo}
use Rattle.mz_binary_theory.specs.Good.{Good, BinaryFault}
use Rattle.mz_binary_theory.specs.Gapped.{AreFreeUnlessGapped}
use Rattle.mz_binary_theory.specs.FileRun.{run_list, run_file, list_steps, file_steps}
use Rattle.mz_binary_theory.specs.Standards.{Standard, lets_gaps, published, strict_standard}
use Rattle.mz_machine_theory.specs.MachineState.{RowsBefore, Heading}
use Rattle.mz_machine_theory.specs.Laws.{StreamsWithin}

-- the statements of a good file are a legal list, a draft where gaps are let through
abbrev pub GoodFilesAreLegal : Type 0
GoodFilesAreLegal = (standard : Standard) (file : List ℕ) (ss : List Statement) → Good standard file ss → LegalBy (allowed_with (lets_gaps standard)) ss

-- what is good by any standard is good by the standard machine
abbrev pub GoodFilesAreGoodByTable : Type 0
GoodFilesAreGoodByTable = (standard : Standard) (file : List ℕ) (ss : List Statement) → Good standard file ss → Good (published standard.mode) file ss

-- without gaps each theorem has a derivation from axioms alone over the statements before it
abbrev pub GoodFilesAreClosed : Type 0
GoodFilesAreClosed = (file : List ℕ) (ss : List Statement) → Good strict_standard file ss → TheoremsClosed ss

-- a theorem of a good file, which stands at a place after good statements: its derivation cites only what the
-- commands of its body cite
abbrev pub TheoremsCiteAsTheirBodies : Type 0
TheoremsCiteAsTheirBodies = (standard : Standard) (file : List ℕ) (before : List Statement) (env : List Declaration) (at : ℕ) (s : Statement) (next code body : ℕ) (a : Assertion)
    → GoodTo standard file [] (list_at file) before env at → IsGoodStatement standard file env at s next → statement_at file at ≡ Ok (Head code body next)
    → s.decl ≡ assertion_decl a → a.is_axiom ≡ false → IsProvedBy (cites_as (lets_gaps standard) (body_bytes file body next)) env a

-- the list of statements is a function of the file
abbrev pub OneListOfStatements : Type 0
OneListOfStatements = (file : List ℕ) (ss ts : List Statement) → Statements file ss → Statements file ts → ss ≡ ts

-- and a good file is good by it
abbrev pub GoodFilesSpell : Type 0
GoodFilesSpell = (standard : Standard) (file : List ℕ) (ss : List Statement) → Good standard file ss → Statements file ss

-- each file is good, or has a first fault
abbrev pub GoodOrFault : Type 0
GoodOrFault = (standard : Standard) (file : List ℕ) → ((ss : List Statement) × Good standard file ss) ⊎ ((refusal : Refusal) × BinaryFault standard file refusal)

-- not both
abbrev pub NotBoth : Type 0
NotBoth = (standard : Standard) (file : List ℕ) (ss : List Statement) (refusal : Refusal) → Good standard file ss → BinaryFault standard file refusal → ⊥

-- and no two
abbrev pub OneFault : Type 0
OneFault = (standard : Standard) (file : List ℕ) (refusal other : Refusal) → BinaryFault standard file refusal → BinaryFault standard file other → refusal ≡ other

-- what is computed of a file is its first fault, and no fault where it is good
abbrev pub RunsAreExact : Type 0
RunsAreExact = (standard : Standard) (file : List ℕ)
    → (((taken : Taken) × (run_file standard file ≡ Ok taken)) ↔ ((ss : List Statement) × Good standard file ss))
    × ((refusal : Refusal) → (run_file standard file ≡ Err refusal) ↔ BinaryFault standard file refusal)

-- each command of a body executes itself and at most one unify command a byte of a stream
abbrev pub StepsAreFew : Standard → Type 0
StepsAreFew standard = (tables : RowsBefore) (h : Heading) (n : ℕ) → StreamsWithin tables h n → (at : ℕ) (bytes : List ℕ) → standard.steps tables h at bytes ≤ length bytes * (n + 1)

-- so a file of n bytes executes at most n * n + n commands
abbrev pub StepsOfAFile : Type 0
StepsOfAFile = (standard : Standard) → StepsAreFew standard → (file : List ℕ) → file_steps standard file ≤ length file * length file + length file

-- a bound that is more than the bytes left never ends the list, nor the count of the commands executed
abbrev pub BoundNeverEndsAList : Type 0
BoundNeverEndsAList = (standard : Standard) (file : List ℕ) (bound other n : ℕ) (taken : Taken) (at : ℕ) → length file - at < bound → length file - at < other
    → (run_list standard file bound n taken at ≡ run_list standard file other n taken at) × (list_steps standard file bound taken at ≡ list_steps standard file other taken at)

-- ---- gaps

-- each theorem of a good file that isn't gapped has a derivation without gaps that cites no gapped theorem
abbrev pub UngappedAreFree : Type 0
UngappedAreFree = (standard : Standard) (file : List ℕ) (ss : List Statement) → Good standard file ss → AreFreeUnlessGapped file ss
