-- What is promised of the machine as a definition, whatever a body means.
use Rattle.std.specs.Prelude.{◌≡◌, ℕ, Bool, ◌+◌, ◌*◌, ◌≤◌, ◌⊎◌, ◌↔◌, List, [], ◌∷◌, ◌++◌, length, Some, slice_get}
use Rattle.mz_base.specs.Checks.{AllHold, FailsFirst, AreDecided}
use Rattle.mz_cmd.specs.declared.rule.K.{K}
use Rattle.mz_logic_theory.specs.Declaration.{Term, Assertion, Declaration, sort_decl, term_decl, assertion_decl, signatures}
use Rattle.mz_logic_theory.specs.declared.binder.SortMods.{SortMods}
use Rattle.mz_machine_theory.specs.Profile.{Profile, plain, strict}
use Rattle.mz_machine_theory.specs.Spells.{SpelledTerm, SpelledThm, SpellsTerm, SpellsThm}
use Rattle.mz_machine_theory.specs.MachineState.{RowsBefore, Heading, State, Declares}
use Rattle.mz_machine_theory.specs.Bodies.{body_from, Runs, Stops, body_steps_from, body_checks}

-- a body runs, or stops at one place by one rule
abbrev pub OneOutcome : Profile → Type 0
OneOutcome P = (tables : RowsBefore) (h : Heading) (at : ℕ) (bytes : List ℕ)
    → (Runs P tables h at bytes ⊎ ((place : ℕ) × (rule : K) × Stops P tables h at bytes place rule))
    × ((place : ℕ) (rule : K) → Runs P tables h at bytes → Stops P tables h at bytes place rule → ⊥)
    × ((place place' : ℕ) (rule rule' : K) → Stops P tables h at bytes place rule → Stops P tables h at bytes place' rule' → (place ≡ place') × (rule ≡ rule'))

-- with a bound of at least the bytes the run is the same: a bound never ends it
abbrev pub BoundNeverEnds : Profile → Type 0
BoundNeverEnds P = (tables : RowsBefore) (h : Heading) (n at : ℕ) (bytes : List ℕ) (st : State P.T)
    → length bytes ≤ n → body_from P tables h n at bytes st ≡ body_from P tables h (length bytes) at bytes st

-- nor the count of the commands executed
abbrev pub CountsAreWhole : Profile → Type 0
CountsAreWhole P = (tables : RowsBefore) (h : Heading) (n at : ℕ) (bytes : List ℕ) (st : State P.T)
    → length bytes ≤ n → body_steps_from P tables h n at bytes st ≡ body_steps_from P tables h (length bytes) at bytes st

-- every stream that the body may run has at most n bytes
pub record StreamsWithin (tables : RowsBefore) (h : Heading) (n : ℕ) : Type 0 where
  pub own : length h.stream ≤ n
  pub of_terms : (t : ℕ) (row : SpelledTerm) (stream : List ℕ) → slice_get tables.terms t ≡ Some row → row.stream ≡ Some stream → length stream ≤ n
  pub of_thms : (t : ℕ) (row : SpelledThm) → slice_get tables.thms t ≡ Some row → length row.stream ≤ n

-- each command of what is left of a body executes itself and at most one unify command a byte of a stream
abbrev pub StepsBounded : Profile → Type 0
StepsBounded P = (tables : RowsBefore) (h : Heading) (n : ℕ) → StreamsWithin tables h n
    → (bound at : ℕ) (bytes : List ℕ) (st : State P.T) → body_steps_from P tables h bound at bytes st ≤ length bytes * (n + 1)

-- ---- tables that grow by a row

abbrev pub no_tables : RowsBefore
no_tables = record { sorts = []; terms = []; thms = [] }

abbrev pub with_sort : RowsBefore → SortMods → RowsBefore
with_sort tables m = record tables { sorts = tables.sorts ++ m ∷ [] }

abbrev pub with_term : RowsBefore → SpelledTerm → RowsBefore
with_term tables row = record tables { terms = tables.terms ++ row ∷ [] }

abbrev pub with_thm : RowsBefore → SpelledThm → RowsBefore
with_thm tables row = record tables { thms = tables.thms ++ row ∷ [] }

-- no rows declare nothing
abbrev pub NothingAtFirst : Type 0
NothingAtFirst = Declares no_tables []

-- and with one more row, which spells one more declaration, the rows declare one more
abbrev pub SortsGrow : Type 0
SortsGrow = (tables : RowsBefore) (env : List Declaration) → Declares tables env → (m : SortMods) → Declares (with_sort tables m) (env ++ sort_decl m ∷ [])

abbrev pub TermsGrow : Type 0
TermsGrow = (tables : RowsBefore) (env : List Declaration) → Declares tables env → (row : SpelledTerm) (d : Term) → SpellsTerm (signatures env) row d → Declares (with_term tables row) (env ++ term_decl d ∷ [])

abbrev pub ThmsGrow : Type 0
ThmsGrow = (tables : RowsBefore) (env : List Declaration) → Declares tables env → (row : SpelledThm) (a : Assertion) → SpellsThm (signatures env) row a → Declares (with_thm tables row) (env ++ assertion_decl a ∷ [])

-- ---- a body as checks

-- all checks of a body hold where it runs, and where it stops its rule is the first that fails, at its place
abbrev pub BodiesAreChecked : Profile → Type 0
BodiesAreChecked P = (tables : RowsBefore) (h : Heading) (at : ℕ) (bytes : List ℕ)
    → (AllHold (body_checks P tables h at bytes) ↔ Runs P tables h at bytes)
    × ((place : ℕ) (rule : K) → FailsFirst (body_checks P tables h at bytes) (place, rule) ↔ Stops P tables h at bytes place rule)
    × AreDecided (body_checks P tables h at bytes)

-- ---- gaps

-- a body that runs by the standard machine runs where gaps are let through
abbrev pub StrictRunsWithGaps : Type 0
StrictRunsWithGaps = (gaps : Bool) (tables : RowsBefore) (h : Heading) (at : ℕ) (bytes : List ℕ) → Runs strict tables h at bytes → Runs (plain gaps) tables h at bytes
