-- What is said of a specification and a binary together (this project's own, of mm0.md's and the .mmb format's parts).
use Rattle.std.specs.Prelude.{◌≡◌, ◌⊎◌, ◌+◌, ⊤, ℕ, List, [], ◌∷◌, length, false, if◌then◌else◌}
use Rattle.mz_base.specs.Checks.{FailsFirst}
use Rattle.mz_cmd.specs.declared.rule.Refusal.{Refusal}
use Rattle.mz_logic_theory.specs.Declaration.{Declaration}
use Rattle.mz_logic_theory.specs.LegalLists.{Statement, Legal}
use Rattle.mz_logic_theory.specs.Closed.{TheoremsClosed}
use Rattle.mz_layout_tables.specs.Layout.{Layout, layout_checks}
use Rattle.mz_layout_tables.specs.Tables.{list_at}
use Rattle.mz_binary_theory.specs.Chains.{Statements, IsGoodStatement, GoodTo, EndsAt}
use Rattle.mz_binary_theory.specs.FileRun.{steps_through, file_steps}
use Rattle.mz_binary_theory.specs.Good.{Good, FailsAfter}
use Rattle.mz_spec_theory.specs.Spec.{SpecOf, SpecFault}
use Rattle.mz_spec_proved_theory.specs.declared.kind.Kind.{Kind}
use Rattle.mz_spec_proved_theory.specs.declared.kind.Kind.TheVariants as kinds
use Rattle.mz_spec_proved_theory.specs.declared.rule.M.{M}
use Rattle.mz_match_theory.specs.declared.verdict.Counts.{Counts}
use Rattle.mz_match_theory.specs.declared.verdict.Verdict.{Verdict}
use Rattle.mz_match_theory.specs.declared.verdict.Verdict.TheVariants as verdicts
use Rattle.mz_binary_theory.specs.RefusalLine.{refusal_line}
use Rattle.mz_match_theory.specs.Lines.{accepted_line, spec_line, match_line}
use Rattle.mz_spec_proved_theory.specs.Match.{partner_of, publics, kind_of, is_kind, Agrees, Leaves, partner_checks, end_checks}
use Rattle.mz_spec_proved_theory.specs.Proved.{TheoremsAreProved}
use Rattle.mz_binary_theory.specs.Standards.{Standard, strict_standard}

-- ---- accepted

-- how many declarations there are of a kind
abbrev pub count : Kind → List Declaration → ℕ
count k [] = 0
count k (d ∷ ds) = (if is_kind (kind_of d) k then 1 else 0) + count k ds

abbrev pub counts_of : List Declaration → Counts
counts_of ds = record {
  sorts = count kinds.Sort ds;
  terms = count kinds.Term ds;
  axioms = count kinds.Axiom ds;
  definitions = count kinds.Definition ds;
  theorems = count kinds.Theorem ds;
}

-- the specification declares something, the binary is good by the standard, and its public statements agree
pub record AcceptsBy (standard : Standard) (spec bin : List ℕ) : Type 0 where
  pub declared : List Declaration
  pub statements : List Statement
  pub is_spec : SpecOf spec declared
  pub is_good : Good standard bin statements
  pub agrees : Agrees declared (publics statements)

abbrev pub Accepts : List ℕ → List ℕ → Type 0
Accepts spec bin = AcceptsBy strict_standard spec bin

-- so many of each kind are declared
abbrev pub AcceptsWithBy : Standard → List ℕ → List ℕ → Counts → Type 0
AcceptsWithBy standard spec bin counts = (accepts : AcceptsBy standard spec bin) × (counts ≡ counts_of accepts.declared)

abbrev pub AcceptsWith : List ℕ → List ℕ → Counts → Type 0
AcceptsWith spec bin counts = AcceptsWithBy strict_standard spec bin counts

-- The specification and the binary's statements agree, and every theorem of the specification is proved. All of the
-- binary's statements are a legal list too, and each of its theorems has a derivation from axioms alone.
pub record IsSound (spec bin : List ℕ) : Type 0 where
  pub declared : List Declaration
  pub statements : List Statement
  pub is_spec : SpecOf spec declared
  pub spelled : Statements bin statements
  pub theorems : TheoremsAreProved declared statements
  pub legal : Legal statements
  pub closed : TheoremsClosed statements
  pub agrees : Agrees declared (publics statements)

abbrev pub IsSoundIfAccepted : List ℕ → List ℕ → Verdict → Type 0
IsSoundIfAccepted spec bin (verdicts.Accepted counts) = IsSound spec bin
IsSoundIfAccepted spec bin (verdicts.Spec refusal) = ⊤
IsSoundIfAccepted spec bin (verdicts.Binary refusal) = ⊤
IsSoundIfAccepted spec bin (verdicts.Match declaration statement rule) = ⊤
IsSoundIfAccepted spec bin verdicts.Mem = ⊤

-- ---- refused

-- the binary's first fault comes before anything differs from the declarations: header and tables fail, or the
-- statements before are good and agree, and after them a rule fails
abbrev pub BinaryFails : Standard → List ℕ → List Declaration → Refusal → Type 0
BinaryFails standard bin ds refusal =
    ((refusal.statement ≡ 0) × FailsFirst (layout_checks bin) (refusal.at, refusal.rule))
    ⊎ ((ss : List Statement) × (env : List Declaration) × (at : ℕ) × (left : List Declaration) × FailsAfter standard bin ss env at refusal × Leaves ds ss left)

-- after good statements that agree, the list ends before the declarations do, or a good public statement stands there
-- that differs from the next declaration
abbrev pub Differs : Standard → List ℕ → List Statement → List Declaration → ℕ → List Declaration → M → Type 0
Differs standard bin before env at left rule =
    (EndsAt standard bin env at × FailsFirst (end_checks left) rule)
    ⊎ ((s : Statement) × (next : ℕ) × IsGoodStatement standard bin env at s next × (s.is_local ≡ false) × FailsFirst (partner_checks left (partner_of before s)) rule)

-- the first difference: at which declaration, and at which statement
pub record MatchFails (standard : Standard) (bin : List ℕ) (ds : List Declaration) (declaration statement : ℕ) (rule : M) : Type 0 where
  pub layout : Layout bin
  pub before : List Statement
  pub env : List Declaration
  pub at : ℕ
  pub left : List Declaration
  pub statements : GoodTo standard bin [] (list_at bin) before env at
  pub leaves : Leaves ds before left
  pub declaration_is : declaration ≡ length (publics before) + 1
  pub statement_is : statement ≡ length before + 1
  pub fails : Differs standard bin before env at left rule

-- the first refusal: of the specification, else of the binary or of the match, whichever comes first
abbrev pub FirstRefusalBy : Standard → List ℕ → List ℕ → Verdict → Type 0
FirstRefusalBy standard spec bin (verdicts.Accepted counts) = ⊥
FirstRefusalBy standard spec bin (verdicts.Spec refusal) = SpecFault spec refusal
FirstRefusalBy standard spec bin (verdicts.Binary refusal) = (ds : List Declaration) × SpecOf spec ds × BinaryFails standard bin ds refusal
FirstRefusalBy standard spec bin (verdicts.Match declaration statement rule) = (ds : List Declaration) × SpecOf spec ds × MatchFails standard bin ds declaration statement rule
FirstRefusalBy standard spec bin verdicts.Mem = ⊥

abbrev pub FirstRefusal : List ℕ → List ℕ → Verdict → Type 0
FirstRefusal spec bin verdict = FirstRefusalBy strict_standard spec bin verdict

-- ---- either

abbrev pub IsVerdictBy : Standard → List ℕ → List ℕ → Verdict → Type 0
IsVerdictBy standard spec bin (verdicts.Accepted counts) = AcceptsWithBy standard spec bin counts
IsVerdictBy standard spec bin (verdicts.Spec refusal) = FirstRefusalBy standard spec bin (verdicts.Spec refusal)
IsVerdictBy standard spec bin (verdicts.Binary refusal) = FirstRefusalBy standard spec bin (verdicts.Binary refusal)
IsVerdictBy standard spec bin (verdicts.Match declaration statement rule) = FirstRefusalBy standard spec bin (verdicts.Match declaration statement rule)
IsVerdictBy standard spec bin verdicts.Mem = ⊤

abbrev pub IsVerdict : List ℕ → List ℕ → Verdict → Type 0
IsVerdict spec bin verdict = IsVerdictBy strict_standard spec bin verdict

-- ---- its line

-- out of memory has none
abbrev pub line_of : Verdict → List ℕ
line_of (verdicts.Accepted counts) = accepted_line counts
line_of (verdicts.Spec refusal) = spec_line refusal
line_of (verdicts.Binary refusal) = refusal_line refusal
line_of (verdicts.Match declaration statement rule) = match_line declaration statement rule
line_of verdicts.Mem = []

-- ---- steps

-- the commands executed: none before the binary, then all of it up to its first fault; at a difference those of the
-- statements up to the one that it names; out of memory, only the bound on the whole file holds
abbrev pub TicksBy : Standard → List ℕ → (old new : ℕ) → Verdict → Type 0
TicksBy standard bin old new (verdicts.Accepted counts) = new ≡ old + file_steps standard bin
TicksBy standard bin old new (verdicts.Spec refusal) = new ≡ old
TicksBy standard bin old new (verdicts.Binary refusal) = new ≡ old + file_steps standard bin
TicksBy standard bin old new (verdicts.Match declaration statement rule) = new ≡ old + steps_through standard bin statement
TicksBy standard bin old new verdicts.Mem = ⊤

abbrev pub Ticks : List ℕ → (old new : ℕ) → Verdict → Type 0
Ticks bin old new verdict = TicksBy strict_standard bin old new verdict

-- a difference at the n-th statement, or out of memory
abbrev pub IsDifferenceAt : ℕ → Verdict → Type 0
IsDifferenceAt n (verdicts.Accepted counts) = ⊥
IsDifferenceAt n (verdicts.Spec refusal) = ⊥
IsDifferenceAt n (verdicts.Binary refusal) = ⊥
IsDifferenceAt n (verdicts.Match declaration statement rule) = statement ≡ n
IsDifferenceAt n verdicts.Mem = ⊤
