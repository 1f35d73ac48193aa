-- What looking at the rules answers.
use Rattle.std.specs.Prelude.{ℕ, List}
use Rattle.std.proofs.Common.{Result, Ok, Err}
use Rattle.mz_base.specs.Checks.{Checks, AllHold, FailsFirst}
use Rattle.mz_spec_theory.specs.Reading.{OnFault}
use Rattle.mz_spec_theory.specs.declared.refusal.Fault.{Fault}
use Rattle.mz_spec_theory.specs.declared.refusal.Halt.{Halt}
use Rattle.mz_lex.specs.declared.tokens.MathToken.{MathToken}
use Rattle.mz_spec_theory.specs.Statement.{SpecStatement}
use Rattle.mz_spec_theory.specs.View.{view}
use Rattle.mz_spec_theory.specs.State.{State}
use Rattle.mz_spec_theory.specs.Formulas.{AreTokens}
use Rattle.mz_spec_theory.specs.Rules.{statement_checks}

-- all hold, or the first that does not has this fault, or it is out of memory
abbrev pub JudgesOrMem : {A : Type 0} → Result A Halt → Checks Fault → Type 0
JudgesOrMem (Ok _) cs = AllHold cs
JudgesOrMem (Err halt) cs = OnFault halt (FailsFirst cs)

-- all rules of a statement hold, or the first that does not has this fault, or it is out of memory, by whatever tokens its formulas have
abbrev pub JudgesStatement : {A : Type 0} → Result A Halt → State → ℕ → SpecStatement → Type 0
JudgesStatement result σ place s = (tokens : List (List MathToken)) → AreTokens σ (view s).formulas tokens → JudgesOrMem result (statement_checks σ place s tokens)
