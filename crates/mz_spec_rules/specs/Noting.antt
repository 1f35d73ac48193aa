-- How the precedences of a notation are written, and what is asked of a general notation before its form.
use Rattle.std.specs.Prelude.{⊤, ℕ, List, [], IsTrue}
use Rattle.std.specs.List.{list_all}
use Rattle.mz_base.specs.Identifiers.{is_digit}
use Rattle.mz_lex.specs.Lexemes.{Lexeme}
use Rattle.mz_base.specs.Checks.{Checks, each_in_order, ◌>>◌}
use Rattle.mz_spec_theory.specs.Statement.{TypeText, Level, number_level, level_max}
use Rattle.mz_spec_theory.specs.declared.refusal.Fault.{Fault}
use Rattle.mz_spec_theory.specs.View.{Variable, names_of}
use Rattle.mz_spec_theory.specs.State.{State}
use Rattle.mz_spec_theory.specs.Rules.{are_others, is_known, type_checks, binder_rules}

-- a precedence that is a number is written in digits
abbrev pub IsNumeral : Level → Type 0
IsNumeral (number_level l) = IsTrue (list_all is_digit l.text)
IsNumeral level_max = ⊤

-- what is asked of a general notation for its variables, its term and its types
abbrev pub named_rules : State → Lexeme → List Variable → List TypeText → Checks Fault
named_rules σ n vs types = are_others [] vs >> is_known σ.term_names n >> each_in_order (type_checks σ (names_of vs)) types

-- and then for its binders
abbrev pub noting_rules : State → ℕ → Lexeme → List Variable → List TypeText → List TypeText → Checks Fault
noting_rules σ place n vs types results = named_rules σ n vs types >> binder_rules σ place vs results
