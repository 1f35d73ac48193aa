-- Where lexemes are no statement (mm0.md, section on the grammar; the place and the rule that are reported are this
-- project's own).
use Rattle.std.specs.Prelude.{◌≡◌, ◌++◌, ◌||◌, ℕ, List, [], ◌∷◌, Option, Some, None, if◌then◌else◌, codes}
use Rattle.mz_lex.specs.Lexemes.{Lexeme}
use Rattle.mz_lex.specs.declared.token.LexFault.{LexFault}
use Rattle.mz_lex.specs.declared.rule.S.{S}
use Rattle.mz_lex.specs.declared.rule.S.TheVariants as rules
use Rattle.mz_lex.specs.RuleText.{rule_of, place_of}
use Rattle.mz_spec_theory.specs.declared.refusal.Fault.{Fault}
use Rattle.mz_spec_theory.specs.Statement.{IsStatement, IsPrefix}
use Rattle.mz_spec_theory.specs.Tests.{is_keyword}

-- `input` and `output` statements are left out
abbrev pub rule_of_first : Lexeme → S
rule_of_first l = if is_keyword (codes "input") l || is_keyword (codes "output") l then rules.LeftOut else rules.Statement

-- the rule that a lexeme breaks behind others with which it doesn't fit
abbrev pub misfit_rule : List Lexeme → Lexeme → S
misfit_rule [] l = rule_of_first l
misfit_rule (k ∷ ks) l = rules.Statement

abbrev pub misfit : List Lexeme → Lexeme → Fault
misfit before l = record { at = l.from; rule = misfit_rule before l }

-- the lexemes of an unfinished statement, of a text of n bytes, go on with one that doesn't fit, or
-- with none: where the text ends, or where no lexeme comes
abbrev pub StopsBy : ℕ → List Lexeme → List Lexeme → Option LexFault → Fault → Type 0
StopsBy n before (l ∷ rest) ending fault = (IsPrefix (before ++ l ∷ []) → ⊥) × (fault ≡ misfit before l)
StopsBy n before [] (Some lex) fault = fault ≡ record { at = place_of lex; rule = rule_of lex }
StopsBy n [] [] None fault = ⊥
StopsBy n (k ∷ ks) [] None fault = fault ≡ record { at = n; rule = rules.Statement }

-- the lexemes begin a statement, and stop before its end
abbrev pub Stops : ℕ → List Lexeme → Option LexFault → Fault → Type 0
Stops n ls ending fault = (before : List Lexeme) × (rest : List Lexeme) × (ls ≡ before ++ rest) × IsPrefix before × (IsStatement before → ⊥) × StopsBy n before rest ending fault
