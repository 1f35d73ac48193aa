-- The rules of a specification: their printed messages, and those that the lexer says (this project's own).
use Rattle.std.specs.Prelude.{ℕ, List, codes}
use Rattle.mz_lex.specs.declared.rule.S.{S}
use Rattle.mz_lex.specs.declared.rule.S.TheVariants as rules
use Rattle.mz_lex.specs.declared.token.LexFault.{LexFault}
use Rattle.mz_lex.specs.declared.token.LexFault.TheVariants as faults

abbrev pub rule_text : S → List ℕ
rule_text rules.Character = codes "S1 character"
rule_text rules.Token = codes "S2 token"
rule_text rules.Statement = codes "S3 statement"
rule_text rules.NameTwice = codes "S4 name twice"
rule_text rules.UnknownName = codes "S5 unknown name"
rule_text rules.Binder = codes "S6 binder"
rule_text rules.Pure = codes "S7 pure"
rule_text rules.NotProvable = codes "S8 not provable"
rule_text rules.MathToken = codes "S9 math token"
rule_text rules.MathSyntax = codes "S10 math syntax"
rule_text rules.NoCoercion = codes "S11 no coercion"
rule_text rules.NotationClash = codes "S12 notation clash"
rule_text rules.NotationForm = codes "S13 notation form"
rule_text rules.CoercionClash = codes "S14 coercion clash"
rule_text rules.Number = codes "S15 number"
rule_text rules.LeftOut = codes "S16 left out"
rule_text rules.Depth = codes "S17 depth"
rule_text rules.DefinitionDependencies = codes "S18 definition dependencies"
rule_text rules.DummySort = codes "S19 dummy sort"

-- the rule that a fault breaks
abbrev pub rule_of : LexFault → S
rule_of (faults.Char at) = rules.Character
rule_of (faults.Token at) = rules.Token

-- where it is reported
abbrev pub place_of : LexFault → ℕ
place_of (faults.Char at) = at
place_of (faults.Token at) = at
