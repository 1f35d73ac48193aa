-- The printed lines of what compiling answers (this project's own).
use Rattle.std.specs.Prelude.{ℕ, List, [], ◌++◌, length, codes, decimal}
use Rattle.mz_sexpr.specs.RuleText.{rule_text}
use Rattle.mz_sexpr.specs.declared.rule.TextRefusal.{TextRefusal}
use Rattle.mz_emit_theory.specs.declared.compiled.Compiled.{Compiled}
use Rattle.mz_emit_theory.specs.declared.compiled.Compiled.TheVariants as answers
use Rattle.mz_emit_theory.specs.declared.rule.L.{L}
use Rattle.mz_emit_theory.specs.declared.rule.L.TheVariants as rules

abbrev pub limit_text : L → List ℕ
limit_text rules.Sorts = codes "L1 sorts"
limit_text rules.Parameters = codes "L2 parameters"
limit_text rules.BoundVariables = codes "L3 bound variables"
limit_text rules.Bytes = codes "L5 bytes"

abbrev pub bytes_line : ℕ → List ℕ
bytes_line n = codes "compiled: " ++ decimal n ++ codes " bytes\n"

abbrev pub refusal_line : TextRefusal → List ℕ
refusal_line r =
    codes "refused: text statement " ++ decimal r.statement ++ codes " at byte " ++ decimal r.at ++ codes ": " ++ rule_text r.rule ++ codes "\n"

abbrev pub limit_line : L → ℕ → List ℕ
limit_line rule count = codes "limit: " ++ limit_text rule ++ codes " " ++ decimal count ++ codes "\n"

-- out of memory has none
abbrev pub line_of : Compiled → List ℕ
line_of (answers.Bytes bytes) = bytes_line (length bytes.items)
line_of (answers.Refused refusal) = refusal_line refusal
line_of (answers.Limit rule count) = limit_line rule count
line_of answers.Mem = []
