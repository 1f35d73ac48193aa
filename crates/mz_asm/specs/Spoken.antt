-- The printed lines of what assembling answers (this project's own).
use Rattle.std.specs.Prelude.{ℕ, List, [], ◌++◌, length, codes, decimal}
use Rattle.mz_asm.specs.declared.assembled.Assembled.{Assembled}
use Rattle.mz_asm.specs.declared.assembled.Assembled.TheVariants as answers
use Rattle.mz_asm.specs.declared.rule.A.{A}
use Rattle.mz_asm.specs.declared.rule.A.TheVariants as rules

abbrev pub rule_text : A → List ℕ
rule_text rules.Form = codes "A1 form"
rule_text rules.Range = codes "A2 range"
rule_text rules.Row = codes "A3 row"

abbrev pub bytes_line : ℕ → List ℕ
bytes_line n = codes "assembled: " ++ decimal n ++ codes " bytes\n"

abbrev pub refusal_line : ℕ → A → List ℕ
refusal_line line rule = codes "refused: listing line " ++ decimal line ++ codes ": " ++ rule_text rule ++ codes "\n"

abbrev pub limit_line : ℕ → List ℕ
limit_line count = codes "limit: L5 bytes " ++ decimal count ++ codes "\n"

-- out of memory has none
abbrev pub line_of : Assembled → List ℕ
line_of (answers.Bytes bytes) = bytes_line (length bytes.items)
line_of (answers.Refused line rule) = refusal_line line rule
line_of (answers.Limit count) = limit_line count
line_of answers.Mem = []
