-- The line of what making a text of a binary answers (this project's own).
use Rattle.std.specs.Prelude.{⊤, ℕ, List, [], length}
use Rattle.mz_match_theory.specs.Verdict.{line_of}
use Rattle.mz_decompile.specs.Restated.{deep, too_long}
use Rattle.mz_decompile.specs.declared.decompiled.Decompiled.{Decompiled}
use Rattle.mz_decompile.specs.declared.decompiled.Decompiled.TheVariants as answers
use Rattle.mz_decompile.specs.Printed.{decompiled_line}
use Rattle.mz_tool_verify.specs.Judging.{IsRefusal}
use Rattle.mz_tool.specs.Decompile.{unstated_line}

-- out of memory has none
abbrev pub text_line : Decompiled → List ℕ
text_line (answers.Text text) = decompiled_line (length text.items)
text_line (answers.Refused verdict) = line_of verdict
text_line (answers.Deep statement) = unstated_line (deep statement)
text_line (answers.Limit count) = unstated_line (too_long count)
text_line answers.Mem = []

-- an answer that has a line
abbrev pub HasLine : Decompiled → Type 0
HasLine (answers.Text text) = ⊤
HasLine (answers.Refused verdict) = IsRefusal verdict
HasLine (answers.Deep statement) = ⊤
HasLine (answers.Limit count) = ⊤
HasLine answers.Mem = ⊥
