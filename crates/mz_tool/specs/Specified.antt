-- The line of what making a specification answers (this project's own).
use Rattle.std.specs.Prelude.{ℕ, List, [], length}
use Rattle.mz_emit_theory.specs.Lines.{refusal_line}
use Rattle.mz_prefix.specs.Wording.{local_in, long_in, too_long}
use Rattle.mz_prefix.specs.Printed.{specified_line}
use Rattle.mz_prefix.specs.declared.spec_text.SpecText.{SpecText}
use Rattle.mz_prefix.specs.declared.spec_text.SpecText.TheVariants as answers
use Rattle.mz_tool.specs.Specify.{unwritten_line}

abbrev pub spec_line : SpecText → List ℕ
spec_line (answers.Text bytes) = specified_line (length bytes.items)
spec_line (answers.Refused refusal) = refusal_line refusal
spec_line (answers.Local statement) = unwritten_line (local_in statement)
spec_line (answers.Long statement) = unwritten_line (long_in statement)
spec_line (answers.Limit count) = unwritten_line (too_long count)
spec_line answers.Mem = []
