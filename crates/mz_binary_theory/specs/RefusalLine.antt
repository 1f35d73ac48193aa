-- The line that prints a refusal (this project's own).
use Rattle.std.specs.Prelude.{ℕ, List, ◌++◌, codes, decimal}
use Rattle.mz_cmd.specs.declared.rule.Refusal.{Refusal}
use Rattle.mz_cmd.specs.RuleText.{rule_text}

abbrev pub refusal_line : Refusal → List ℕ
refusal_line r =
    codes "refused: binary statement " ++ decimal r.statement ++ codes " at byte " ++ decimal r.at ++ codes ": " ++ rule_text r.rule ++ codes "\n"
