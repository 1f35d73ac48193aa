-- The printed lines of a verdict (this project's own).
use Rattle.std.specs.Prelude.{ℕ, List, ◌++◌, codes, decimal}
use Rattle.mz_lex.specs.RuleText.{rule_text as spec_rule_text}
use Rattle.mz_spec_theory.specs.declared.spec_refusal.SpecRefusal.{SpecRefusal}
use Rattle.mz_spec_proved_theory.specs.declared.rule.M.{M}
use Rattle.mz_match_theory.specs.declared.verdict.Counts.{Counts}
use Rattle.mz_spec_proved_theory.specs.RuleText.{rule_text}

abbrev pub accepted_line : Counts → List ℕ
accepted_line c =
    codes "accepted: " ++ decimal c.sorts ++ codes " sorts, " ++ decimal c.terms ++ codes " terms, " ++ decimal c.axioms ++ codes " axioms, "
    ++ decimal c.definitions ++ codes " definitions, " ++ decimal c.theorems ++ codes " theorems\n"

abbrev pub spec_line : SpecRefusal → List ℕ
spec_line r =
    codes "refused: specification statement " ++ decimal r.statement ++ codes " at byte " ++ decimal r.at ++ codes ": " ++ spec_rule_text r.rule ++ codes "\n"

abbrev pub match_line : ℕ → ℕ → M → List ℕ
match_line declaration statement rule =
    codes "refused: match declaration " ++ decimal declaration ++ codes " statement " ++ decimal statement ++ codes ": " ++ rule_text rule ++ codes "\n"
