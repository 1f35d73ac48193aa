-- The printed messages of the rules of the match (this project's own).
use Rattle.std.specs.Prelude.{ℕ, List, codes}
use Rattle.mz_spec_proved_theory.specs.declared.rule.M.{M}
use Rattle.mz_spec_proved_theory.specs.declared.rule.M.TheVariants as rules

abbrev pub rule_text : M → List ℕ
rule_text rules.Missing = codes "M1 missing public"
rule_text rules.Extra = codes "M2 extra public"
rule_text rules.Kind = codes "M3 kind differs"
rule_text rules.Modifiers = codes "M4 modifiers"
rule_text rules.Binders = codes "M5 binders"
rule_text rules.Result = codes "M6 result"
rule_text rules.Hypotheses = codes "M7 hypotheses"
rule_text rules.Conclusion = codes "M8 conclusion"
rule_text rules.Body = codes "M9 body"
