use Rattle.std.proofs.Common.{◌≡◌, ◌++◌, [], map, drop}
use Rattle.mz_base.proofs.Offered.{Decides}
use Rattle.mz_spec_variables.specs.Code.{variable}
use Rattle.mz_spec_theory.specs.Rules.{are_others}
use Rattle.mz_spec_theory.specs.View.{names_of}
use Rattle.mz_spec_rules.proofs.rules.push_names.Given as goal

abbrev pub invariant-loop-variable : goal.invariant-loop-variable
invariant-loop-variable l = record {
  left : Decides (are_others l.names (map variable (drop l.variable-index l.variables))) (are_others [] (map variable l.variables));
  all : l.names ++ names_of (map variable (drop l.variable-index l.variables)) ≡ names_of (map variable l.variables);
}
