use Rattle.std.proofs.Common.{◌≡◌, ◌++◌, map, drop}
use Rattle.mz_spec_variables.specs.Code.{params_read, variable}
use Rattle.mz_spec_theory.specs.View.{params_of}
use Rattle.mz_spec_variables.proofs.variables.params_of.Given as goal

abbrev pub invariant-loop-variable : goal.invariant-loop-variable
invariant-loop-variable l = record {
  params : map variable l.params.items ++ params_of (map variable (drop l.variable-index l.variables)) ≡ params_of (map variable l.variables);
  read : l.params.items ++ params_read (drop l.variable-index l.variables) ≡ params_read l.variables;
}
