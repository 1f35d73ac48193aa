use Rattle.std.proofs.Common.{◌≡◌, ◌++◌, map, drop}
use Rattle.mz_spec_variables.specs.Code.{dummies_read, variable}
use Rattle.mz_spec_theory.specs.View.{dummies_of}
use Rattle.mz_spec_variables.proofs.variables.dummies_of.Given as goal

abbrev pub invariant-loop-variable : goal.invariant-loop-variable
invariant-loop-variable l = record {
  dummies : map variable l.dummies.items ++ dummies_of (map variable (drop l.variable-index l.variables)) ≡ dummies_of (map variable l.variables);
  read : l.dummies.items ++ dummies_read (drop l.variable-index l.variables) ≡ dummies_read l.variables;
}
