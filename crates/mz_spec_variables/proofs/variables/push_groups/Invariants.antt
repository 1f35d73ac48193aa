use Rattle.std.proofs.Common.{◌≡◌, ◌++◌, map, drop}
use Rattle.mz_spec_theory.specs.StatementCode.{group}
use Rattle.mz_spec_variables.specs.Code.{typed, typed_groups, variable}
use Rattle.mz_spec_theory.specs.View.{variables_of}
use Rattle.mz_spec_variables.proofs.variables.push_groups.Given as goal

abbrev pub invariant-loop-i : goal.invariant-loop-i
invariant-loop-i l = record {
  variables : map variable l.variables.items ++ variables_of (map group (drop l.i l.groups)) ≡ map variable l.initial.variables.items ++ variables_of (map group l.groups);
  groups : map typed l.variables.items ++ typed_groups l.i (map group (drop l.i l.groups)) ≡ map typed l.initial.variables.items ++ typed_groups 0 (map group l.groups);
}
