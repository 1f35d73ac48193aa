use Rattle.std.proofs.Common.{◌≡◌, ◌++◌, map, drop}
use Rattle.mz_spec_theory.specs.StatementCode.{type_text}
use Rattle.mz_spec_variables.specs.Code.{typed, typed_alone, variable}
use Rattle.mz_spec_theory.specs.View.{unnamed}
use Rattle.mz_spec_variables.proofs.parts.push_arguments.Given as goal

abbrev pub invariant-loop-ty : goal.invariant-loop-ty
invariant-loop-ty l = record {
  variables : map variable l.variables.items ++ map unnamed (map type_text (drop l.ty-index l.arguments)) ≡ map variable l.initial.variables.items ++ map unnamed (map type_text l.arguments);
  groups : map typed l.variables.items ++ map typed_alone (map type_text (drop l.ty-index l.arguments)) ≡ map typed l.initial.variables.items ++ map typed_alone (map type_text l.arguments);
}
