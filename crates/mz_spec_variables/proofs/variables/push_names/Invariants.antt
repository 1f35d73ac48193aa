use Rattle.std.proofs.Common.{◌≡◌, ◌++◌, map, drop}
use Rattle.mz_spec_theory.specs.StatementCode.{name_text, type_text}
use Rattle.mz_spec_variables.specs.Code.{typed, typed_in, variable}
use Rattle.mz_spec_theory.specs.View.{variable_of}
use Rattle.mz_spec_variables.proofs.variables.push_names.Given as goal

abbrev pub invariant-loop-name : goal.invariant-loop-name
invariant-loop-name l = record {
  variables : map variable l.variables.items ++ map (variable_of l.is_bound (type_text l.ty)) (map name_text (drop l.name-index l.names))
      ≡ map variable l.initial.variables.items ++ map (variable_of l.is_bound (type_text l.ty)) (map name_text l.names);
  groups : map typed l.variables.items ++ map (λ n. typed_in l.group (type_text l.ty)) (map name_text (drop l.name-index l.names))
      ≡ map typed l.initial.variables.items ++ map (λ n. typed_in l.group (type_text l.ty)) (map name_text l.names);
}
