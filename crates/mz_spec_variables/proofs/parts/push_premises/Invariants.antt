use Rattle.std.proofs.Common.{◌≡◌, ◌++◌, map, drop}
use Rattle.mz_spec_theory.specs.StatementCode.{source}
use Rattle.mz_spec_variables.specs.Code.{typed, typed_alone, variable}
use Rattle.mz_spec_theory.specs.View.{types_of, unnamed}
use Rattle.mz_spec_variables.proofs.parts.push_premises.Given as goal

abbrev pub invariant-loop-premise : goal.invariant-loop-premise
invariant-loop-premise l = record {
  variables : map variable l.variables.items ++ map unnamed (types_of (map source (drop l.premise-index l.premises)))
      ≡ map variable l.initial.variables.items ++ map unnamed (types_of (map source l.premises));
  groups : map typed l.variables.items ++ map typed_alone (types_of (map source (drop l.premise-index l.premises)))
      ≡ map typed l.initial.variables.items ++ map typed_alone (types_of (map source l.premises));
}
