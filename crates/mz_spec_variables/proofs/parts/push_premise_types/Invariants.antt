use Rattle.std.proofs.Common.{◌≡◌, ◌++◌, map, drop}
use Rattle.mz_spec_theory.specs.StatementCode.{source, type_text}
use Rattle.mz_spec_theory.specs.View.{types_of}
use Rattle.mz_spec_variables.proofs.parts.push_premise_types.Given as goal

abbrev pub invariant-loop-premise : goal.invariant-loop-premise
invariant-loop-premise l = map (λ t. type_text t.ty.now) l.types.items ++ types_of (map source (drop l.premise-index l.premises)) ≡ map (λ t. type_text t.ty.now) l.initial.types.items ++ types_of (map source l.premises)
