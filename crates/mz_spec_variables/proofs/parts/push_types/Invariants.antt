use Rattle.std.proofs.Common.{◌≡◌, ◌++◌, map, drop}
use Rattle.mz_spec_theory.specs.StatementCode.{type_text}
use Rattle.mz_spec_variables.proofs.parts.push_types.Given as goal

abbrev pub invariant-loop-ty : goal.invariant-loop-ty
invariant-loop-ty l = map (λ t. type_text t.ty.now) l.types.items ++ map type_text (drop l.ty-index l.more) ≡ map (λ t. type_text t.ty.now) l.initial.types.items ++ map type_text l.more
