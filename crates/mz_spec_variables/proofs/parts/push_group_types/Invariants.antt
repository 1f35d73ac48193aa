use Rattle.std.proofs.Common.{◌≡◌, ◌++◌, map, drop}
use Rattle.mz_spec_theory.specs.StatementCode.{group, type_text}
use Rattle.mz_spec_theory.specs.View.{group_types}
use Rattle.mz_spec_variables.proofs.parts.push_group_types.Given as goal

abbrev pub invariant-loop-group : goal.invariant-loop-group
invariant-loop-group l = map (λ t. type_text t.ty.now) l.types.items ++ group_types (map group (drop l.group-index l.groups)) ≡ map (λ t. type_text t.ty.now) l.initial.types.items ++ group_types (map group l.groups)
