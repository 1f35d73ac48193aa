use Rattle.std.proofs.Common.{map, drop}
use Rattle.mz_base.specs.Checks.{each_in_order}
use Rattle.mz_base.proofs.Offered.{Decides}
use Rattle.mz_spec_theory.specs.StatementCode.{type_text}
use Rattle.mz_spec_rules.specs.Entries.{state}
use Rattle.mz_spec_theory.specs.Rules.{type_checks}
use Rattle.mz_spec_rules.proofs.state.State.check_types.Given as goal

abbrev pub invariant-loop-ty : goal.invariant-loop-ty
invariant-loop-ty l = Decides (each_in_order (type_checks (state l.self) l.names) (map (λ t. type_text t.ty.now) (drop l.ty-index l.types)))
    (each_in_order (type_checks (state l.self) l.names) (map (λ t. type_text t.ty.now) l.types))
