use Rattle.std.proofs.Common.{map, refl}
use Rattle.std.proofs.lemmas.Result.{err_from_is_err_and}
use Rattle.mz_base.specs.Checks.{each_in_order}
use Rattle.mz_spec_theory.specs.StatementCode.{type_text}
use Rattle.mz_spec_rules.specs.Entries.{state}
use Rattle.mz_spec_theory.specs.Rules.{type_checks}
use Rattle.mz_spec_theory.proofs.Offered.{rows-step, rows-fail}
use Rattle.mz_spec_rules.proofs.state.State.check_types.Goals as goal

pub returns-in_err-check_type : goal.returns-in_err-check_type
returns-in_err-check_type c =
    let row = type_checks (state c.args.self.now) c.args.names.now in
    let p = err_from_is_err_and c.from_residual.result c.from_residual.ensures.1 in
    rw (p.1, p.2) (rows-fail (map (λ t. type_text t.ty.now)) (λ t. type_text t.ty.now) row (each_in_order row (map (λ t. type_text t.ty.now) c.args.types.now)) c.args.types.now c.loop-ty.ty-index
    ((λ x ys. refl), refl) c.ty-item.result _ c.loop-ty-test.true c.ty-item.is c.loop-ty.invariant c.in_err-check_type.ensures)

pub loop-ty-preserved : goal.loop-ty-preserved
loop-ty-preserved c =
    let row = type_checks (state c.args.self.now) c.args.names.now in
    rows-step (map (λ t. type_text t.ty.now)) (λ t. type_text t.ty.now) row (each_in_order row (map (λ t. type_text t.ty.now) c.args.types.now)) c.args.types.now c.loop-ty.ty-index ((λ x ys. refl), refl)
    c.ty-item.result c.loop-ty-test.true c.ty-item.is c.loop-ty.invariant c.in_ok-check_type.ensures
