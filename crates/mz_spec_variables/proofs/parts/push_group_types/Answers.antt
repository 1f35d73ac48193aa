use Rattle.std.proofs.Common.{◌≡◌, ◌++◌, ◌+◌, drop, map, refl, subst, sym}
use Rattle.mz_spec_theory.specs.StatementCode.{group, source, type_text}
use Rattle.mz_spec_theory.specs.View.{group_types, source_types}
use Rattle.mz_spec_variables.proofs.Joins.{made-end, made-step}
use Rattle.mz_spec_variables.proofs.parts.push_group_types.Goals as goal

pub loop-group-preserved : goal.loop-group-preserved
loop-group-preserved c =
    let xs = c.args.groups.now in
    let i = c.loop-group.group-index in
    let whole = map (λ t. type_text t.ty.now) c.args.types.now.items ++ group_types (map group xs) in
    subst (λ ys. ys ++ group_types (map group (drop (i + 1) xs)) ≡ whole) (sym c.in_ok-push_source_type.ensures)
    (made-step (λ ys. group_types (map group ys)) (λ x. source_types (source x.source)) xs i ((λ x ys. refl), refl) (map (λ t. type_text t.ty.now) c.loop-group.types.items) whole c.group-item.result c.loop-group-test.true c.group-item.is
    c.loop-group.invariant)

pub returns : goal.returns
returns c =
    let xs = c.args.groups.now in
    made-end (λ ys. group_types (map group ys)) (λ x. source_types (source x.source)) xs c.loop-group.group-index ((λ x ys. refl), refl) (map (λ t. type_text t.ty.now) c.loop-group.types.items)
    (map (λ t. type_text t.ty.now) c.args.types.now.items ++ group_types (map group xs)) c.loop-group-test.false c.loop-group.invariant
