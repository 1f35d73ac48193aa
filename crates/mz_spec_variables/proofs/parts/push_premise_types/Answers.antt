use Rattle.std.proofs.Common.{◌≡◌, ◌++◌, ◌+◌, drop, map, refl, subst, sym}
use Rattle.mz_spec_theory.specs.StatementCode.{source, type_text}
use Rattle.mz_spec_theory.specs.View.{source_types, types_of}
use Rattle.mz_spec_variables.proofs.Joins.{made-end, made-step}
use Rattle.mz_spec_variables.proofs.parts.push_premise_types.Goals as goal

pub loop-premise-preserved : goal.loop-premise-preserved
loop-premise-preserved c =
    let xs = c.args.premises.now in
    let i = c.loop-premise.premise-index in
    let whole = map (λ t. type_text t.ty.now) c.args.types.now.items ++ types_of (map source xs) in
    subst (λ ys. ys ++ types_of (map source (drop (i + 1) xs)) ≡ whole) (sym c.in_ok-push_source_type.ensures)
    (made-step (λ ys. types_of (map source ys)) (λ x. source_types (source x)) xs i ((λ x ys. refl), refl) (map (λ t. type_text t.ty.now) c.loop-premise.types.items) whole c.premise-item.result c.loop-premise-test.true c.premise-item.is
    c.loop-premise.invariant)

pub returns : goal.returns
returns c =
    let xs = c.args.premises.now in
    made-end (λ ys. types_of (map source ys)) (λ x. source_types (source x)) xs c.loop-premise.premise-index ((λ x ys. refl), refl) (map (λ t. type_text t.ty.now) c.loop-premise.types.items)
    (map (λ t. type_text t.ty.now) c.args.types.now.items ++ types_of (map source xs)) c.loop-premise-test.false c.loop-premise.invariant
