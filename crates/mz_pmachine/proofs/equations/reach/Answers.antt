use Rattle.std.proofs.Common.{◌≤◌, length, ap, arith, refl, add-one, eqb-true, eq-eqb}
use Rattle.std.proofs.lemmas.Option.{slice_get-get_or}
use Rattle.mz_base.proofs.Offered.{drop-past}
use Rattle.mz_machine.specs.OpenEquations.{many_to_come}
use Rattle.mz_pmachine.specs.OpenNodes.{of_nodes}
use Rattle.mz_machine.proofs.Offered.{reach-next}
use Rattle.mz_pmachine.proofs.equations.reach.Goals as goal

pub equations-init : goal.equations-init
equations-init c = (λ h. h, λ h. h)

pub rest_of-rest-requires : goal.rest_of-rest-requires
rest_of-rest-requires c = c.requires c.equations.equation-index _ (slice_get-get_or _ _ _ c.equations-test.true)

pub returns-then-short-rest : goal.returns-then-short-rest
returns-then-short-rest c =
    let first = reach-next (of_nodes c.args.nodes.now) c.args.equations.now c.equations.equation-index _ c.rest_of-rest.result (slice_get-get_or _ _ _ c.equations-test.true) c.rest_of-rest.ensures in
    (λ is. c.equations.invariant.0 (omega (arith, first, c.if-short-rest.true)), λ le. refl)

pub equations-preserved : goal.equations-preserved
equations-preserved c =
    let k = c.equations.equation-index in
    let first = reach-next (of_nodes c.args.nodes.now) c.args.equations.now k _ c.rest_of-rest.result (slice_get-get_or _ _ _ c.equations-test.true) c.rest_of-rest.ensures in
    rw (add-one k) (
      λ le. c.equations.invariant.0 (omega (arith, first, c.if-short-rest.false, le)),
      λ le. (let left = c.equations.invariant.1 le in omega (arith, first, c.if-short-rest.false, left)),
    )

pub returns : goal.returns
returns c =
    let past : length c.args.equations.now ≤ c.equations.equation-index = omega (arith, c.equations-test.false) in
    let none = ap (many_to_come (of_nodes c.args.nodes.now)) (drop-past c.args.equations.now c.equations.equation-index past) in
    (λ is. c.equations.invariant.0 (omega (arith, none, eqb-true c.equations.short 0 is)), λ le. (let left = c.equations.invariant.1 le in eq-eqb c.equations.short 0 (omega (arith, none, left))))
