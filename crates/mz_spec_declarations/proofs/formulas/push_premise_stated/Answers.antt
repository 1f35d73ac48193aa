use Rattle.std.proofs.Common.{◌≡◌, ◌++◌, ◌+◌, drop, map, refl, subst, sym}
use Rattle.mz_spec_theory.specs.StatementCode.{source}
use Rattle.mz_spec_theory.specs.SpecCode.{stated}
use Rattle.mz_spec_theory.specs.View.{premise_stated, source_stated}
use Rattle.mz_spec_variables.proofs.Offered.{made-end, made-step}
use Rattle.mz_spec_declarations.proofs.formulas.push_premise_stated.Goals as goal

pub loop-premise-preserved : goal.loop-premise-preserved
loop-premise-preserved c =
    let xs = c.args.premises.now in
    let i = c.loop-premise.premise-index in
    let whole = map stated c.args.stated.now.items ++ premise_stated (map source xs) in
    subst (λ ys. ys ++ premise_stated (map source (drop (i + 1) xs)) ≡ whole) (sym c.in_ok-push_stated.ensures)
    (made-step (λ ys. premise_stated (map source ys)) (λ x. source_stated 1 (source x)) xs i ((λ x ys. refl), refl) (map stated c.loop-premise.stated.items) whole c.premise-item.result c.loop-premise-test.true c.premise-item.is
    c.loop-premise.invariant)

pub returns : goal.returns
returns c =
    let xs = c.args.premises.now in
    made-end (λ ys. premise_stated (map source ys)) (λ x. source_stated 1 (source x)) xs c.loop-premise.premise-index ((λ x ys. refl), refl) (map stated c.loop-premise.stated.items)
    (map stated c.args.stated.now.items ++ premise_stated (map source xs)) c.loop-premise-test.false c.loop-premise.invariant
