use Rattle.std.proofs.Common.{◌∙◌, sym}
use Rattle.std.proofs.lemmas.Option.{none-some}
use Rattle.mz_math_coercions.proofs.Backwards.{back-smaller, last-step, one-back}
use Rattle.mz_math_coercions.proofs.path_back.path_back.Goals as goal

pub unreachable-requires-in_default-coercion_at : goal.unreachable-requires-in_default-coercion_at
unreachable-requires-in_default-coercion_at c =
    let (r, has, (d, at, begins, ends)) = last-step c.args.items.now c.args.from 0 c.args.reached.now c.requires.reached c.steps.sort c.in-Some.place c.steps-test.true c.in-Some.ensures in
    none-some d (c.in_default-coercion_at.ensures ∙ at)

pub steps-smaller : goal.steps-smaller
steps-smaller c =
    let (here, rest) = one-back c.args.items.now c.args.from 0 c.args.reached.now c.requires.reached c.steps.sort c.in-Some.place c.steps-test.true c.in-Some.ensures
    c.in-Some-coercion_at.coercion c.args.to c.steps.places.items c.push.new.self.items (sym c.in-Some-coercion_at.ensures) c.in_ok-push.ensures.items c.steps.invariant.rest in
    back-smaller c.args.items.now c.requires.one c.in-Some-coercion_at.coercion.from c.args.to c.in-Some.place c.steps.places.items c.push.new.self.items c.in_ok-push.ensures.items rest

pub steps-preserved : goal.steps-preserved
steps-preserved c =
    let (here, rest) = one-back c.args.items.now c.args.from 0 c.args.reached.now c.requires.reached c.steps.sort c.in-Some.place c.steps-test.true c.in-Some.ensures
    c.in-Some-coercion_at.coercion c.args.to c.steps.places.items c.push.new.self.items (sym c.in-Some-coercion_at.ensures) c.in_ok-push.ensures.items c.steps.invariant.rest in
    record { here = here; rest = rest }
