use Rattle.mz_math_coercions.proofs.Leading.{all-along, along-smaller, no-further, none-along, one-along}
use Rattle.mz_math_coercions.proofs.next_hop.terms_along.Goals as goal

pub steps-init : goal.steps-init
steps-init c = none-along c.args.items.now c.args.from c.args.to c.new-terms.result.items c.new-terms.ensures.items

pub returns-in_default : goal.returns-in_default
returns-in_default c = no-further c.args.items.now c.args.from c.args.to c.steps.sort c.steps.terms.items c.steps.invariant c.steps-test.true c.in_default.ensures

pub steps-smaller : goal.steps-smaller
steps-smaller c =
    let (p, next) = c.in-Some.ensures in
    along-smaller c.args.items.now c.args.from c.args.to c.steps.sort c.steps.terms.items c.steps.invariant c.requires.one p c.in-Some.coercion next c.push.new.self.items c.in_ok-push.ensures.items

pub steps-preserved : goal.steps-preserved
steps-preserved c =
    let (p, next) = c.in-Some.ensures in
    one-along c.args.items.now c.args.from c.args.to c.steps.sort c.steps.terms.items c.steps.invariant c.requires.one p c.in-Some.coercion next c.push.new.self.items c.in_ok-push.ensures.items

pub returns : goal.returns
returns c = all-along c.args.items.now c.args.from c.args.to c.steps.sort c.steps.terms.items c.steps.invariant c.steps-test.false
