use Rattle.std.proofs.Common.{arith}
use Rattle.mz_math_coercions.proofs.Walks.{all-walked, none-walked, one-walked}
use Rattle.mz_math_coercions.proofs.graph.Graph.walk.Goals as goal

pub steps-init : goal.steps-init
steps-init c = none-walked c.args.self.now c.args.reached.now

pub unreachable-requires : goal.unreachable-requires
unreachable-requires c = let past = c.in_default.ensures in let many = c.len.ensures.many in omega (arith, past, many, c.steps-test.true)

pub steps-smaller : goal.steps-smaller
steps-smaller c = let small = c.len.ensures.small in omega (arith, small, c.steps-test.true)

pub steps-preserved : goal.steps-preserved
steps-preserved c =
    let (p, at) = c.in-Some.ensures in
    one-walked c.args.self.now c.args.reached.now c.steps.reached c.follow.new.reached c.steps.i c.steps.invariant c.in-Some.sort p at c.follow.ensures.kept c.follow.ensures.only c.in_ok-follow.ensures.ok

pub returns : goal.returns
returns c = let many = c.len.ensures.many in all-walked c.args.self.now c.args.reached.now c.steps.reached c.steps.i c.steps.invariant (omega (arith, many, c.steps-test.false))
