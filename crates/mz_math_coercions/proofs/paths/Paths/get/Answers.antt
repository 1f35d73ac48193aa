use Rattle.std.proofs.Common.{arith}
use Rattle.mz_math_coercions.proofs.Terms.{found-at}
use Rattle.mz_math_coercions.proofs.paths.Paths.get.Goals as goal

pub returns-then-path-to : goal.returns-then-path-to
returns-then-path-to c = λ cs are.
    let below = c.if-place-len.false in
    let many = c.len.ensures in
    found-at cs c.args.self.now.found.items c.in-Some.place c.index-path.result.now c.args.from c.args.to c.in_ok-share.field-0 are (omega (arith, below, many)) c.index-path.ensures
    c.if-path-from.true c.if-path-to.true c.in_ok-share.ensures
