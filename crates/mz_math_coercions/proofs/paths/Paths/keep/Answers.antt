use Rattle.std.proofs.Common.{subst, sym}
use Rattle.std.specs.Prelude.{All}
use Rattle.mz_math_coercions.proofs.Terms.{IsFound, found-more}
use Rattle.mz_math_coercions.proofs.paths.Paths.keep.Goals as goal

pub returns-in_err-push : goal.returns-in_err-push
returns-in_err-push c = λ cs are one. subst (All (IsFound cs)) (sym c.in_err-push.ensures.items) are

pub returns-in_err-insert : goal.returns-in_err-insert
returns-in_err-insert c = λ cs are one.
    found-more cs c.args.self.now.found.items c.push.new.self.items (record { from = c.args.from; to = c.args.to; terms = c.args.terms }) c.in_ok-push.ensures.items are one

pub returns : goal.returns
returns c = λ cs are one.
    found-more cs c.args.self.now.found.items c.push.new.self.items (record { from = c.args.from; to = c.args.to; terms = c.args.terms }) c.in_ok-push.ensures.items are one
