use Rattle.std.proofs.Common.{◌<◌, ◌∙◌, ap, arith, length, subst, sym, take, take_all}
use Rattle.std.proofs.lemmas.Bool.{eqb-true}
use Rattle.std.proofs.lemmas.List.{take_more}
use Rattle.mz_base.proofs.Offered.{length-push}
use Rattle.mz_math_coercions.specs.Reached.{AreFoundIn}
use Rattle.mz_math_coercions.proofs.Walks.{found-push}
use Rattle.mz_math_coercions.proofs.reached.note.Goals as goal

pub returns-then-steps-clause-ok : goal.returns-then-steps-clause-ok
returns-then-steps-clause-ok c = λ before is found.
    let s = c.args.sort in
    let many : 32 < length before = (let more = c.if-steps.true in let longer = ap length is ∙ length-push before (s, c.args.place) in omega (arith, more, longer)) in
    subst (AreFoundIn c.insert.new.self.entries) (sym is)
    (found-push s c.args.place _ (λ k e. eqb-true s k e) c.args.places.now.entries c.insert.new.self.entries before c.in_ok-insert.ensures.entries (found many))

pub steps-preserved : goal.steps-preserved
steps-preserved c =
    let entries = c.insert-in-steps.new.self.entries in
    let so_far = take c.steps.i c.args.steps.now in
    let more = found-push _ _ _ (λ k e. eqb-true _ k e) c.steps.places.entries entries so_far c.in_ok-insert-2.ensures.entries c.steps.invariant in
    subst (AreFoundIn entries) (sym (take_more c.args.steps.now c.steps.i _ c.steps-test.true)) more

pub returns-clause-ok : goal.returns-clause-ok
returns-clause-ok c = λ before is found. subst (AreFoundIn c.steps.places.entries) (take_all c.steps.i c.args.steps.now (let past = c.steps-test.false in omega (arith, past))) c.steps.invariant
