use Rattle.std.proofs.Common.{◌∷◌, ◌∙◌, [], append-nil, sym}
use Rattle.std.proofs.lemmas.Bool.{true≢false}
use Rattle.mz_math_coercions.proofs.Walks.{pushed-only, pushed-there}
use Rattle.mz_math_coercions.proofs.reached.Reached.add.Goals as goal

pub push-requires : goal.push-requires
push-requires c = λ h. true≢false (sym (c.has.ensures.1 h) ∙ c.if-has.false)

pub returns-in_err-push-clause-kept : goal.returns-in_err-push-clause-kept
returns-in_err-push-clause-kept c = ([], c.in_err-push.ensures.err ∙ sym (append-nil c.args.self.now))

pub returns-clause-kept : goal.returns-clause-kept
returns-clause-kept c = ((c.args.sort, c.args.place) ∷ [], c.in_ok-push.ensures.ok)

pub returns-clause-only : goal.returns-clause-only
returns-clause-only c = λ t p has. pushed-only c.args.sort c.args.place t p c.args.self.now c.push.new.self c.in_ok-push.ensures.ok has

pub returns-clause-ok : goal.returns-clause-ok
returns-clause-ok c = pushed-there c.args.sort c.args.place c.args.self.now c.push.new.self c.in_ok-push.ensures.ok
