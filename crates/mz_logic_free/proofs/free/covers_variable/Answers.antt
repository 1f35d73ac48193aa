use Rattle.std.proofs.Common.{refl}
use Rattle.mz_logic_free.proofs.Knowing.{known-more, told-by, told-of}
use Rattle.mz_logic_free.proofs.free.covers_variable.Goals as goal

pub returns-then-is_quick-clause-answer : goal.returns-then-is_quick-clause-answer
returns-then-is_quick-clause-answer c = told-of c.args.ctx.now c.args.y c.in-Some.binder.now c.in-Some.ensures c.args.covered.now.variables c.covers_binder.result c.covers_binder.ensures

pub returns-in_ok-add-in-Some-clause-answer : goal.returns-in_ok-add-in-Some-clause-answer
returns-in_ok-add-in-Some-clause-answer c = told-of c.args.ctx.now c.args.y c.in-Some.binder.now c.in-Some.ensures c.args.covered.now.variables c.covers_binder-holds.result c.covers_binder-holds.ensures

pub returns-else-holds-clause-answer : goal.returns-else-holds-clause-answer
returns-else-holds-clause-answer c = told-of c.args.ctx.now c.args.y c.in-Some.binder.now c.in-Some.ensures c.args.covered.now.variables c.covers_binder-holds.result c.covers_binder-holds.ensures

pub returns-then-has-clause-answer : goal.returns-then-has-clause-answer
returns-then-has-clause-answer c = (λ _. c.requires.known c.args.y (c.has.ensures.0 c.if-has.true), λ _. refl)

pub returns-in_ok-add-in-Some-clause-known : goal.returns-in_ok-add-in-Some-clause-known
returns-in_ok-add-in-Some-clause-known c = λ holds. (
  known-more c.args.ctx.now c.args.covered.now.variables c.args.covered.now.known c.add.new.self c.args.y c.requires.known
      (λ x free. c.covers_binder-holds.ensures.0 holds x (told-by c.args.ctx.now x c.args.y c.in-Some.binder.now c.in-Some.ensures free)) c.in_ok-add-in-Some.ensures.has,
  c.in_ok-add-in-Some.ensures.grows,
)
