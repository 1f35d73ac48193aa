use Rattle.std.proofs.Common.{IsTrue, sym, true≢false}
use Rattle.mz_logic_free.proofs.Narrowing.{narrowed-more}
use Rattle.mz_logic_free.proofs.Sharing.{IsOther, names-nothing, names-by}
use Rattle.mz_logic_free.proofs.named.variable_names_other.Goals as goal

pub returns-in-None-clause-answer : goal.returns-in-None-clause-answer
returns-in-None-clause-answer c = (
  λ no. absurd (true≢false (sym no)),
  λ names. absurd (names-nothing c.args.ctx.now (IsOther c.args.variables.now c.args.own.now) c.args.y c.in-None.ensures names),
)

pub returns-in-Some-clause-answer : goal.returns-in-Some-clause-answer
returns-in-Some-clause-answer c = names-by c.args.ctx.now (IsOther c.args.variables.now c.args.own.now) c.args.y c.in-Some.binder.now (IsTrue c.binder_names_other.result) c.in-Some.ensures c.binder_names_other.ensures

pub returns-in-Some-clause-kept : goal.returns-in-Some-clause-kept
returns-in-Some-clause-kept c = narrowed-more c.args.ctx.now c.args.variables.now c.args.narrowed.now c.learn.new.self c.args.y c.in-Some.binder.now c.requires c.in-Some.ensures c.learn.ensures

pub binder_names_other-requires : goal.binder_names_other-requires
binder_names_other-requires c = λ few has x sought.
    narrowed-more c.args.ctx.now c.args.variables.now c.args.narrowed.now c.learn.new.self c.args.y c.in-Some.binder.now c.requires c.in-Some.ensures c.learn.ensures c.args.y few has c.in-Some.binder.now (sym c.in-Some.ensures) x sought
