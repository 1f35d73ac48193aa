use Rattle.std.proofs.Common.{◌∙◌, ◌<◌, sym, refl, true≢false, arith}
use Rattle.mz_logic.proofs.Owning.{own-more, own-all}
use Rattle.mz_logic_free.proofs.Offered.{none-has}
use Rattle.mz_logic.proofs.apart.all_name_own.Goals as goal

pub returns-then-is_empty : goal.returns-then-is_empty
returns-then-is_empty c = (λ _ i x p at named has. absurd (none-has c.args.owned.now x (c.is_empty.ensures.0 c.if-is_empty.true) has), λ _. refl)

pub loop-i-init : goal.loop-i-init
loop-i-init c = (λ k below. absurd (let e : k < 0 = below in omega (arith, e)), c.requires.narrowed)

pub returns-then-not-names_own : goal.returns-then-not-names_own
returns-then-not-names_own c = (
  λ no. absurd (true≢false (sym no)),
  λ all. absurd (true≢false (sym (c.names_own.ensures.answer.1 (all c.loop-i.i)) ∙ c.if-not-names_own.true)),
)

pub loop-i-preserved : goal.loop-i-preserved
loop-i-preserved c = (
  own-more c.args.params.now c.args.es.now c.args.ctx.now c.args.owned.now c.loop-i.i c.loop-i.invariant.0 (c.names_own.ensures.answer.0 c.if-not-names_own.false),
  c.names_own.ensures.kept,
)

pub returns : goal.returns
returns c = (λ _. own-all c.args.params.now c.args.es.now c.args.ctx.now c.args.owned.now c.loop-i.i c.loop-i.invariant.0 c.loop-i-test.false, λ _. refl)
