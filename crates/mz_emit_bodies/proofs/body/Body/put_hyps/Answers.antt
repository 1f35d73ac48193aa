use Rattle.std.proofs.Common.{◌≡◌, length, take, refl, sym, ◌∙◌, subst, arith}
use Rattle.mz_emit_bodies.specs.Going.{IsAfter}
use Rattle.mz_emit_bodies.specs.Stages.{with_hyps}
use Rattle.mz_emit_bodies.proofs.Ends.{recounted, next_hyp, rests_next, rests_all}
use Rattle.mz_emit_bodies.proofs.body.Body.put_hyps.Goals as goal

pub loop-id-init : goal.loop-id-init
loop-id-init c = (refl, λ o all. (recounted _ o _ _ _ _ _ _ 0 _ _ (sym all.none_yet) all.rests.0, all.rests.1))

pub put_hyp-requires-clause-before : goal.put_hyp-requires-clause-before
put_hyp-requires-clause-before c = subst IsAfter (sym c.loop-id.invariant.0) c.requires.before

pub put_hyp-requires-clause-can : goal.put_hyp-requires-clause-can
put_hyp-requires-clause-can c =
    let o = c.requires.can.0 in
    let js = take c.loop-id.id-index c.args.ids.now in (
      with_hyps o c.loop-id.id-index js,
      next_hyp o c.args.self.now c.loop-id.self c.args.ids.now c.loop-id.id-index _ c.requires.can.1 c.loop-id-test.true (c.loop-id.invariant.1 o c.requires.can.1),
    )

pub loop-id-preserved : goal.loop-id-preserved
loop-id-preserved c = (
  c.in_ok-put_hyp.ensures.same ∙ c.loop-id.invariant.0,
  λ o all.
      let js = take c.loop-id.id-index c.args.ids.now in
      rests_next o c.put_hyp.new.self c.args.ids.now c.loop-id.id-index _ c.loop-id-test.true
      (c.in_ok-put_hyp.ensures.does (with_hyps o c.loop-id.id-index js)
      (next_hyp o c.args.self.now c.loop-id.self c.args.ids.now c.loop-id.id-index _ all c.loop-id-test.true (c.loop-id.invariant.1 o all))),
)

pub returns-clause-does : goal.returns-clause-does
returns-clause-does c = λ o all.
    let is : c.loop-id.id-index ≡ length c.args.ids.now = (let low = c.loop-id-test.false in let high = c.loop-id.auto.id-index-end in omega (arith, low, high)) in
    rests_all o c.loop-id.self c.args.ids.now c.loop-id.id-index is (c.loop-id.invariant.1 o all)
