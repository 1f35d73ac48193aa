use Rattle.std.proofs.Common.{◌∙◌, [], ◌∷◌, ◌++◌, List, reverse, ap, sym, subst, append_assoc, append-nil}
use Rattle.mz_store.specs.Sharing.{AreIn, trees_of}
use Rattle.mz_store.specs.declared.item.Id.{Id}
use Rattle.mz_emit.specs.Going.{CanSpellAll, HasWritten, hyps_written}
use Rattle.mz_emit.proofs.Going.{empty, hyp_done, in_middle, next_can, reverse_more, still_ready}
use Rattle.mz_emit.proofs.stream.Stream.spell_hyps.Goals as goal

pub loop-hyp-init : goal.loop-hyp-init
loop-hyp-init c =
    let all = ap (λ r. r.iter.rest.now) c.into_iter-hyp-iterator.ensures.into_iter_gives ∙ ap (λ i. i.rest.now) c.rev-hyp-items.ensures.source ∙ c.iter.ensures.rest in
    ([], sym (append-nil c.into_iter-hyp-iterator.result.iter.rest.now ∙ all), λ ps ds w ready can. (ready, sym (append-nil c.args.self.now.out.items)))

pub spell-requires : goal.spell-requires
spell-requires c =
    let s = c.args.store.now in
    let h : Id = c.in-Some.hyp.now in
    let left : List Id = c.next.new.self.iter.rest.now in
    let r = c.requires.can in
    let cut = c.loop-hyp.invariant.1 ∙ ap (λ (is : List Id). is ++ c.loop-hyp.invariant.0) c.in-Some.ensures.steps in
    let before = c.loop-hyp.invariant.2 r.0 r.1 r.2 r.3 r.4 in
    record {
      inside = in_middle s left c.loop-hyp.invariant.0 h (subst (AreIn s) cut c.requires.inside);
      can = (
        r.0,
        r.1,
        (hyps_written r.0 r.1 s r.2 (reverse c.loop-hyp.invariant.0)).after,
        still_ready r.0 r.1 s c.loop-hyp.self c.hyp.new.self _ c.in_ok-hyp.ensures.heap c.in_ok-hyp.ensures.met c.in_ok-hyp.ensures.todo before.0,
        next_can r.0 r.1 s r.2 left c.loop-hyp.invariant.0 h (subst (λ (is : List Id). CanSpellAll r.0 r.1 r.2 (trees_of s is)) cut r.4),
      );
    }

pub loop-hyp-preserved : goal.loop-hyp-preserved
loop-hyp-preserved c =
    let s = c.args.store.now in
    let h : Id = c.in-Some.hyp.now in
    let left : List Id = c.next.new.self.iter.rest.now in
    let done : List Id = c.loop-hyp.invariant.0 in
    let cut = c.loop-hyp.invariant.1 ∙ ap (λ (is : List Id). is ++ done) c.in-Some.ensures.steps in (
      h ∷ done,
      cut ∙ append_assoc left (h ∷ []) done,
      λ ps ds w ready can.
          subst (λ (is : List Id). HasWritten ps ds s c.args.self.now c.spell.new.self (hyps_written ps ds s w is)) (sym (reverse_more done h))
          (hyp_done ps ds s c.args.self.now c.loop-hyp.self c.spell.new.self w (reverse done) h (c.loop-hyp.invariant.2 ps ds w ready can) c.hyp.new.self
          c.in_ok-hyp.ensures.heap c.in_ok-hyp.ensures.met c.in_ok-hyp.ensures.todo c.in_ok-hyp.ensures.out
          (λ r. c.in_ok-spell.ensures.does ps ds (hyps_written ps ds s w (reverse done)).after r (next_can ps ds s w left done h (subst (λ (is : List Id). CanSpellAll ps ds w (trees_of s is)) cut can)))),
    )

pub returns : goal.returns
returns c = record {
  does = λ ps ds w ready can.
      let done : List Id = c.loop-hyp.invariant.0 in
      let all = c.loop-hyp.invariant.1 ∙ ap (λ (is : List Id). is ++ done) (empty c.loop-hyp.hyp-iterator.iter.rest.now c.in-None.ensures.steps.0) in
      subst (λ (is : List Id). HasWritten ps ds c.args.store.now c.args.self.now c.loop-hyp.self (hyps_written ps ds c.args.store.now w (reverse is))) (sym all) (c.loop-hyp.invariant.2 ps ds w ready can);
}
