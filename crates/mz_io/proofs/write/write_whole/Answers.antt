use Rattle.std.proofs.Common.{◌∙◌, arith}
use Rattle.mz_io.proofs.Written.{length-rest, written_grows}
use Rattle.mz_io.proofs.write.write_whole.Goals as goal

pub loop-done-preserved : goal.loop-done-preserved
loop-done-preserved g c =
    let wrote = c.in_ok-done.ensures in
    record {
      log = written_grows _ _ _ c.args.text.now c.loop-done.done c.in_ok-done.field-0 c.loop-done.invariant.log wrote.logged;
      within = omega (arith, wrote.bound);
      later = omega (arith, wrote.cause.later);
      clear = λ clear. wrote.stays_clear (c.loop-done.invariant.clear clear);
      room = λ clear. let before = c.loop-done.invariant.room clear in let now = wrote.lessens (c.loop-done.invariant.clear clear) in omega arith;
      never = λ clear fits.
          let before = c.loop-done.invariant.room clear in
          let len = length-rest c.loop-done.done c.args.text.now in
          wrote.only_full (c.loop-done.invariant.clear clear) (λ some. omega arith) ∙ c.loop-done.invariant.never clear fits;
    }
