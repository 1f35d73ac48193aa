use Rattle.std.proofs.Common.{◌≡◌, ◌<◌, ◌≤◌, ℕ, refl, inr, arith}
use Rattle.mz_machine_env.specs.OwnRow.{MayRun}
use Rattle.mz_read_tests.proofs.machine.may_run.Goals as goal

pub returns : goal.returns
returns c holds =
    let rights = c.are_thms_right.ensures holds in
    record {
      kinds = inr (inr refl);
      within = record { sorts_within = omega arith; terms_within = omega arith; thms_within = omega arith };
      next = (omega arith, omega arith, rights c.args.row (omega arith));
      terms_right = λ t below. (c.args.before.sorts, omega arith, c.are_terms_right.ensures c.if-not-are_terms_right.false t below);
      thms_right = λ i below. (c.args.before.sorts, omega arith, rights i (omega (arith, below)));
    }
