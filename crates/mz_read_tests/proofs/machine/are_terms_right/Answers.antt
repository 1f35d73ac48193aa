use Rattle.mz_base.proofs.Offered.{each_before_more}
use Rattle.mz_machine_env.specs.Before.{HasRightWords}
use Rattle.mz_read_tests.proofs.machine.are_terms_right.Goals as goal

pub terms-preserved : goal.terms-preserved
terms-preserved c = each_before_more (HasRightWords c.args.mmb.now c.args.sorts) c.terms.t c.terms.invariant c.in-Ok.ensures
