use Rattle.mz_base.proofs.Offered.{each_before_more}
use Rattle.mz_machine_env.specs.Before.{HasRightParams}
use Rattle.mz_read_tests.proofs.machine.are_thms_right.Goals as goal

pub thms-preserved : goal.thms-preserved
thms-preserved c = each_before_more (HasRightParams c.args.mmb.now c.args.sorts) c.thms.i c.thms.invariant c.in-Ok.ensures
