use Rattle.std.proofs.Common.{sym}
use Rattle.mz_machine_env.proofs.Offered.{byte-kind}
use Rattle.mz_pmachine.proofs.body.check_portable.Goals as goal

pub check_portable_in-requires-clause-may_run : goal.check_portable_in-requires-clause-may_run
check_portable_in-requires-clause-may_run g c =
    rw (byte-kind c.args.kind c.kind_by-kind.result c.requires.may_run.kinds c.kind_by-kind.ensures) c.requires.may_run

pub returns-clause-run : goal.returns-clause-run
returns-clause-run g c =
    rw (sym (byte-kind c.args.kind c.kind_by-kind.result c.requires.may_run.kinds c.kind_by-kind.ensures)) c.check_portable_in.ensures.run

pub returns-clause-steps : goal.returns-clause-steps
returns-clause-steps g c =
    rw (sym (byte-kind c.args.kind c.kind_by-kind.result c.requires.may_run.kinds c.kind_by-kind.ensures)) c.check_portable_in.ensures.steps
