use Rattle.std.proofs.Common.{sym}
use Rattle.mz_base.specs.Gaps.{gaps_of}
use Rattle.mz_machine_env.proofs.Offered.{byte-kind}
use Rattle.mz_machine.specs.Steps.{Underway}
use Rattle.mz_machine.specs.Stepping.{IsBegun}
use Rattle.mz_machine.proofs.Advancing.{begun-ok}
use Rattle.mz_machine.proofs.machine.Machine.begin.Goals as goal

pub begin-setting-requires-clause-may_run : goal.begin-setting-requires-clause-may_run
begin-setting-requires-clause-may_run c = rw (byte-kind c.args.kind c.kind_by-kind.result c.requires.kinds c.kind_by-kind.ensures) c.requires

pub begun-requires : goal.begun-requires
begun-requires c = c.begin-setting.ensures.running

pub returns : goal.returns
returns c =
    begun-ok c.begin-setting.result c.begun.result c.begin-setting.new.parts (λ (u : Underway). IsBegun (gaps_of c.args.mode) c.args.mmb.now c.args.kind c.args.row c.args.before u) c.begun.ensures
    (rw (sym (byte-kind c.args.kind c.kind_by-kind.result c.requires.kinds c.kind_by-kind.ensures)) c.begin-setting.ensures.begun)
