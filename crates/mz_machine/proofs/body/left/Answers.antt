use Rattle.std.proofs.Common.{subst}
use Rattle.mz_machine_env.specs.OwnRow.{byte_of}
use Rattle.mz_machine_theory.specs.Headings.{kind_at}
use Rattle.mz_machine.specs.BodyAnswers.{WhereGood}
use Rattle.mz_machine.specs.Running.{IsRunning}
use Rattle.mz_machine.specs.declared.body.BodyChecked.{BodyChecked}
use Rattle.mz_machine.proofs.KnownParams.{remembered}
use Rattle.mz_machine.proofs.body.left.Goals as goal

pub returns-in-Good : goal.returns-in-Good
returns-in-Good c =
    let t = c.args.setting.now in
    let s = c.args.parts.now.store in
    let running = subst (λ (r : BodyChecked). WhereGood r (IsRunning t c.args.parts.now)) c.in-Good.is c.requires in
    remembered t.env.file t.row (kind_at (byte_of t.kind)) t.entered running.1 s running.0.mode running.0.context running.0.params _ running.0.over
