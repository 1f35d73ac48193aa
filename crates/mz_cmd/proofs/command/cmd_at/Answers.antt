use Rattle.std.proofs.Common.{◌≡◌, ◌+◌, drop, arith}
use Rattle.std.proofs.lemmas.Grind.{common_steps}
use Rattle.std.proofs.lemmas.List.{get_or-drop}
use Rattle.mz_cmd.specs.Reading.{first_command}
use Rattle.mz_cmd.proofs.ReadingLaws.{IsBytes, stands, judged}
use Rattle.mz_cmd.proofs.command.cmd_at.Goals as goal

pub returns-clause-stands : goal.returns-clause-stands
returns-clause-stands c =
    let bytes : IsBytes (drop c.args.pos c.args.bytes.now) = λ i. rw get_or-drop (omega (arith, c.type_inv.bytes (c.args.pos + i))) in
    let is : c.first_cmd.result ≡ first_command (drop c.args.pos c.args.bytes.now) = grind (arith, common_steps) in
    stands (drop c.args.pos c.args.bytes.now) c.first_cmd.result bytes is

pub returns-clause-fault : goal.returns-clause-fault
returns-clause-fault c =
    let is : c.first_cmd.result ≡ first_command (drop c.args.pos c.args.bytes.now) = grind (arith, common_steps) in
    judged (drop c.args.pos c.args.bytes.now) c.first_cmd.result is
