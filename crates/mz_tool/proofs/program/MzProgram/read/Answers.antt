use Rattle.std.specs.Prelude.{map, string_bytes}
use Rattle.mz_tool.proofs.Requests.{one-request}
use Rattle.mz_tool.proofs.program.MzProgram.read.Goals as goal

pub returns-clause-one : goal.returns-clause-one
returns-clause-one c = λ asked other one two. one-request (map string_bytes c.args.words.now) asked other one two
