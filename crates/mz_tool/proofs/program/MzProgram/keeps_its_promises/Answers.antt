use Rattle.mz_tool.proofs.Requests.{promised}
use Rattle.mz_tool.proofs.program.MzProgram.keeps_its_promises.Goals as goal

pub returns : goal.returns
returns c = λ file asked proved. promised file asked proved
