use Rattle.mz_tool_verify.proofs.Requests.{promised}
use Rattle.mz_tool_verify.proofs.program.VerifierProgram.keeps_its_promises.Goals as goal

pub returns : goal.returns
returns c = λ file asked proved. promised file asked proved
