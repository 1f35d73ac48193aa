use Rattle.mz_asm.proofs.RoundTrip.{assembled, normal}
use Rattle.mz_asm.proofs.laws.normal_files_are_binaries.Goals as goal

pub returns : goal.returns
returns c = λ file few. ((λ is. assembled file is few), (λ made. normal made.0 file made.1))
