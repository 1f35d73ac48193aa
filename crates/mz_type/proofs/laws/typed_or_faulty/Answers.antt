use Rattle.mz_type.proofs.TextFaults.{typed_or_faulty as proved}
use Rattle.mz_type.proofs.laws.typed_or_faulty.Goals as goal

pub returns : goal.returns
returns c = proved
