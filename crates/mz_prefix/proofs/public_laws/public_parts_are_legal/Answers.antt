use Rattle.mz_prefix.proofs.Legal.{public-parts-legal}
use Rattle.mz_prefix.proofs.public_laws.public_parts_are_legal.Goals as goal

pub returns : goal.returns
returns c = public-parts-legal
