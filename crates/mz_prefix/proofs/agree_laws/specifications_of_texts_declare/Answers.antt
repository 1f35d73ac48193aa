use Rattle.mz_prefix.proofs.Declared.{texts-declared}
use Rattle.mz_prefix.proofs.agree_laws.specifications_of_texts_declare.Goals as goal

pub returns : goal.returns
returns c = texts-declared
