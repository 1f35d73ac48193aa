use Rattle.mz_decompile_text.proofs.Named.{named-alike}
use Rattle.mz_decompile_text.proofs.laws.named_statements_name.Goals as goal

pub returns : goal.returns
returns c = named-alike
