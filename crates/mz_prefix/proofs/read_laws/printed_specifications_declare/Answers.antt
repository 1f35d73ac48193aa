use Rattle.mz_prefix.proofs.PrintedLines.{printed-declare}
use Rattle.mz_prefix.proofs.read_laws.printed_specifications_declare.Goals as goal

pub returns : goal.returns
returns c = printed-declare
