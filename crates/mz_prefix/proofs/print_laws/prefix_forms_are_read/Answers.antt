use Rattle.mz_prefix.proofs.Prefix.{prefix-read}
use Rattle.mz_prefix.proofs.PrintFormulas.{prefix-meant}
use Rattle.mz_prefix.proofs.print_laws.prefix_forms_are_read.Goals as goal

pub returns : goal.returns
returns c = record { read = prefix-read; meant = prefix-meant }
