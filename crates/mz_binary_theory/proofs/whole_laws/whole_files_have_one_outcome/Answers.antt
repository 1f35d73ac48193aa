use Rattle.mz_binary_theory.proofs.WholeFiles.{good-or-fault, good-excludes, one-fault, runs-exact}
use Rattle.mz_binary_theory.proofs.whole_laws.whole_files_have_one_outcome.Goals as goal

pub returns : goal.returns
returns c = record { either = good-or-fault; not_both = good-excludes; one_fault = one-fault; computed = runs-exact }
