use Rattle.mz_binary_theory.proofs.WholeFiles.{one-list, good-spelled}
use Rattle.mz_binary_theory.proofs.whole_laws.whole_files_spell_one_list.Goals as goal

pub returns : goal.returns
returns c = record { one = one-list; good = good-spelled }
