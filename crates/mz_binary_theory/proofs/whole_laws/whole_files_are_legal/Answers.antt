use Rattle.mz_logic_theory.proofs.Offered.{legal_list_is_closed}
use Rattle.mz_binary_theory.specs.Standards.{strict_standard}
use Rattle.mz_binary_theory.proofs.ByTable.{good-by-table}
use Rattle.mz_binary_theory.proofs.LegalChains.{good-legal, cite-as-bodies}
use Rattle.mz_binary_theory.proofs.whole_laws.whole_files_are_legal.Goals as goal

pub returns : goal.returns
returns c = record { by_table = good-by-table; legal = good-legal; closed = λ file ss good. legal_list_is_closed ss (good-legal strict_standard file ss good); citations = cite-as-bodies }
