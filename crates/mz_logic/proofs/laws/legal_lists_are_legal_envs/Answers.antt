use Rattle.mz_logic_theory.specs.LegalLists.{gap_free}
use Rattle.mz_logic_theory.proofs.Offered.{legal_list_is_legal_env}
use Rattle.mz_logic.proofs.laws.legal_lists_are_legal_envs.Goals as goal

pub returns : goal.returns
returns c = legal_list_is_legal_env gap_free
