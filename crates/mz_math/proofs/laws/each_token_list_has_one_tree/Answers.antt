use Rattle.mz_math_theory.proofs.Offered.{one-tree}
use Rattle.mz_math.proofs.laws.each_token_list_has_one_tree.Goals as goal

pub returns : goal.returns
returns c = one-tree
