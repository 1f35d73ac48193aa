use Rattle.mz_binary_theory.proofs.RowLaws.{good-rows}
use Rattle.mz_binary_theory.proofs.laws.good_statements_have_rows.Goals as goal

pub returns : goal.returns
returns c = good-rows
