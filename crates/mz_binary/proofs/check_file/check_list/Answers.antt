use Rattle.std.proofs.Common.{[], subst}
use Rattle.mz_layout_tables.specs.Tables.{list_at}
use Rattle.mz_binary_theory.specs.Chains.{IsGoodStatement}
use Rattle.mz_binary_theory.specs.Good.{Good}
use Rattle.mz_binary.specs.Progress.{CountsRows}
use Rattle.mz_binary_theory.proofs.Offered.{chain-declares}
use Rattle.mz_binary.proofs.SoundLists.{good-sound}
use Rattle.mz_binary.proofs.check_file.check_list.Goals as goal

pub returns-in-End-clause-checked : goal.returns-in-End-clause-checked
returns-in-End-clause-checked g c =
    let so_far = c.statements.invariant.so_far in
    let file = c.statements.checker.file in
    let ends = c.in-End.ensures.next so_far.0 so_far.1 so_far.2 in
    let declares = chain-declares (IsGoodStatement g.B.Bodies.STANDARD file) [] (list_at file) so_far.0 so_far.1 c.statements.checker.at so_far.2.statements in
    let standard = g.B.Bodies.STANDARD in
    let whole = subst (λ f. Good standard f so_far.0) c.statements.invariant.same_file ends.0 in
    (so_far.0, whole, good-sound standard c.args.first.file so_far.0 whole, subst (CountsRows c.in-End.rows) declares ends.1)
