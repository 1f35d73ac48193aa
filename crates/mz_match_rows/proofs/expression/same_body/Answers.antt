use Rattle.std.proofs.Common.{subst, arith}
use Rattle.mz_logic_theory.specs.Tree.{Tree}
use Rattle.mz_logic_theory.specs.View.{tree}
use Rattle.mz_match_rows.specs.Beside.{beside}
use Rattle.mz_match_rows.specs.Comparison.{Answers}
use Rattle.mz_match_rows.proofs.SameBodies.{same-body}
use Rattle.mz_spec_proved_theory.proofs.Offered.{says-nothing}
use Rattle.mz_spec_proved_theory.specs.Comparison.{compared}
use Rattle.mz_match_rows.proofs.expression.same_body.Goals as goal

pub same_at-requires : goal.same_at-requires
same_at-requires c = c.requires

pub returns : goal.returns
returns c = λ m f to stream said.
    let pairs = c.no_pairs-pairs in
    let few = stream.marks.few in
    same-body (beside c.args.sides.now m) pairs.result c.same_at.new.pairs (tree c.args.body.now) f c.same_at.result to c.is_some.result
    (says-nothing pairs.result pairs.ensures.none_yet) (omega (arith, few, pairs.ensures.many)) c.is_some.ensures
    (subst (λ (e : Tree). Answers c.same_at.result c.same_at.new.pairs (compared (beside c.args.sides.now m) pairs.result e f) to) c.borrowed.ensures (c.same_at.ensures m f to stream said))
