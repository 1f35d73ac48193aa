use Rattle.std.proofs.Common.{[], ap, arith, length, refl, subst}
use Rattle.mz_logic_theory.specs.Tree.{Tree}
use Rattle.mz_logic_theory.specs.View.{tree}
use Rattle.mz_match_rows.specs.Beside.{beside}
use Rattle.mz_match_rows.specs.Comparison.{Answers}
use Rattle.mz_spec_proved_theory.proofs.Offered.{says-nothing}
use Rattle.mz_spec_proved_theory.specs.Comparison.{compared}
use Rattle.mz_match_rows.proofs.PlainTrees.{said-below, plain-answer}
use Rattle.mz_match_rows.proofs.expression.same_tree.Goals as goal

pub same_at-requires : goal.same_at-requires
same_at-requires c = let (m, f, to, plain, said) = c.requires in (m, f, to, plain.stream, said)

pub returns : goal.returns
returns c = λ m f to plain said.
    plain-answer (beside c.args.sides.now m) [] c.same_at.new.pairs (tree c.args.expr.now) f c.same_at.result to c.is_some.result plain.none_beside
    (says-nothing [] refl) (let none = ap length plain.no_dummies in omega (arith, none))
    (said-below c.args.sides.now.mmb.now c.args.sides.now.params c.args.sides.now.start m plain.stream.marks plain.no_dummies c.args.from.at c.args.from.dummies f to.at to.dummies said)
    c.is_some.ensures (subst (λ (e : Tree). Answers c.same_at.result c.same_at.new.pairs (compared (beside c.args.sides.now m) [] e f) to) c.borrowed.ensures (c.same_at.ensures m f to plain.stream said))
