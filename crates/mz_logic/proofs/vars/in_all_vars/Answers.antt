use Rattle.std.proofs.Common.{subst, sym, length}
use Rattle.mz_logic_theory.specs.Declaration.{signatures}
use Rattle.mz_logic_theory.specs.Legality.{InRange}
use Rattle.mz_logic_theory.specs.View.{tree}
use Rattle.mz_logic_theory.proofs.Offered.{range_of_sort}
use Rattle.mz_logic.proofs.vars.in_all_vars.Goals as goal

pub in_tree-requires : goal.in_tree-requires
in_tree-requires c =
    subst (λ ctx. InRange (signatures c.args.env.now) (length ctx) (tree c.args.expr.now)) (sym c.of.ensures)
    (range_of_sort (signatures c.args.env.now) c.args.ctx.now (tree c.args.expr.now) c.requires.0 c.requires.1)
