use Rattle.std.proofs.Common.{subst, sym, length}
use Rattle.mz_logic_theory.specs.Declaration.{signatures}
use Rattle.mz_logic_theory.specs.Legality.{InRange}
use Rattle.mz_logic_theory.proofs.Offered.{range_of_sort}
use Rattle.mz_logic.proofs.vars.in_free_vars.Goals as goal

pub in_free_tree-requires : goal.in_free_tree-requires
in_free_tree-requires c =
    subst (λ e. InRange (signatures c.args.env.now) (length c.of.result) e) (sym c.borrowed.ensures)
    (subst (λ ctx. InRange (signatures c.args.env.now) (length ctx) c.args.expr.now) (sym c.of.ensures)
    (range_of_sort (signatures c.args.env.now) c.args.ctx.now c.args.expr.now c.requires.0 c.requires.1))
