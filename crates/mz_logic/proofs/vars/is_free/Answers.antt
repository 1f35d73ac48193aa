use Rattle.std.proofs.Common.{length, subst, sym, ◌∙◌, true≢false}
use Rattle.mz_logic_theory.specs.Declaration.{signatures}
use Rattle.mz_logic_theory.specs.Legality.{InRange}
use Rattle.mz_logic_theory.proofs.Offered.{range_of_sort, free_is_bound}
use Rattle.mz_logic.proofs.vars.is_free.Goals as goal

pub in_free_tree-requires : goal.in_free_tree-requires
in_free_tree-requires c =
    subst (InRange (signatures c.args.env.now) (length c.args.ctx.now)) (sym c.borrowed.ensures) (range_of_sort (signatures c.args.env.now) c.args.ctx.now c.args.expr.now c.requires.sorted.0 c.requires.sorted.1)

pub returns-then-not-is_bound : goal.returns-then-not-is_bound
returns-then-not-is_bound c = (
  λ never. absurd (true≢false (sym never)),
  λ h. absurd (true≢false (sym (c.is_bound.ensures.1 (free_is_bound (signatures c.args.env.now) c.args.ctx.now c.requires.deps c.args.x c.args.expr.now c.requires.sorted.0 c.requires.sorted.1 h)) ∙ c.if-not-is_bound.true)),
)
