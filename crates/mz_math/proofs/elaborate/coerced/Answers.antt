use Rattle.std.proofs.Common.{◌∙◌, sym}
use Rattle.std.proofs.lemmas.Bool.{true≢false}
use Rattle.mz_logic_theory.specs.Declaration.{signatures}
use Rattle.mz_math.proofs.Uncoerced.{low-itself, high-itself}
use Rattle.mz_math.proofs.elaborate.coerced.Goals as goal

pub returns-then-is_low-clause-built : goal.returns-then-is_low-clause-built
returns-then-is_low-clause-built c =
    let there = c.requires.there in
    low-itself (signatures c.args.env.now) c.args.coercions.now c.args.ctx.now (c.are_none.ensures.0 c.if-not-are_none.false) c.args.tree there.0 there.1 c.args.most there.2
    (c.is_low.ensures.0 c.if-is_low.true)

pub returns-clause-built : goal.returns-clause-built
returns-clause-built c =
    high-itself (signatures c.args.env.now) c.args.coercions.now c.args.ctx.now (c.are_none.ensures.0 c.if-not-are_none.false) c.args.tree c.args.most
    (λ low. true≢false (sym (c.is_low.ensures.1 low) ∙ c.if-is_low.false))
