use Rattle.std.proofs.Common.{get_or, ap, sym, ◌∙◌}
use Rattle.mz_sexpr.proofs.Sizes.{sized_at, told_by_sizes}
use Rattle.mz_sexpr.proofs.ends.end_at.Goals as goal

pub returns-then-is_empty : goal.returns-then-is_empty
returns-then-is_empty c =
    let told = told_by_sizes c.args.rows.now c.args.ends.now (sym c.is_empty.ensures ∙ c.if-is_empty.true) in
    sym (ap (λ ks. get_or ks c.args.n 0) told ∙ sized_at c.args.rows.now c.args.n _ c.requires.within)
