use Rattle.std.proofs.Common.{◌∙◌, sym, ap, arith}
use Rattle.mz_logic_theory.proofs.Offered.{past-end}
use Rattle.mz_prefix.specs.PublicPart.{any_mentions_local}
use Rattle.mz_prefix.proofs.names.Names.+mentions_local.Goals as goal

pub any_mentions_local-returns : goal.any_mentions_local-returns
any_mentions_local-returns t c =
    let end = past-end c.args.es.now c.loop-i.i (omega (arith, c.len-i-end.ensures, c.loop-i-test.false)) in
    sym (ap (any_mentions_local c.args.self.now.locals.items) end) ∙ c.loop-i.invariant
