use Rattle.std.proofs.Common.{◌∙◌, sym, arith}
use Rattle.mz_layout_tables.proofs.Offered.{length-term_words}
use Rattle.mz_match_rows.proofs.expression.is_term.Goals as goal

pub arity-requires : goal.arity-requires
arity-requires c =
    let there = c.requires (sym c.makes_term.ensures ∙ c.if-not-makes_term.false) in
    omega (arith, there, length-term_words c.args.sides.now.mmb.now)
