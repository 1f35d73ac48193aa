use Rattle.std.proofs.Common.{subst, arith}
use Rattle.mz_layout_tables.specs.Rows.{IsRow}
use Rattle.mz_layout_tables.proofs.TableLists.{length-term_words}
use Rattle.mz_layout_tables.proofs.row.Row.arity.Goals as goal

pub arity-requires : goal.arity-requires
arity-requires c =
    let there = subst (IsRow c.args.mmb.now) c.in-Term.is c.requires in
    omega (arith, there, length-term_words c.args.mmb.now)
