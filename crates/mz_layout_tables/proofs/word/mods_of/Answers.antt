use Rattle.std.proofs.Common.{sym, ◌∙◌, arith}
use Rattle.mz_layout_tables.proofs.TableLists.{length-sorts}
use Rattle.mz_layout_tables.proofs.FirstSorts.{slice_get-first_sorts, slice_get-further}
use Rattle.mz_layout_tables.proofs.word.mods_of.Goals as goal

pub mods-requires : goal.mods-requires
mods-requires c = omega (arith, c.if-sort-sorts.true, c.requires, length-sorts c.args.mmb.now)

pub returns-then-sort-sorts : goal.returns-then-sort-sorts
returns-then-sort-sorts c =
    sym (slice_get-first_sorts c.args.mmb.now c.args.sorts c.requires c.args.sort (omega (arith, c.if-sort-sorts.true)) ∙ c.mods.ensures.all)

pub returns-else-sort-sorts : goal.returns-else-sort-sorts
returns-else-sort-sorts c = sym (slice_get-further c.args.mmb.now c.args.sorts c.requires c.args.sort (omega (arith, c.if-sort-sorts.false)))
