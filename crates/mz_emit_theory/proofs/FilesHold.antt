-- A file whose parts say a legal text is good.
use Rattle.std.proofs.Common.{Bool, [], refl, sym, subst}
use Rattle.mz_logic_theory.specs.LegalLists.{LegalBy, allowed_with}
use Rattle.mz_layout_tables.specs.Normal.{file_of}
use Rattle.mz_layout_tables.specs.Standing.{AreListed}
use Rattle.mz_layout_tables.specs.Tables.{list_at}
use Rattle.mz_layout_tables.proofs.Offered.{layout-holds, all-listed, counts-said}
use Rattle.mz_emit_theory.proofs.Joining.{same-at-first}
use Rattle.mz_binary_theory.specs.Standards.{by_table}
use Rattle.mz_binary_theory.proofs.Offered.{lets-with, good-legal, good-spelled}
use Rattle.mz_emit_theory.specs.FileLaws.{WrittenFilesAreGood, WrittenFilesSpell, WrittenListsAreLegal}
use Rattle.mz_emit_theory.proofs.ListsHold.{rest-good}

pub files-good : WrittenFilesAreGood
files-good gaps p text made fit legal written =
    let listed : AreListed (file_of p) (list_at (file_of p)) p.statements = subst (λ at. AreListed (file_of p) at p.statements) (sym (counts-said p fit.short).list_at) (all-listed p fit) in
    let r = rest-good gaps p fit [] [] (list_at (file_of p)) text made p.statements written legal listed same-at-first tt (record { sorts_are = refl; terms_are = tt; thms_are = tt }) in
    record { layout = layout-holds p fit; env = r.last; to = r.to; statements = r.statements; ends = r.ends }

pub files-spell : WrittenFilesSpell
files-spell gaps p text made fit legal written = good-spelled (by_table gaps) (file_of p) made (files-good gaps p text made fit legal written)

pub made-legal : WrittenListsAreLegal
made-legal gaps p text made fit legal written =
    subst (λ (g : Bool). LegalBy (allowed_with g) made) (lets-with gaps) (good-legal (by_table gaps) (file_of p) made (files-good gaps p text made fit legal written))
