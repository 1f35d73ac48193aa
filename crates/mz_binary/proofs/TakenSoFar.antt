-- The rows that the statements passed have taken.
use Rattle.std.proofs.Common.{◌≡◌, ◌∙◌, List, [], refl, sym, ap}
use Rattle.mz_logic_theory.specs.Declaration.{Declaration, sorts}
use Rattle.mz_logic_theory.specs.LegalLists.{Statement}
use Rattle.mz_layout_tables.specs.Tables.{list_at}
use Rattle.mz_layout_tables.specs.RowWords.{first_sorts}
use Rattle.mz_machine_env.specs.Before.{taken_before}
use Rattle.mz_binary.specs.Progress.{Progress, HasPassed}
use Rattle.mz_machine_theory.specs.FileRows.{taken_by}
use Rattle.mz_binary_theory.proofs.Offered.{same-taken, chain-sorts}

pub taken : (p : Progress) (ss : List Statement) (env : List Declaration) → HasPassed p ss env → taken_by env ≡ taken_before p.file p.rows
taken p ss env before =
    let declared : sorts env ≡ first_sorts p.file p.rows.sorts = chain-sorts p.standard p.file [] (list_at p.file) ss env p.at before.statements refl ∙ ap (first_sorts p.file) (sym before.rows.sorts_are) in
    same-taken (taken_by env) (taken_before p.file p.rows) declared (sym before.rows.terms_are) (sym before.rows.thms_are)
