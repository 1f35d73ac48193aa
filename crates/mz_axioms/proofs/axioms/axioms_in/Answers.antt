use Rattle.std.proofs.Common.{ℕ, List, sym, subst}
use Rattle.std.proofs.lemmas.Result.{IfOk-weaker}
use Rattle.mz_binary_theory.specs.Good.{IsGood}
use Rattle.mz_axioms.specs.Kept.{told}
use Rattle.mz_axioms.specs.Lists.{AreSupports}
use Rattle.mz_axioms.specs.Rows.{TellsFile}
use Rattle.mz_axioms.proofs.Listing.{are-supports}
use Rattle.mz_axioms.proofs.Telling.{told-within, told-few}
use Rattle.mz_axioms.proofs.axioms.axioms_in.Goals as goal

pub rows_of-requires : goal.rows_of-requires
rows_of-requires c = let (spec, bin, is) = c.requires in subst IsGood (sym is.binary) (is.accepts.statements, is.accepts.is_good)

pub lists_of-requires-clause-within : goal.lists_of-requires-clause-within
lists_of-requires-clause-within c = told-within c.args.pair.now.mmb (told c.in_ok-table.table) c.in_ok-table.ensures.told

pub lists_of-requires-clause-few : goal.lists_of-requires-clause-few
lists_of-requires-clause-few c = told-few c.args.pair.now.mmb (told c.in_ok-table.table) c.in_ok-table.ensures.told

pub returns : goal.returns
returns c = λ spec bin is.
    let rows = told c.in_ok-table.table in
    let tells = subst (λ (f : List ℕ). TellsFile f rows) is.binary c.in_ok-table.ensures.told in
    IfOk-weaker c.lists_of.result _ (AreSupports spec bin) (λ lists same. are-supports spec bin is.accepts tells.0 tells.1 rows tells.2 lists same) c.lists_of.ensures
