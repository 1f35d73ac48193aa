use Rattle.std.proofs.Common.{sym, subst}
use Rattle.std.proofs.lemmas.Result.{err_from_is_err_and}
use Rattle.mz_layout_tables.specs.Heads.{IsNextHead, StandsAt}
use Rattle.mz_binary.specs.Progress.{Finds}
use Rattle.mz_binary.proofs.Finding.{found-fault, found-end, found-parts, of-stands, row-here}
use Rattle.mz_binary.proofs.statement.found_at.Goals as goal

pub returns-in_err-head_at-clause-found : goal.returns-in_err-head_at-clause-found
returns-in_err-head_at-clause-found c =
    let p = err_from_is_err_and c.from_residual.result c.from_residual.ensures.1 in
    rw (p.1, p.2) (found-fault c.args.mmb.now c.args.rows c.requires.sorts c.args.at _ c.in_err-head_at.ensures.judged)

pub returns-in-End-clause-found : goal.returns-in-End-clause-found
returns-in-End-clause-found c =
    let ends = subst (StandsAt c.args.mmb.now c.args.rows c.args.at) c.in-End.is c.in_ok-head_at.ensures.stands in
    found-end c.args.mmb.now c.args.rows c.requires.sorts c.args.at ends.0 ends.1

-- what the parts ask of the statement's head, for which a row is left

pub check_parts-requires-clause-row : goal.check_parts-requires-clause-row
check_parts-requires-clause-row c =
    row-here c.args.mmb.now c.args.rows c.requires.sorts c.args.at c.in-Statement.head
    (subst (StandsAt c.args.mmb.now c.args.rows c.args.at) c.in-Statement.is c.in_ok-head_at.ensures.stands)

pub check_parts-requires-clause-order : goal.check_parts-requires-clause-order
check_parts-requires-clause-order c =
    let next : IsNextHead c.args.mmb.now c.args.rows c.args.at c.in-Statement.head = subst (StandsAt c.args.mmb.now c.args.rows c.args.at) c.in-Statement.is c.in_ok-head_at.ensures.stands in
    next.next_after

pub check_parts-requires-clause-within : goal.check_parts-requires-clause-within
check_parts-requires-clause-within c =
    let next : IsNextHead c.args.mmb.now c.args.rows c.args.at c.in-Statement.head = subst (StandsAt c.args.mmb.now c.args.rows c.args.at) c.in-Statement.is c.in_ok-head_at.ensures.stands in
    next.within

pub returns-in-Statement-clause-found : goal.returns-in-Statement-clause-found
returns-in-Statement-clause-found c =
    let file = c.args.mmb.now in
    let next : IsNextHead file c.args.rows c.args.at c.in-Statement.head = subst (StandsAt file c.args.rows c.args.at) c.in-Statement.is c.in_ok-head_at.ensures.stands in
    subst (λ found. Finds file c.args.rows found c.check_parts.result)
    (sym (found-parts file c.args.rows c.requires.sorts c.args.at c.in-Statement.head next)) c.check_parts.ensures.found

pub returns-in-Statement-clause-stands : goal.returns-in-Statement-clause-stands
returns-in-Statement-clause-stands c =
    let file = c.args.mmb.now in
    let next : IsNextHead file c.args.rows c.args.at c.in-Statement.head = subst (StandsAt file c.args.rows c.args.at) c.in-Statement.is c.in_ok-head_at.ensures.stands in
    of-stands file c.args.rows c.in-Statement.head c.args.at next.head_is c.check_parts.result c.check_parts.ensures.head
