use Rattle.std.proofs.Common.{subst, arith}
use Rattle.mz_base.proofs.Offered.{all_hold-excludes}
use Rattle.mz_layout_tables.specs.Heads.{IsNextHead, StandsAt, head_checks}
use Rattle.mz_binary_walk.proofs.Heads.{ahead, goes-on}
use Rattle.mz_binary_walk.proofs.passed.Passed.next.Goals as goal

-- the statement's head, with a row left for it
next-head : (c : goal.In-Ok-Statement) → IsNextHead c.args.mmb.now c.args.self.rows c.args.self.at c.in-Ok-Statement.head
next-head c = subst (StandsAt c.args.mmb.now c.args.self.rows c.args.self.at) c.in-Ok-Statement.field-0-is c.in-Ok-Statement.ensures.stands

pub past-requires-clause-row : goal.past-requires-clause-row
past-requires-clause-row c = (next-head c).fits

pub past-requires-clause-statements : goal.past-requires-clause-statements
past-requires-clause-statements c =
    let low = c.requires.placed.statements_low in
    let further = ahead c.args.mmb.now c.args.self c.requires.placed c.in-Ok-Statement.head (next-head c) in
    omega (arith, low, further)

pub past-requires-clause-publics : goal.past-requires-clause-publics
past-requires-clause-publics c =
    let low = c.requires.placed.publics_low in
    let further = ahead c.args.mmb.now c.args.self c.requires.placed c.in-Ok-Statement.head (next-head c) in
    omega (arith, low, further)

pub returns-in-Ok-Statement-clause-goes_on : goal.returns-in-Ok-Statement-clause-goes_on
returns-in-Ok-Statement-clause-goes_on c =
    goes-on c.args.mmb.now c.args.self c.requires.placed c.in-Ok-Statement.head
    (subst (StandsAt c.args.mmb.now c.args.self.rows c.args.self.at) c.in-Ok-Statement.field-0-is c.in-Ok-Statement.ensures.stands) c.past.result c.past.ensures

pub returns-in-Ok-End-clause-ends : goal.returns-in-Ok-End-clause-ends
returns-in-Ok-End-clause-ends c =
    (subst (StandsAt c.args.mmb.now c.args.self.rows c.args.self.at) c.in-Ok-End.field-0-is c.in-Ok-End.ensures.stands).0

pub unreachable-requires : goal.unreachable-requires
unreachable-requires c =
    all_hold-excludes (head_checks c.args.mmb.now c.args.self.rows c.args.self.at) c.in-Err.field-0 c.requires.good c.in-Err.ensures.judged
