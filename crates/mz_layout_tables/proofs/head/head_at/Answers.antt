use Rattle.mz_layout_tables.proofs.HeadPlaces.{next-head, stands-here}
use Rattle.mz_layout_tables.proofs.head.head_at.Goals as goal

pub returns-in_ok-check_row-in-Ok-Head-clause-stands : goal.returns-in_ok-check_row-in-Ok-Head-clause-stands
returns-in_ok-check_row-in-Ok-Head-clause-stands c =
    next-head c.args.mmb.now c.args.rows c.args.at c.in-Ok-Head.kind c.in-Ok-Head.body c.in-Ok-Head.next c.in-Ok.code
    (stands-here _ _ _ _ _ c.file.ensures.file c.in-Ok-Head.ensures.computed c.in-Ok-Head.field-0-is) c.in-Ok.ensures
    c.in_ok-check_row-in-Ok-Head.ensures.judged c.in_ok-check_row-in-Ok-Head.ensures.fits
