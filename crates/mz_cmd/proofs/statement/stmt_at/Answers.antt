use Rattle.std.proofs.Common.{Ok, sym, ◌∙◌, subst, arith, length-drop}
use Rattle.mz_cmd.proofs.ListLaws.{Reads, listed-judged, listed-stands, stands-listed}
use Rattle.mz_cmd.proofs.statement.stmt_at.Goals as goal

pub listed-requires-clause-room : goal.listed-requires-clause-room
listed-requires-clause-room c =
    let begins = (c.cmd_at.ensures.stands c.in-Ok.cmd).0 c.in-Ok.is in
    omega (arith, begins.whole, length-drop c.args.pos c.args.bytes.now, c.if-pos-bytes.false)

pub returns-in-Ok-clause-stands : goal.returns-in-Ok-clause-stands
returns-in-Ok-clause-stands c s =
    let reads : Reads c.args.bytes.now c.args.pos (Ok c.in-Ok.cmd) = subst (Reads c.args.bytes.now c.args.pos) c.in-Ok.is c.cmd_at.ensures.stands in (
      λ is. listed-stands c.args.bytes.now c.args.pos (Ok c.in-Ok.cmd) reads s (sym c.listed.ensures ∙ is),
      λ listed. c.listed.ensures ∙ stands-listed c.args.bytes.now c.args.pos (Ok c.in-Ok.cmd) reads s listed,
    )

pub returns-in-Ok-clause-fault : goal.returns-in-Ok-clause-fault
returns-in-Ok-clause-fault c =
    let reads : Reads c.args.bytes.now c.args.pos (Ok c.in-Ok.cmd) = subst (Reads c.args.bytes.now c.args.pos) c.in-Ok.is c.cmd_at.ensures.stands in
    rw c.listed.ensures (listed-judged c.args.bytes.now c.args.pos (Ok c.in-Ok.cmd) reads)
