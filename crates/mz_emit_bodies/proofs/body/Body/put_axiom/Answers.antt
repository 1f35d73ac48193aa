use Rattle.std.proofs.Common.{length, sym, subst}
use Rattle.std.proofs.lemmas.Result.{on_ok_weaker}
use Rattle.mz_emit_bodies.specs.Going.{IsAfter}
use Rattle.mz_emit_bodies.specs.Stages.{with_hyps}
use Rattle.mz_emit_bodies.proofs.body.Body.put_axiom.Goals as goal

pub put_hyps-requires-clause-can : goal.put_hyps-requires-clause-can
put_hyps-requires-clause-can c = (c.requires.can.0, c.requires.can.1.0)

pub put_expr-requires-clause-before : goal.put_expr-requires-clause-before
put_expr-requires-clause-before c = subst IsAfter (sym c.in_ok-put_hyps.ensures.same) c.requires.before

pub put_expr-requires-clause-can : goal.put_expr-requires-clause-can
put_expr-requires-clause-can c =
    let o = c.requires.can.0 in
    let is = c.args.hyps.now in
    (with_hyps o (length is) is, (c.in_ok-put_hyps.ensures.does o c.requires.can.1.0, c.requires.can.1.1, c.requires.can.1.2))

pub returns-clause-does : goal.returns-clause-does
returns-clause-does c = on_ok_weaker c.put_expr.result (λ does o can. let is = c.args.hyps.now in does (with_hyps o (length is) is) (c.in_ok-put_hyps.ensures.does o can.0, can.1, can.2)) c.put_expr.ensures.does
