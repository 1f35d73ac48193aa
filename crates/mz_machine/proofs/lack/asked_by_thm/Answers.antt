use Rattle.std.proofs.Common.{◌<◌, sym, ap, arith}
use Rattle.mz_layout_tables.specs.Tables.{thm_row}
use Rattle.mz_machine.specs.OpenEquations.{many_of_thm}
use Rattle.mz_machine_env.proofs.Offered.{binders_many, no-thm-before, thm-before}
use Rattle.mz_machine.proofs.lack.asked_by_thm.Goals as goal

pub arity_of-requires : goal.arity_of-requires
arity_of-requires c = omega (arith, c.thms.ensures.rows, c.if-t-thms.true)

pub returns-then-t-thms : goal.returns-then-t-thms
returns-then-t-thms c =
    let below : c.args.t < c.args.env.now.rows.thms = omega (arith, c.thms.ensures.rows, c.if-t-thms.true) in
    omega (arith, c.arity_of.ensures, ap many_of_thm (thm-before c.args.env.now c.args.t below), binders_many (thm_row c.args.env.now.file c.args.t).params)

pub returns-else-t-thms : goal.returns-else-t-thms
returns-else-t-thms c = sym (ap many_of_thm (no-thm-before c.args.env.now c.args.t (omega (arith, c.thms.ensures.rows, c.if-t-thms.false))))
