use Rattle.std.proofs.Common.{◌<◌, sym, ap, arith}
use Rattle.mz_layout_tables.specs.Tables.{term_row}
use Rattle.mz_machine.specs.OpenEquations.{many_of_term}
use Rattle.mz_machine_env.proofs.Offered.{binders_many, no-term-before, term-before}
use Rattle.mz_machine.proofs.lack.asked_by_term.Goals as goal

pub arity_of-requires : goal.arity_of-requires
arity_of-requires c = omega (arith, c.terms.ensures.rows, c.if-t-terms.true)

pub returns-then-t-terms : goal.returns-then-t-terms
returns-then-t-terms c =
    let below : c.args.t < c.args.env.now.rows.terms = omega (arith, c.terms.ensures.rows, c.if-t-terms.true) in
    omega (arith, c.arity_of.ensures, ap many_of_term (term-before c.args.env.now c.args.t below), binders_many (term_row c.args.env.now.file c.args.t).words.params)

pub returns-else-t-terms : goal.returns-else-t-terms
returns-else-t-terms c = sym (ap many_of_term (no-term-before c.args.env.now c.args.t (omega (arith, c.terms.ensures.rows, c.if-t-terms.false))))
