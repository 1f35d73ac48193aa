use Rattle.std.proofs.Common.{sym, arith}
use Rattle.std.proofs.lemmas.Result.{err_from_is_err_and}
use Rattle.mz_layout_tables.proofs.Offered.{length-term_words}
use Rattle.mz_machine_env.specs.Before.{taken_before}
use Rattle.mz_binary.proofs.Finding.{sees-definition, sees-empty, is-of, term-plain, term-stops}
use Rattle.mz_binary.proofs.statement.check_term.Goals as goal

pub returns-in_err-check_term_words-clause-found : goal.returns-in_err-check_term_words-clause-found
returns-in_err-check_term_words-clause-found c =
    let file = c.args.mmb.now in
    let h = c.args.head in
    let p = err_from_is_err_and c.from_residual.result c.from_residual.ensures.1 in
    rw (p.1, p.2) (term-stops file (taken_before file c.args.rows) h.at h.body h.next h.code c.requires.kind _ c.in_err-check_term_words.ensures)

pub returns-then-has_body-clause-found : goal.returns-then-has_body-clause-found
returns-then-has_body-clause-found c =
    sees-definition c.args.mmb.now c.args.rows c.args.head c.requires.kind c.in_ok-check_term_words.ensures (sym c.if-has_body.ensures.row)

pub returns-clause-found : goal.returns-clause-found
returns-clause-found c =
    let file = c.args.mmb.now in
    let h = c.args.head in
    sees-empty file c.args.rows h (term-plain file (taken_before file c.args.rows) h.at h.body h.next h.code c.requires.kind c.in_ok-check_term_words.ensures (sym c.if-has_body.ensures.row))
    c.check_empty.result c.check_empty.ensures.judged c.check_empty.ensures.alone

pub returns-clause-head : goal.returns-clause-head
returns-clause-head c = is-of c.args.mmb.now c.args.rows c.args.head c.check_empty.result c.check_empty.ensures.alone

pub has_body-requires : goal.has_body-requires
has_body-requires c = omega (arith, c.requires.row, length-term_words c.args.mmb.now)
