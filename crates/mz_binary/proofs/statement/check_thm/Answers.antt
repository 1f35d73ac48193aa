use Rattle.std.proofs.lemmas.Result.{err_from_is_err_and}
use Rattle.mz_machine_env.specs.Before.{taken_before}
use Rattle.mz_binary.proofs.Finding.{sees-assertion, thm-stops}
use Rattle.mz_binary.proofs.statement.check_thm.Goals as goal

pub returns-in_err-check_words_once-clause-found : goal.returns-in_err-check_words_once-clause-found
returns-in_err-check_words_once-clause-found c =
    let file = c.args.mmb.now in
    let h = c.args.head in
    let p = err_from_is_err_and c.from_residual.result c.from_residual.ensures.1 in
    rw (p.1, p.2) (thm-stops file (taken_before file c.args.rows) h.at h.body h.next h.code c.requires.kind _ c.in_err-check_words_once.ensures.judged)

pub returns-clause-found : goal.returns-clause-found
returns-clause-found c = sees-assertion c.args.mmb.now c.args.rows c.args.head c.requires.kind c.in_ok-check_words_once.ensures.judged
