use Rattle.std.proofs.Common.{arith, sym, subst}
use Rattle.std.proofs.lemmas.Result.{on_err_weaker, on_ok_weaker}
use Rattle.mz_lex.specs.Names.{AreFoundBeyond}
use Rattle.mz_lex.proofs.Placing.{found-beyond, found-few, found-more, found-short, on-err}
use Rattle.mz_lex.proofs.variables.note.Goals as goal

pub returns-then-names-lt-FEW-clause-ok : goal.returns-then-names-lt-FEW-clause-ok
returns-then-names-lt-FEW-clause-ok c = λ new is.
    let ps = c.args.places.now in
    found-short ps ps c.args.names.now c.args.name.now new 8 (let short = c.if-names-lt-FEW.true in omega (arith, short)) is

pub returns-in_err-note_first-clause-err : goal.returns-in_err-note_first-clause-err
returns-in_err-note_first-clause-err c = on-err c.from_residual.result (found-few 8 c.args.places.now c.args.names.now c.note_first.new.places c.in_err-note_first.ensures.err)

pub returns-clause-ok : goal.returns-clause-ok
returns-clause-ok c = on_ok_weaker c.insert.result
    (λ more new is. found-more c.note_first.new.places c.insert.new.self c.args.names.now c.args.name.now new 8 (c.in_ok-note_first.ensures.ok is) more) c.insert.ensures.ok

pub returns-clause-err : goal.returns-clause-err
returns-clause-err c =
    let names = c.args.names.now in
    let ps = c.note_first.new.places in
    on_err_weaker c.insert.result
    (λ same is. subst (λ qs. AreFoundBeyond 8 qs names) (sym same) (found-beyond 0 ps names 8 (λ many. omega (arith, many)) (c.in_ok-note_first.ensures.ok is))) c.insert.ensures.err
