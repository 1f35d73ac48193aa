use Rattle.std.proofs.Common.{◌∙◌, Some, ap, arith, sym}
use Rattle.std.proofs.lemmas.Option.{slice_get_within, slice_get-get_or}
use Rattle.mz_lex.proofs.Placing.{found-beyond, noted-more}
use Rattle.mz_lex.proofs.variables.note_first.Goals as goal

pub returns-then-names-gt-FEW-clause-ok : goal.returns-then-names-gt-FEW-clause-ok
returns-then-names-gt-FEW-clause-ok c = λ is. found-beyond 8 c.args.places.now c.args.names.now 0 (λ any. let many = c.if-names-gt-FEW.true in omega (arith, many)) is

pub names-preserved : goal.names-preserved
names-preserved c = noted-more c.names.places c.insert.new.self c.args.names.now c.as_slice.result.now c.names.i
    (slice_get-get_or c.args.names.now c.names.i c.index-names-i.result (let below = c.names-test.true in omega (arith, below)) ∙ ap Some (sym c.index-names-i.is ∙ sym c.as_slice.ensures))
    c.names.invariant c.in_ok-insert.ensures.ok

pub returns-clause-ok : goal.returns-clause-ok
returns-clause-ok c = λ is i w at some.
    let here = (is i w at some).0 in
    (here, λ any. c.names.invariant i w (let past = c.names-test.false in let within = slice_get_within c.args.names.now i w at in omega (arith, past, within)) at here)
