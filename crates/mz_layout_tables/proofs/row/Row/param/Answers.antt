use Rattle.std.proofs.Common.{◌<◌, ap, subst, length, arith}
use Rattle.mz_logic_theory.specs.Words.{TermWords}
use Rattle.mz_layout_tables.specs.Rows.{IsRow, params_of}
use Rattle.mz_layout_tables.specs.declared.row.Row.{Row}
use Rattle.mz_layout_tables.proofs.TableLists.{length-term_words, term_at-words}
use Rattle.mz_layout_tables.proofs.row.Row.param.Goals as goal

pub param-requires-clause-term : goal.param-requires-clause-term
param-requires-clause-term c =
    let there = subst (IsRow c.args.mmb.now) c.in-Term.is c.requires.row in
    omega (arith, there, length-term_words c.args.mmb.now)

pub param-requires-clause-place : goal.param-requires-clause-place
param-requires-clause-place c =
    let there = subst (IsRow c.args.mmb.now) c.in-Term.is c.requires.row in
    let within = subst (λ (r : Row). c.args.place < length (params_of c.args.mmb.now r)) c.in-Term.is c.requires.place in
    let words = ap (λ (w : TermWords). length w.params) (term_at-words c.args.mmb.now c.in-Term.term (omega (arith, there, length-term_words c.args.mmb.now))) in
    omega (arith, within, words)
