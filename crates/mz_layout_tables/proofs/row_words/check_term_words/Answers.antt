use Rattle.std.proofs.Common.{◌≡◌, ◌+◌, ◌*◌, ◌∙◌, length, refl, sym, ap, subst, inl, arith}
use Rattle.std.proofs.lemmas.Bool.{false≢true}
use Rattle.std.proofs.lemmas.Result.{err_from_is_err_and}
use Rattle.mz_base.specs.Checks.{FailsFirst, demand}
use Rattle.mz_base.proofs.Offered.{all_hold-both, fails-after, fails-before}
use Rattle.mz_cmd.specs.declared.rule.K.TheVariants.{Result}
use Rattle.mz_layout_tables.specs.Tables.{term_row}
use Rattle.mz_layout_tables.proofs.TableLists.{length-term_words}
use Rattle.mz_layout_tables.specs.RowWords.{first_sorts, param_checks, word_checks, IsResultWord}
use Rattle.mz_layout_tables.proofs.row_words.check_term_words.Goals as goal

pub returns-in_err-bound : goal.returns-in_err-bound
returns-in_err-bound c =
    let row = term_row c.args.mmb.now c.args.term in
    let ss = first_sorts c.args.mmb.now c.args.sorts in
    let p = err_from_is_err_and c.from_residual.result c.from_residual.ensures.1 in
    rw (p.1, p.2) (fails-before (param_checks ss row.words_at row.words.params) (demand (row.words_at + 8 * length row.words.params, Result) (IsResultWord ss row)) _ c.in_err-bound.ensures.judged)

pub arity-requires : goal.arity-requires
arity-requires c = omega (arith, c.requires.row, length-term_words c.args.mmb.now)

pub returns-then-is_result : goal.returns-then-is_result
returns-then-is_result c =
    let row = term_row c.args.mmb.now c.args.term in
    let ss = first_sorts c.args.mmb.now c.args.sorts in
    all_hold-both (param_checks ss row.words_at row.words.params) (demand (row.words_at + 8 * length row.words.params, Result) (IsResultWord ss row))
    c.in_ok-bound.ensures.judged (c.if-is_result.ensures.0 refl, tt)

pub returns-else-is_result : goal.returns-else-is_result
returns-else-is_result c =
    let row = term_row c.args.mmb.now c.args.term in
    let ss = first_sorts c.args.mmb.now c.args.sorts in
    let place : c.term_word_at.result ≡ row.words_at + 8 * length row.words.params = c.term_word_at.ensures ∙ ap (λ n. row.words_at + 8 * n) c.arity.ensures.row in
    subst (λ at. FailsFirst (word_checks ss row) (at, Result)) (sym place)
    (fails-after (param_checks ss row.words_at row.words.params) (demand (row.words_at + 8 * length row.words.params, Result) (IsResultWord ss row)) (row.words_at + 8 * length row.words.params, Result)
    c.in_ok-bound.ensures.judged (inl (λ h. false≢true (c.if-is_result.ensures.1 h), refl)))
