use Rattle.std.proofs.Common.{◌∙◌, ℕ, refl, subst}
use Rattle.mz_base.specs.Checks.{AllHold}
use Rattle.mz_layout_tables.specs.Tables.{thm_row}
use Rattle.mz_layout_tables.specs.RowWords.{first_sorts, param_checks}
use Rattle.mz_binary.specs.Remembering.{AreRight}
use Rattle.mz_binary.proofs.SharedWords.{row-right, right-from}
use Rattle.mz_binary.proofs.words.check_words_once.Goals as goal

pub returns-then-are-clause-judged : goal.returns-then-are-clause-judged
returns-then-are-clause-judged c =
    let file = c.args.mmb.now in
    let row = thm_row file c.args.thm in
    let right = c.in-Some.right in
    let same = c.if-are.ensures refl in
    subst (λ (sorts : ℕ). AllHold (param_checks (first_sorts file sorts) row.words_at row.params)) same.0
    (row-right file right.sorts c.args.thm right.at right.params (same.1 ∙ c.thm_words_at-at.ensures) (same.2 ∙ c.thm_arity-params.ensures) (subst (AreRight file) c.in-Some.is c.requires.right))

pub returns-clause-right : goal.returns-clause-right
returns-clause-right c =
    right-from c.args.mmb.now c.args.sorts c.args.thm c.thm_words_at-at.result c.thm_arity-params.result c.thm_words_at-at.ensures c.thm_arity-params.ensures c.in_ok-check_thm_words.ensures
