-- The checks of a row hold exactly where its words are right.
use Rattle.std.proofs.Common.{◌+◌, ◌*◌, ℕ, List, length}
use Rattle.mz_base.specs.Checks.{Checks, AllHold, demand}
use Rattle.mz_base.proofs.Offered.{all_hold-both, all_hold-first, all_hold-rest, all_hold-rows}
use Rattle.mz_cmd.specs.declared.rule.K.{K}
use Rattle.mz_cmd.specs.declared.rule.K.TheVariants as rules
use Rattle.mz_logic_theory.specs.declared.binder.SortMods.{SortMods}
use Rattle.mz_logic_theory.specs.declared.word.Word.{Word}
use Rattle.mz_layout_tables.specs.Tables.{TermRow}
use Rattle.mz_layout_tables.proofs.LayoutHolds.{rows-hold}
use Rattle.mz_layout_tables.specs.RowWords.{AreParamWords, IsResultWord, param_check, param_checks, word_checks}

-- ---- of parameters

pub params-hold : (ss : List SortMods) (at : ℕ) (ws : List Word) → AreParamWords ss ws → AllHold (param_checks ss at ws)
params-hold ss at ws right = rows-hold (param_check ss at ws) (length ws) (λ i below. (right i below, tt))

pub params-right : (ss : List SortMods) (at : ℕ) (ws : List Word) → AllHold (param_checks ss at ws) → AreParamWords ss ws
params-right ss at ws all i below = (all_hold-rows (param_check ss at ws) (length ws) i all below).0

-- ---- of a term's row

module _ (ss : List SortMods) (row : TermRow) where
  abbrev of_result : Checks (ℕ × K)
  of_result = demand (row.words_at + 8 * length row.words.params, rules.Result) (IsResultWord ss row)

  pub words-hold : AreParamWords ss row.words.params → IsResultWord ss row → AllHold (word_checks ss row)
  words-hold right result = all_hold-both (param_checks ss row.words_at row.words.params) of_result (params-hold ss row.words_at row.words.params right) (result, tt)

  module _ (all : AllHold (word_checks ss row)) where
    pub term-params-right : AreParamWords ss row.words.params
    term-params-right = params-right ss row.words_at row.words.params (all_hold-first (param_checks ss row.words_at row.words.params) of_result all)

    pub result-right : IsResultWord ss row
    result-right = (all_hold-rest (param_checks ss row.words_at row.words.params) of_result all).0
