-- Words of parameters that more than one row has.
use Rattle.std.proofs.Common.{◌≡◌, ◌∙◌, ℕ, List, length, sym, ap, subst}
use Rattle.std.proofs.lemmas.List.FromFn.{length-map-range_with_len}
use Rattle.mz_base.specs.Checks.{AllHold}
use Rattle.mz_logic_theory.specs.declared.word.Word.{Word}
use Rattle.mz_layout_tables.specs.RowWords.{first_sorts, param_checks}
use Rattle.mz_layout_tables.specs.Tables.{thm_row}
use Rattle.mz_machine_env.specs.OwnRow.{words_from}

module _ (file : List ℕ) (sorts thm at params : ℕ) (place : at ≡ (thm_row file thm).words_at) (many : params ≡ length (thm_row file thm).params) where
  words : (thm_row file thm).params ≡ words_from file at params
  words = ap (words_from file (thm_row file thm).words_at) (sym (length-map-range_with_len _ 0 _)) ∙ ap (λ (n : ℕ). words_from file n (length (thm_row file thm).params)) (sym place) ∙ ap (words_from file at) (sym many)

  -- what is right from a place on is right as the row's, and the other way round
  pub row-right : AllHold (param_checks (first_sorts file sorts) at (words_from file at params)) → AllHold (param_checks (first_sorts file sorts) (thm_row file thm).words_at (thm_row file thm).params)
  row-right all =
      subst (λ (ws : List Word). AllHold (param_checks (first_sorts file sorts) (thm_row file thm).words_at ws)) (sym words)
      (subst (λ (n : ℕ). AllHold (param_checks (first_sorts file sorts) n (words_from file at params))) place all)

  pub right-from : AllHold (param_checks (first_sorts file sorts) (thm_row file thm).words_at (thm_row file thm).params) → AllHold (param_checks (first_sorts file sorts) at (words_from file at params))
  right-from all =
      subst (λ (ws : List Word). AllHold (param_checks (first_sorts file sorts) at ws)) words
      (subst (λ (n : ℕ). AllHold (param_checks (first_sorts file sorts) n (thm_row file thm).params)) (sym place) all)
