-- The words of parameters, one after another.
use Rattle.std.proofs.Common.{◌≡◌, ◌<◌, ◌≤◌, ◌+◌, ◌*◌, ◌^◌, ◌∙◌, ℕ, true, false, cond, List, length, take, slice_get, Some, refl, sym, ap, subst, inl, arith}
use Rattle.std.specs.Prelude.{MatchBool}
use Rattle.std.proofs.lemmas.Option.{slice_get_within, get_or_from_slice_get}
use Rattle.std.proofs.lemmas.List.Filters.{length-filter_more}
use Rattle.mz_base.specs.Checks.{FailsFirst}
use Rattle.mz_base.proofs.Offered.{Decides, rows_from, row-passed, row-fails}
use Rattle.mz_cmd.specs.declared.rule.K.TheVariants.{Binder}
use Rattle.mz_logic_theory.specs.Modifiers.{MayBeBoundSort}
use Rattle.mz_logic_theory.specs.Words.{word_bound, word_sort, word_deps}
use Rattle.mz_logic_theory.specs.declared.binder.SortMods.{SortMods}
use Rattle.mz_logic_theory.specs.declared.word.Word.{Word}
use Rattle.mz_layout_tables.specs.RowWords.{bound_count, IsParamWord, IsParamAt, param_check, param_checks}

-- ---- one word

module _ (ss : List SortMods) (k : ℕ) (w : Word) where
  abbrev pub AsBound : Type 0
  AsBound = MayBeBoundSort ss (word_sort w) × (k ≤ 54) × (word_deps w ≡ 2 ^ k)

  abbrev pub AsRegular : Type 0
  AsRegular = word_deps w < 2 ^ k

  pub regular-to : word_bound w ≡ false → word_sort w < length ss → AsRegular → IsParamWord ss k w
  regular-to reg there bits = (there, subst (λ b. MatchBool b AsBound AsRegular) (sym reg) bits)

  pub regular-from : word_bound w ≡ false → IsParamWord ss k w → AsRegular
  regular-from reg h = subst (λ b. MatchBool b AsBound AsRegular) reg h.1

  pub bound-from : word_bound w ≡ true → IsParamWord ss k w → AsBound
  bound-from bd h = subst (λ b. MatchBool b AsBound AsRegular) bd h.1

-- ---- one word more

-- so many are bound among the first i words, and the next word is w
module _ (ws : List Word) (i k : ℕ) (w : Word) (here : slice_get ws i ≡ Some w) (counts : k ≡ bound_count (take i ws)) where
  pub one-more : bound_count (take (i + 1) ws) ≡ k + cond (word_bound w) 1 0
  one-more =
      let is = get_or_from_slice_get ws i w w here in
      length-filter_more word_bound ws i w (slice_get_within ws i w here) ∙ ap (λ x. bound_count (take i ws) + cond (word_bound x) 1 0) is
      ∙ ap (λ n. n + cond (word_bound w) 1 0) (sym counts)

  pub one-bound-more : word_bound w ≡ true → k + 1 ≡ bound_count (take (i + 1) ws)
  one-bound-more bd = sym (one-more ∙ ap (λ b. k + cond b 1 0) bd)

  pub none-bound-more : word_bound w ≡ false → k ≡ bound_count (take (i + 1) ws)
  none-bound-more reg = sym (one-more ∙ ap (λ b. k + cond b 1 0) reg ∙ (let e : k + 0 ≡ k = omega arith in e))

  module _ (ss : List SortMods) (at : ℕ) where
    pub param-at : IsParamWord ss k w → IsParamAt ss ws i
    param-at h = (w, here, subst (λ n. IsParamWord ss n w) counts h)

    pub param-from : IsParamAt ss ws i → IsParamWord ss k w
    param-from p =
        let same : p.0 ≡ w = some-is (sym p.1 ∙ here) in
        subst (λ n. IsParamWord ss n w) (sym counts) (subst (IsParamWord ss (bound_count (take i ws))) same p.2)
      where
        some-is : {x y : Word} → Some x ≡ Some y → x ≡ y
        some-is e = cc

    pub param-passes : IsParamWord ss k w → Decides (rows_from (param_check ss at ws) i (length ws)) (param_checks ss at ws)
        → Decides (rows_from (param_check ss at ws) (i + 1) (length ws)) (param_checks ss at ws)
    param-passes h d = row-passed (param_check ss at ws) i (length ws) (param_checks ss at ws) (slice_get_within ws i w here) (param-at h, tt) d

    pub param-fails : (IsParamWord ss k w → ⊥) → Decides (rows_from (param_check ss at ws) i (length ws)) (param_checks ss at ws)
        → FailsFirst (param_checks ss at ws) (at + 8 * i, Binder)
    param-fails out d =
        row-fails (param_check ss at ws) i (length ws) (param_checks ss at ws) (at + 8 * i, Binder) (slice_get_within ws i w here) (inl (λ p. out (param-from p), refl)) d
