use Rattle.std.proofs.Common.{◌∙◌, sym, subst}
use Rattle.std.specs.List.{dedup}
use Rattle.std.proofs.Math.Dec.{eqb}
use Rattle.std.proofs.lemmas.List.Filters.{dedup_is}
use Rattle.std.proofs.lemmas.List.Kept.{Contains-dedup_nat, Contains-from_dedup}
use Rattle.std.proofs.lemmas.List.Sorted.{IsPermutation-sym, Contains-permutation}
use Rattle.std.proofs.lemmas.Map.Keys.{IsStrictlyIncreasing-dedup}
use Rattle.std.proofs.lemmas.Result.{IfOk-weaker}
use Rattle.mz_mmu_theory.specs.Expressions.{IsAscending}
use Rattle.mz_mmu_forms.proofs.binders.ascending.Goals as goal

pub returns : goal.returns
returns c =
    let old = c.args.places.items in
    let sorted = c.sort_unstable.new.self.items in
    let is = dedup_is eqb sorted c.dedup.new.self.items c.dedup.ensures.filtered in
    let all : IsAscending old (dedup eqb sorted) = (
      IsStrictlyIncreasing-dedup sorted c.sort_unstable.ensures.sorted,
      λ x. (
        λ h. Contains-permutation sorted old x (IsPermutation-sym old sorted c.sort_unstable.ensures.permutation) (Contains-from_dedup eqb sorted x h),
        λ h. Contains-dedup_nat sorted x (Contains-permutation old sorted x c.sort_unstable.ensures.permutation h),
      ),
    ) in
    IfOk-weaker c.from_vec.result _ _ (λ deps same. subst (IsAscending old) (sym (same ∙ is)) all) c.from_vec.ensures
