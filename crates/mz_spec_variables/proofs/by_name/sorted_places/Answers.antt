use Rattle.std.proofs.Common.{◌∙◌, map, subst}
use Rattle.std.specs.List.Sorted.{IsPermutation}
use Rattle.std.proofs.lemmas.List.Filters.{dedup_is}
use Rattle.std.proofs.lemmas.Result.{IfOk-weaker}
use Rattle.mz_spec_theory.specs.StatementCode.{lexeme}
use Rattle.mz_spec_variables.proofs.Indexed.{sorted-places}
use Rattle.mz_spec_variables.proofs.by_name.sorted_places.Goals as goal

pub returns : goal.returns
returns c = IfOk-weaker c.from_vec.result _ _
    (λ deps same vs index.
    sorted-places vs c.args.places.now index (map lexeme c.args.deps.now) c.sort.new.self.items _
    (subst (λ xs. IsPermutation xs c.sort.new.self.items) c.in_ok-found.ensures c.sort.ensures.permutation) c.in_ok-sort.ensures.sorted
    (same ∙ dedup_is _ c.sort.new.self.items c.dedup.new.self.items c.dedup.ensures.filtered))
    c.from_vec.ensures
