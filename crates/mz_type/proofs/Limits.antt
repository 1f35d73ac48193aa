-- The limits are decided, and one passes first.
use Rattle.std.proofs.Common.{ℕ, List, [], ◌∷◌}
use Rattle.mz_base.specs.Checks.{AreDecided}
use Rattle.mz_base.proofs.Offered.{fails_first-unique, all_hold-excludes, all_hold-or_fails, are_decided-both, at_most-decided}
use Rattle.mz_mmu_theory.specs.Statements.{Statement}
use Rattle.mz_mmu_theory.specs.Weight.{Limit, parameter_limit, bound_limit, sort_count, parameter_count, bound_count, byte_bound, each_within, limit_checks}
use Rattle.mz_mmu_theory.specs.TypeLaws.{EachIsLimited}

each-decided : (l : Limit) (amount : Statement → ℕ) (most : ℕ) (ss : List Statement) → AreDecided (each_within l amount most ss)
each-decided l amount most [] = tt
each-decided l amount most (s ∷ ss) = (at_most-decided (amount s) most, λ _. each-decided l amount most ss)

limits-decided : (ss : List Statement) → AreDecided (limit_checks ss)
limits-decided ss = (
  at_most-decided (sort_count ss) 128,
  λ _. are_decided-both (each_within parameter_limit parameter_count 65535 ss) _ (each-decided parameter_limit parameter_count 65535 ss)
      (λ _. are_decided-both (each_within bound_limit bound_count 55 ss) _ (each-decided bound_limit bound_count 55 ss)
      (λ _. (at_most-decided (byte_bound ss) 4294967295, λ _. tt))),
)

pub each_is_limited : EachIsLimited
each_is_limited ss = record {
  one_of_both = all_hold-or_fails (limit_checks ss) (limits-decided ss);
  never_both = λ p all fails. all_hold-excludes (limit_checks ss) p all fails;
  one_passes = λ p q f g. fails_first-unique (limit_checks ss) p q f g;
}
