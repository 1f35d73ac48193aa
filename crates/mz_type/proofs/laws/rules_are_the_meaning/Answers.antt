use Rattle.mz_mmu_theory.proofs.Offered.{rules_are_the_meaning, stated_is_legal}
use Rattle.mz_type.proofs.laws.rules_are_the_meaning.Goals as goal

pub returns : goal.returns
returns c = record { both_ways = rules_are_the_meaning; legal = stated_is_legal }
