use Rattle.std.proofs.Common.{◌≡◌}
use Rattle.mz_mmu_theory.specs.Cursor.{nodes_from, IsThere}
use Rattle.mz_mmu_theory.specs.Parts.{after}
use Rattle.mz_type_rules.proofs.cursor.Cursor.after.Given as goal

abbrev pub decreases-passing : goal.decreases-passing
decreases-passing l = l.left

abbrev pub invariant-passing : goal.invariant-passing
invariant-passing l = record {
  there : IsThere l.nodes l.first;
  passed : after l.left (nodes_from l.nodes l.first) ≡ after l.count l.self;
}
