use Rattle.std.proofs.Common.{◌≡◌, ℕ}
use Rattle.mz_math_coercions.specs.Groups.{GoDown, IsNamed, up_of}
use Rattle.mz_math_coercions.proofs.groups.top_of.Given as goal

abbrev pub invariant-up : goal.invariant-up
invariant-up l = record {
  down : GoDown l.ups.items;
  is : l.up ≡ up_of l.ups.items l.at;
  named : (name : ℕ → ℕ) → IsNamed l.initial.ups.items name → IsNamed l.ups.items name × (name l.sort ≡ name l.at);
}

abbrev pub decreases-up : goal.decreases-up
decreases-up l = l.at
