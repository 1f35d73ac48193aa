use Rattle.std.proofs.Common.{◌≡◌, ◌↔◌}
use Rattle.mz_type_rules.specs.Claims.{claim_tree, AllSame, turns}
use Rattle.mz_type_rules.proofs.claim.compare_all.Given as goal

abbrev pub invariant-comparing : goal.invariant-comparing
invariant-comparing l = AllSame l.waiting.items ↔ (claim_tree l.fn.a ≡ claim_tree l.fn.b)

abbrev pub decreases-comparing : goal.decreases-comparing
decreases-comparing l = turns l.waiting.items
