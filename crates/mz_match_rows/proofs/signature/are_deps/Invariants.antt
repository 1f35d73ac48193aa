use Rattle.std.proofs.Common.{◌≡◌, ◌≤◌, length}
use Rattle.mz_logic_theory.specs.Words.{places_set}
use Rattle.mz_match_theory.proofs.Offered.{AreLeft}
use Rattle.mz_match_rows.proofs.signature.are_deps.Given as goal

abbrev pub invariant-loop-place : goal.invariant-loop-place
invariant-loop-place l = record {
  within : l.found ≤ length l.deps;
  left : AreLeft l.deps l.places (l.deps ≡ places_set l.initial.bits l.places) l.place-index l.found l.bits;
}
