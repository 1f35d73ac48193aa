use Rattle.std.proofs.Common.{◌≡◌, ◌++◌, take}
use Rattle.mz_axioms.specs.Gaps.{gap_lines}
use Rattle.mz_axioms.proofs.gaps.put_gaps.Given as goal

abbrev pub invariant-places : goal.invariant-places
invariant-places l = record { so_far : l.text.items ≡ l.initial.text.items ++ gap_lines l.spec.text.now l.spec.declared (take l.place-index l.places) }
