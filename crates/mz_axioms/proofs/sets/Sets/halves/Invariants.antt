use Rattle.std.proofs.Common.{◌≡◌, map, take}
use Rattle.mz_axioms.specs.Members.{left_of, right_of}
use Rattle.mz_axioms.proofs.sets.Sets.halves.Given as goal

abbrev pub invariant-ids : goal.invariant-ids
invariant-ids l = record {
  lefts : l.lefts.items ≡ map (left_of l.self.nodes.items) (take l.id-index l.ids);
  rights : l.rights.items ≡ map (right_of l.self.nodes.items) (take l.id-index l.ids);
}
