use Rattle.std.proofs.Common.{◌≡◌, ◌++◌, drop}
use Rattle.mz_decompile_text.specs.Growing.{chosen}
use Rattle.mz_decompile_text.proofs.parts.put_told.Given as goal

-- what is appended so far, with what the nodes that are left give, is the whole
abbrev pub invariant-nodes : goal.invariant-nodes
invariant-nodes l = l.parts.items ++ chosen l.told (drop l.node-index l.nodes) ≡ l.initial.parts.items ++ chosen l.told l.nodes
