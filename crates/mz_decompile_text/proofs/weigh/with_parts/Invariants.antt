use Rattle.std.proofs.Common.{◌≡◌, ◌<◌, ◌+◌, ◌^◌, drop}
use Rattle.mz_decompile_text.specs.Measures.{capped}
use Rattle.mz_decompile_text.specs.Telling.{weights_at}
use Rattle.mz_decompile_text.proofs.weigh.with_parts.Given as goal

-- what is summed so far, with the nodes that are left, is the whole
abbrev pub invariant-nodes : goal.invariant-nodes
invariant-nodes l = (capped (l.weight + weights_at l.weights (drop l.node-index l.nodes)) ≡ capped (l.own + weights_at l.weights l.nodes)) × (l.weight < 2 ^ 128)
