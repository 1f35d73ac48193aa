use Rattle.std.proofs.Common.{arith}
use Rattle.mz_mmu.proofs.TextSteps.{few_nodes}
use Rattle.mz_mmu.proofs.text.read_text.Goals as goal

pub read_entries-requires : goal.read_entries-requires
read_entries-requires c = let few = few_nodes c.args.text.now c.in-Nodes.nodes c.in-Nodes.ensures in omega (arith, few, c.requires)
