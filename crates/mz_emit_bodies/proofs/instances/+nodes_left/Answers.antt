use Rattle.std.proofs.Common.{rules}
use Rattle.mz_emit_bodies.proofs.instances.+nodes_left.Goals as goal

pub nodes_left-nodes_left_by_all-requires : goal.nodes_left-nodes_left_by_all-requires
nodes_left-nodes_left_by_all-requires t c = search (rules, c.in-App.ensures)

pub nodes_left_by_all-nodes_left-left-requires : goal.nodes_left_by_all-nodes_left-left-requires
nodes_left_by_all-nodes_left-left-requires t c = search (rules, c.at.ensures.within)
