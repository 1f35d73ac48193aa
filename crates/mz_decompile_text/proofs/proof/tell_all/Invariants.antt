use Rattle.std.proofs.Common.{drop}
use Rattle.mz_decompile_text.specs.Naming.{vocabulary_by}
use Rattle.mz_decompile_text.proofs.Progress.{IsSoFar}
use Rattle.mz_decompile_text.proofs.proof.tell_all.Given as goal

abbrev pub invariant-nodes : goal.invariant-nodes
invariant-nodes l = IsSoFar (vocabulary_by l.names) l.initial.phrases l.phrases l.nodes (drop l.node-index l.nodes) l.told
