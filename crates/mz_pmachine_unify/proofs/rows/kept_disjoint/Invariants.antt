use Rattle.std.proofs.Common.{List, map, take}
use Rattle.mz_logic_theory.specs.Signature.{Signature}
use Rattle.mz_pmachine_theory.specs.NodeIdentity.{tree_of}
use Rattle.mz_pmachine_unify.specs.Numbering.{IsOver}
use Rattle.mz_pmachine_unify.specs.Stored.{exprs_at}
use Rattle.mz_unify.specs.Rows.{TellsAny}
use Rattle.mz_pmachine_unify.proofs.rows.kept_disjoint.Given as goal

-- the word names the variables of those before
abbrev pub invariant-loop-id : goal.invariant-loop-id
invariant-loop-id l = (sigs : List Signature) → IsOver sigs l.nodes → TellsAny l.nodes.context l.word (map tree_of (exprs_at l.nodes (take l.id-index l.ids)))
