use Rattle.std.proofs.Common.{List, take}
use Rattle.mz_logic_theory.specs.Signature.{Signature}
use Rattle.mz_store.specs.Sharing.{IsOver}
use Rattle.mz_unify.specs.Stored.{trees_at}
use Rattle.mz_unify.specs.Rows.{TellsAny}
use Rattle.mz_unify.proofs.rows.variables.Given as goal

-- the word names the variables of those before
abbrev pub invariant-loop-id : goal.invariant-loop-id
invariant-loop-id l = (sigs : List Signature) → IsOver sigs l.store → TellsAny l.store.context l.word (trees_at l.store (take l.id-index l.ids))
