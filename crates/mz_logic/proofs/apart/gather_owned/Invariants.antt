use Rattle.mz_logic_free.specs.Own.{HaveOwners}
use Rattle.mz_logic.proofs.Owning.{AreBelow}
use Rattle.mz_logic.proofs.apart.gather_owned.Given as goal

abbrev pub invariant-loop-j : goal.invariant-loop-j
invariant-loop-j l = AreBelow l.params l.es l.owned l.j × HaveOwners l.params l.es l.owned l.owners.items
