-- Where the parts of a node are read one after another.
use Rattle.std.proofs.Common.{◌≡◌, Result, Ok, Err, sym, subst}
use Rattle.std.specs.Prelude.{IfErr}
use Rattle.std.specs.Result.{IsErrAnd}
use Rattle.mz_base.specs.Checks.{Checks, ◌>>◌, AllHold}
use Rattle.mz_base.proofs.Offered.{fails-before, fails-after, Decides}
use Rattle.mz_mmu_theory.specs.declared.fault.Fault.{Fault}
use Rattle.mz_mmu_theory.specs.declared.fault.Stop.{Stop}
use Rattle.mz_mmu_theory.specs.declared.fault.Stop.TheVariants.{Refused, Mem}
use Rattle.mz_mmu_theory.specs.Stops.{Stops}

pub stops_before : (s : Stop) (bs cs : Checks Fault) → Stops s bs → Stops s (bs >> cs)
stops_before (Refused f) bs cs h = fails-before bs cs f h
stops_before Mem bs cs h = tt

pub stops_after : (s : Stop) (bs cs : Checks Fault) → AllHold bs → Stops s cs → Stops s (bs >> cs)
stops_after (Refused f) bs cs a h = fails-after bs cs f a h
stops_after Mem bs cs a h = tt

pub stops_whole : (s : Stop) (left whole : Checks Fault) → Decides left whole → Stops s left → Stops s whole
stops_whole (Refused f) left whole d h = d.fails f h
stops_whole Mem left whole d h = tt

-- what `?` hands on is what it met
pub failed : {A : Type 0} (r : Result A Stop) (s : Stop) (P : Stop → Type 0) → IsErrAnd r (λ e. e ≡ s) → P s → IfErr r P
failed (Ok a) s P h p = tt
failed (Err e) s P h p = subst P (sym h) p
