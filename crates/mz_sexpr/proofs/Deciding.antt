-- Checks in order.
use Rattle.mz_base.specs.Checks.{Checks, AllHold, FailsFirst, ◌>>◌}
use Rattle.mz_base.proofs.Offered.{all_hold-both, fails-after}

-- what is left decides the whole
abbrev pub Decides : {R : Type 0} → Checks R → Checks R → Type 0
Decides {R} bs cs = ((r : R) → FailsFirst bs r → FailsFirst cs r) × (AllHold bs → AllHold cs)

pub decides_after : {R : Type 0} (ds bs cs : Checks R) → AllHold ds → Decides (ds >> bs) cs → Decides bs cs
decides_after ds bs cs all (fails, holds) = (λ r h. fails r (fails-after ds bs r all h), λ h. holds (all_hold-both ds bs all h))
