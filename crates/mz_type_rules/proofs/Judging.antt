-- Answers of checks one after another.
use Rattle.std.proofs.Common.{◌≡◌, Result, Ok, Err, inr, sym, subst}
use Rattle.std.specs.Result.{IsErrAnd}
use Rattle.mz_base.specs.Checks.{Checks, ask, ◌>>◌, AllHold, FailsFirst, Judges}
use Rattle.mz_base.proofs.Offered.{fails-before, fails-after, all_hold-both, Decides, decides-after}
use Rattle.mz_mmu_theory.specs.Stops.{Stops}
use Rattle.mz_mmu_theory.specs.declared.fault.Fault.{Fault}
use Rattle.mz_mmu_theory.specs.declared.fault.Stop.{Stop}
use Rattle.mz_mmu_theory.specs.declared.fault.Stop.TheVariants.{Refused, Mem}
use Rattle.mz_logic_theory.specs.Tree.{Tree}
use Rattle.mz_type_rules.specs.Answers.{Judged, IsProved, told}
use Rattle.mz_type_rules.specs.declared.claim.Claim.{Claim}

module _ {R : Type 0} where
  -- a refusal that is handed on
  pub handed_on : {A : Type 0} (cs : Checks R) (r : Result A R) (e : R) → IsErrAnd r (λ x. x ≡ e) → FailsFirst cs e → Judges r cs
  handed_on cs (Ok a) e h f = absurd h
  handed_on cs (Err x) e h f = subst (FailsFirst cs) (sym h) f

  -- the same of the first checks
  pub handed_before : {A : Type 0} (bs cs : Checks R) (r : Result A R) (e : R) → IsErrAnd r (λ x. x ≡ e) → FailsFirst bs e → Judges r (bs >> cs)
  handed_before bs cs r e h f = handed_on (bs >> cs) r e h (fails-before bs cs e f)

  -- of those that come after others
  pub handed_after : {A : Type 0} (bs cs : Checks R) (r : Result A R) (e : R) → AllHold bs → IsErrAnd r (λ x. x ≡ e) → FailsFirst cs e → Judges r (bs >> cs)
  handed_after bs cs r e all h f = handed_on (bs >> cs) r e h (fails-after bs cs e all f)

  -- of those that are left in a loop
  pub handed_within : {A : Type 0} (left whole : Checks R) (r : Result A R) (e : R) → Decides left whole → IsErrAnd r (λ x. x ≡ e) → FailsFirst left e → Judges r whole
  handed_within left whole r e d h f = handed_on whole r e h (d.fails e f)

  -- one fact that holds, before the rest is judged
  pub judges_asked : {A : Type 0} (q : R) (P : Type 0) (cs : Checks R) (r : Result A R) → P → Judges r cs → Judges r (ask q P cs)
  judges_asked q P cs (Ok a) p j = (p, j)
  judges_asked q P cs (Err e) p j = inr (p, j)

  -- what is left in a loop: the next checks, and those behind them
  pub left_fails : (left own behind whole : Checks R) (r : R) → left ≡ (own >> behind) → Decides left whole → FailsFirst own r → FailsFirst whole r
  left_fails left own behind whole r cut d f = d.fails r (subst (λ cs. FailsFirst cs r) (sym cut) (fails-before own behind r f))

  pub left_step : (left own behind whole : Checks R) → left ≡ (own >> behind) → Decides left whole → AllHold own → Decides behind whole
  left_step left own behind whole cut d all = decides-after own behind whole all (subst (λ cs. Decides cs whole) cut d)

-- ---- where memory may be missing

module _ (bs cs : Checks Fault) (s : Stop) where
  pub stopped_before : Stops s bs → Stops s (bs >> cs)
  stopped_before h = go s h
    where
      go : (s : Stop) → Stops s bs → Stops s (bs >> cs)
      go (Refused f) h = fails-before bs cs f h
      go Mem h = tt

  pub stopped_after : AllHold bs → Stops s cs → Stops s (bs >> cs)
  stopped_after all h = go s h
    where
      go : (s : Stop) → Stops s cs → Stops s (bs >> cs)
      go (Refused f) h = fails-after bs cs f all h
      go Mem h = tt

pub stopped_asked : (q : Fault) (P : Type 0) (cs : Checks Fault) (s : Stop) → P → Stops s cs → Stops s (ask q P cs)
stopped_asked q P cs (Refused f) p h = inr (p, h)
stopped_asked q P cs Mem p h = tt

pub stopped_within : (left own behind whole : Checks Fault) (s : Stop) → left ≡ (own >> behind) → Decides left whole → Stops s own → Stops s whole
stopped_within left own behind whole (Refused f) cut d h = left_fails left own behind whole f cut d h
stopped_within left own behind whole Mem cut d h = tt

-- a stop that is handed on
pub stop_handed_on : {A : Type 0} (cs : Checks Fault) (r : Result A Stop) (s : Stop) → IsErrAnd r (λ x. x ≡ s) → Stops s cs → Judged r cs
stop_handed_on cs (Ok a) s h k = absurd h
stop_handed_on cs (Err x) s h k = subst (λ y. Stops y cs) (sym h) k

-- what is said of checks that take no memory
pub told_judged : (cs : Checks Fault) (r : Result (Unit {0}) Fault) (r' : Result (Unit {0}) Stop) → r' ≡ told r → Judges r cs → Judged r' cs
told_judged cs (Ok x) r' is j = subst (λ y. Judged y cs) (sym is) j
told_judged cs (Err f) r' is j = subst (λ y. Judged y cs) (sym is) j

pub told_stop : (cs : Checks Fault) (r : Result (Unit {0}) Fault) (r' : Result (Unit {0}) Stop) (s : Stop) → r' ≡ told r → r' ≡ Err s → Judges r cs → Stops s cs
told_stop cs r r' s is was j = subst (λ y. Judged y cs) was (told_judged cs r r' is j)

pub told_holds : (cs : Checks Fault) (r : Result (Unit {0}) Fault) (r' : Result (Unit {0}) Stop) (x : Unit {0}) → r' ≡ told r → r' ≡ Ok x → Judges r cs → AllHold cs
told_holds cs r r' x is was j = subst (λ y. Judged y cs) was (told_judged cs r r' is j)

pub judged_after : {A : Type 0} (bs cs : Checks Fault) (r : Result A Stop) → AllHold bs → Judged r cs → Judged r (bs >> cs)
judged_after bs cs (Ok x) all j = all_hold-both bs cs all j
judged_after bs cs (Err s) all j = stopped_after bs cs s all j

pub judged_asked : {A : Type 0} (q : Fault) (P : Type 0) (cs : Checks Fault) (r : Result A Stop) → P → Judged r cs → Judged r (ask q P cs)
judged_asked q P cs (Ok x) p j = (p, j)
judged_asked q P cs (Err s) p j = stopped_asked q P cs s p j

-- ---- where a claim is answered

module _ (cs : Checks Fault) where
  pub stop_proved : (x : Tree) (r : Result Claim Stop) (s : Stop) → IsErrAnd r (λ y. y ≡ s) → Stops s cs → IsProved r cs x
  stop_proved x (Ok e) s h k = absurd h
  stop_proved x (Err y) s h k = subst (λ z. Stops z cs) (sym h) k
