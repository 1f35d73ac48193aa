-- What stops a command.
use Rattle.std.proofs.Common.{◌≡◌, subst}
use Rattle.mz_cmd.specs.declared.rule.K.{K}
use Rattle.mz_unify.specs.Rows.{StopsBy}
use Rattle.mz_unify.specs.declared.stop.Stop.{Stop}
use Rattle.mz_unify.specs.declared.stop.Stop.TheVariants.{Rule, Mem}

pub stops-as : (stop : Stop) (P Q : K → Type 0) → ((k : K) → P k → Q k) → StopsBy stop P → StopsBy stop Q
stops-as (Rule k) P Q f h = f k h
stops-as Mem P Q f h = tt

pub stopped : (stop : Stop) (k : K) (P : K → Type 0) → stop ≡ Rule k → StopsBy stop P → P k
stopped stop k P is h = subst (λ (s : Stop). StopsBy s P) is h
