-- What is said of a stream, of the command that runs it.
use Rattle.std.proofs.Common.{◌≡◌, ℕ, Ok, Err, sym, subst}
use Rattle.mz_cmd.specs.declared.rule.K.{K}
use Rattle.mz_unify.specs.Stored.{Says}
use Rattle.mz_unify.specs.Rows.{StopsBy, gone_through}
use Rattle.mz_unify.specs.declared.stop.Stop.{Stop}
use Rattle.mz_unify.specs.declared.stop.Stop.TheVariants as stop
use Rattle.mz_unify.specs.declared.unified.Unified.{Unified}
use Rattle.mz_unify.specs.declared.unified.Unified.TheVariants.{Done, Refused, Mem}

-- it goes on
pub went-through : (said : Unified) (P : ℕ → Type 0) (Q : ℕ → K → Type 0) (u : Unit {0}) → Ok u ≡ gone_through said → Says said P Q → (taken : ℕ) × P taken
went-through (Done taken) P Q u is h = (taken, h)
went-through (Refused at k) P Q u is h = absurd cc
went-through Mem P Q u is h = absurd cc

-- it is stopped
pub stopped-through : (said : Unified) (P : ℕ → Type 0) (Q : ℕ → K → Type 0) (R : K → Type 0) (why : Stop) → Err why ≡ gone_through said → Says said P Q → ((at : ℕ) (k : K) → Q at k → R k) → StopsBy why R
stopped-through (Done taken) P Q R why is h then = absurd cc
stopped-through (Refused at k) P Q R why is h then = let same : why ≡ stop.Rule k = cc in subst (λ (s : Stop). StopsBy s R) (sym same) (then at k h)
stopped-through Mem P Q R why is h then = let same : why ≡ stop.Mem = cc in subst (λ (s : Stop). StopsBy s R) (sym same) tt
