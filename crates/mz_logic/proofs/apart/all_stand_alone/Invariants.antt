use Rattle.std.proofs.Common.{◌≡◌, [], true}
use Rattle.mz_base.proofs.Offered.{AllSoFar}
use Rattle.mz_logic_theory.specs.declared.binder.Binder.{Binder}
use Rattle.mz_logic.proofs.apart.all_stand_alone.Given as goal

abbrev pub invariant-loop-param : goal.invariant-loop-param
invariant-loop-param l = AllSoFar (λ (p : Binder). p.bound ≡ true → p.deps ≡ []) l.params l.param-index
