use Rattle.std.proofs.Common.{◌≡◌, take}
use Rattle.std.specs.Prelude.{count_by}
use Rattle.mz_emit.proofs.limit.bound_among.Given as goal

abbrev pub invariant-loop-binder : goal.invariant-loop-binder
invariant-loop-binder l = l.n ≡ count_by (λ b. b.bound) (take l.binder-index l.binders)
