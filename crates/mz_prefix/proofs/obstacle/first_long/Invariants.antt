use Rattle.std.proofs.Common.{◌≡◌, false, refl}
use Rattle.mz_prefix.specs.NamedDeclarations.{Vocabulary}
use Rattle.mz_prefix.specs.Wording.{IsBrief, long_checks, long_in}
use Rattle.mz_prefix.proofs.Checking.{Left}
use Rattle.mz_prefix.proofs.obstacle.first_long.Given as goal

abbrev pub invariant-loop-i : goal.invariant-loop-i
invariant-loop-i l = (v : Vocabulary) → Left (long_checks v) long_in (λ s. s.is_local ≡ false → IsBrief v s.decl) (λ k s ss. refl) l.text.statements l.i
