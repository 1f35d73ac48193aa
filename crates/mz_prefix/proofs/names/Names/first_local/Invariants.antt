use Rattle.std.proofs.Common.{◌≡◌, false, refl}
use Rattle.mz_prefix.specs.PublicPart.{IsSayable}
use Rattle.mz_prefix.specs.Wording.{local_checks, local_in}
use Rattle.mz_prefix.proofs.Checking.{Left}
use Rattle.mz_prefix.proofs.names.Names.first_local.Given as goal

abbrev pub invariant-loop-i : goal.invariant-loop-i
invariant-loop-i l = Left (local_checks l.self.locals.items) local_in (λ s. s.is_local ≡ false → IsSayable l.self.locals.items s.decl) (λ k s ss. refl) l.text.statements l.i
