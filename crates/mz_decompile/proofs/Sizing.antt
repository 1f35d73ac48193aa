-- What is answered, by what the first pass gives.
use Rattle.std.proofs.Common.{◌≡◌, ◌<◌, ◌≤◌, ◌+◌, ◌*◌, ℕ, List, length, inl, ap, arith}
use Rattle.std.specs.Prelude.{max}
use Rattle.mz_base.specs.Checks.{AllHold, FailsFirst, demand}
use Rattle.mz_base.proofs.Offered.{fails-before, fails-after, all_hold-both}
use Rattle.mz_mmu_theory.specs.Statements.{Statement}
use Rattle.mz_mmu_theory.specs.Weight.{weight_of}
use Rattle.mz_decompile_text.specs.Phrasing.{Vocabulary, text_of}
use Rattle.mz_decompile_text.specs.Measures.{capped}
use Rattle.mz_prefix.specs.Wording.{longest}
use Rattle.mz_decompile.specs.Restated.{deep, too_long, told_length, depth_checks, greater_length, stating_checks}

module _ (v : Vocabulary) (ts : List Statement) where
  pub too-deep : (k : ℕ) → FailsFirst (depth_checks v 1 ts) (deep k) → FailsFirst (stating_checks v ts) (deep k)
  too-deep k fails = fails-before (depth_checks v 1 ts) (demand (too_long (told_length (greater_length v ts))) (greater_length v ts ≤ longest)) (deep k) fails

  module _ (holds : AllHold (depth_checks v 1 ts)) (count : ℕ) (is : count ≡ capped (max (length (text_of v ts)) (64 + 32 * weight_of ts))) where
    pub too-long : longest < count → FailsFirst (stating_checks v ts) (too_long count)
    too-long past =
        fails-after (depth_checks v 1 ts) (demand (too_long (told_length (greater_length v ts))) (greater_length v ts ≤ longest)) (too_long count) holds
        (inl (λ low. absurd (omega (arith, is, past, low)), ap too_long is))

    pub short-enough : count ≤ longest → AllHold (stating_checks v ts)
    short-enough low =
        all_hold-both (depth_checks v 1 ts) (demand (too_long (told_length (greater_length v ts))) (greater_length v ts ≤ longest)) holds (omega (arith, is, low), tt)
