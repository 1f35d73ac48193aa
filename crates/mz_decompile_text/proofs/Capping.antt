-- Numbers that are cut off at the largest add up as if they were not.
use Rattle.std.proofs.Common.{◌≡◌, ℕ, ◌+◌, ◌-◌, ◌^◌, ◌<◌, ◌≤◌, arith}
use Rattle.mz_decompile_text.specs.Measures.{capped}

pub capped-sum : (a b : ℕ) → capped (capped a + capped b) ≡ capped (a + b)
capped-sum a b = omega arith

-- one that fits is what it is
pub capped-small : (a : ℕ) → a < 2 ^ 128 → capped a ≡ a
capped-small a small = omega arith

-- under a bound that fits it is the number itself that is bounded
pub capped-bound : (a bound : ℕ) → bound < 2 ^ 128 - 1 → capped a ≤ bound → a ≤ bound
capped-bound a bound small low = omega arith
