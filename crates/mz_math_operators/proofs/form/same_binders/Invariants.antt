use Rattle.std.proofs.Common.{◌≡◌, ◌<◌, ℕ, length, slice_get}
use Rattle.mz_math_operators.proofs.form.same_binders.Given as goal

abbrev pub invariant-loop-i : goal.invariant-loop-i
invariant-loop-i l = ((k : ℕ) → k < l.i → slice_get l.xs k ≡ slice_get l.ys k) × (length l.xs ≡ length l.ys)
