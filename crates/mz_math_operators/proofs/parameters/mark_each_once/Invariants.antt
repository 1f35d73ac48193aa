use Rattle.std.proofs.Common.{◌≡◌, ◌<◌, ◌+◌, ℕ, length, false, get_or, drop}
use Rattle.mz_math_operators.specs.Once.{one_if, times}
use Rattle.mz_math_operators.proofs.parameters.mark_each_once.Given as goal

-- what is flagged and what is left make the whole
abbrev pub invariant-loop-element : goal.invariant-loop-element
invariant-loop-element l = (length l.marks ≡ length l.initial.marks)
    × ((i : ℕ) → i < length l.marks → one_if (get_or l.marks i false) + times (drop l.element-index l.elements) i ≡ times l.elements i)
