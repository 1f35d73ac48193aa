use Rattle.std.proofs.Common.{inl, inr}
use Rattle.mz_math_theory.proofs.notation.Notation.head_constant.Goals as goal

pub returns-in-None-joining_constant : goal.returns-in-None-joining_constant
returns-in-None-joining_constant c = λ w by. elim by [ inl led ↦ c.in-None.ensures w led | inr joined ↦ c.in-None-joining_constant.ensures w joined ]
