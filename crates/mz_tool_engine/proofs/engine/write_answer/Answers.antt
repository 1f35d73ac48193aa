use Rattle.std.proofs.Common.{rules, refl, inl, inr}
use Rattle.mz_tool_engine.proofs.engine.write_answer.Goals as goal

pub returns-then-is_err-clause-ends : goal.returns-then-is_err-clause-ends
returns-then-is_err-clause-ends g c = inr (refl, search rules)

pub returns-clause-ends : goal.returns-clause-ends
returns-clause-ends g c = inl refl
