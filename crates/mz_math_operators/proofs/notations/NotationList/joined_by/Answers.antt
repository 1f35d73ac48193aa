use Rattle.std.proofs.Common.{◌∙◌, inr, sym, subst}
use Rattle.std.proofs.lemmas.Bool.{true≢false}
use Rattle.mz_math_theory.specs.Clear.{JoinedBy}
use Rattle.mz_math_operators.proofs.notations.NotationList.joined_by.Goals as goal

pub returns-in-None : goal.returns-in-None
returns-in-None c = λ k has by. c.in-None.ensures k has (inr by)

pub returns-else-is_joined_by : goal.returns-else-is_joined_by
returns-else-is_joined_by c = λ k has by. true≢false (sym (c.is_joined_by.ensures.1 (subst (λ l. JoinedBy l c.args.token.now) (c.in-Some.ensures.1 k has (inr by)) by)) ∙ c.if-is_joined_by.false)
