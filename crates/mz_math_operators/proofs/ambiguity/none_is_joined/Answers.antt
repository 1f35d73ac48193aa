use Rattle.std.proofs.Common.{refl, subst}
use Rattle.std.proofs.lemmas.Bool.{false≢true}
use Rattle.mz_math_theory.specs.Clear.{JoinedBy}
use Rattle.mz_math_theory.proofs.Offered.{joined-one}
use Rattle.mz_math_operators.proofs.ambiguity.none_is_joined.Goals as goal

pub returns-in-None : goal.returns-in-None
returns-in-None c = (λ t l w has by_k by_l. c.in-None.ensures w by_k, λ all. refl)

pub returns-in-None-joined_by : goal.returns-in-None-joined_by
returns-in-None-joined_by c = (
  λ t l w has by_k by_l. c.in-None-joined_by.ensures l has (subst (JoinedBy l) (joined-one c.args.notation.now w c.in-Some.word.now by_k c.in-Some.ensures) by_l),
  λ all. refl,
)

pub returns-in-Some-joined_by : goal.returns-in-Some-joined_by
returns-in-Some-joined_by c = (
  λ t. absurd (false≢true t),
  λ all. absurd (all c.in-Some-joined_by.field-0.now c.in-Some.word.now c.in-Some-joined_by.ensures.0 c.in-Some.ensures c.in-Some-joined_by.ensures.1),
)
