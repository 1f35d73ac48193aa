use Rattle.std.proofs.Common.{◌↔◌, [], List, subst, refl}
use Rattle.std.specs.Prelude.{IsTrue}
use Rattle.mz_math_theory.specs.declared.coercion.Coercion.{Coercion}
use Rattle.mz_math_theory.specs.CoercionAnswers.{HasPath}
use Rattle.mz_math_coercions.proofs.Leading.{led-reaches}
use Rattle.mz_math_coercions.proofs.coercions.reaches.Goals as goal

pub returns-then-from-to-clause-there : goal.returns-then-from-to-clause-there
returns-then-from-to-clause-there c = (λ t. ([], c.if-from-to.true), λ has. refl)

pub returns-then-coercions-clause-there : goal.returns-then-coercions-clause-there
returns-then-coercions-clause-there c =
    subst (λ (cs : List Coercion). IsTrue c.is_some.result ↔ HasPath cs c.args.from c.args.to) c.coercions.view_is
    (led-reaches c.coercions.inside.graph c.coercions.inside.firsts c.args.from c.args.to c.get.result (c.coercions.invariant.led c.if-coercions.true) c.if-from-to.false c.get.ensures c.is_some.result c.is_some.ensures)
