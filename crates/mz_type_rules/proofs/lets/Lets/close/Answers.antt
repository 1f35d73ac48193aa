use Rattle.std.proofs.Common.{◌∙◌, ap, arith}
use Rattle.mz_type_rules.proofs.Keeping.{closed, scope_is}
use Rattle.mz_type_rules.proofs.lets.Lets.close.Goals as goal

pub returns : goal.returns
returns c = λ before e is.
    let all = c.self.view_is ∙ is in
    scope_is before c.self.inside.env.now c.self.inside.hyps.now _ (ap (λ s. s.env) all) (ap (λ s. s.hyps) all)
    (closed c.self.inside.visible.items c.pop.new.self.items c.pop.result c.pop.ensures.items (λ some. c.pop.ensures.variant.1 (omega (arith, some))) before.lets e (ap (λ s. s.lets) all))
