use Rattle.std.proofs.Common.{◌≡◌, ◌∷◌, [], ◌∙◌, ap, sym, subst, length, length-append, arith, ◌+◌, ◌<◌, Contains}
use Rattle.mz_math_theory.specs.Notation.{Variables}
use Rattle.mz_math_theory.specs.Kept.{AreVariables}
use Rattle.mz_math_theory.proofs.Offered.{variables-more}
use Rattle.mz_math_operators.proofs.scope.Scope.push.Goals as goal

pub push-requires : goal.push-requires
push-requires c = λ some has. c.requires.other some (subst (λ (v : Variables). Contains v.names c.args.name.now) c.self.view_is has)

pub invariant_of-self-in-Ok : goal.invariant_of-self-in-Ok
invariant_of-self-in-Ok c =
    let names = c.self.inside.names in
    let items = c.in_ok-push.ensures.ok in
    let more : length c.push.new.self ≡ length names + 1 = ap length items ∙ length-append names (c.args.name.now ∷ []) in
    let binders : length c.push-2.new.self ≡ length c.self.inside.binders + 1 = ap length c.in-Ok.ensures.ok ∙ length-append c.self.inside.binders (c.args.binder ∷ []) in
    let room : length names < 4294967295 = subst (λ (v : Variables). length v.names < 4294967295) (sym c.self.view_is) c.requires.room in
    let same = c.self.invariant.2 in (
      subst AreVariables (sym items)
          (variables-more names c.args.name.now c.self.invariant.0 c.requires.name
          (λ some has. c.requires.other some (subst (λ (v : Variables). Contains v.names c.args.name.now) c.self.view_is has))),
      omega (arith, more, room),
      omega (arith, more, binders, same),
    )
