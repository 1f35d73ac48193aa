use Rattle.std.proofs.Common.{◌≡◌, ◌∙◌, ap, length, arith, subst, sym}
use Rattle.mz_mmu_theory.specs.Sides.{with_fact}
use Rattle.mz_type_rules.specs.Claims.{claim_tree}
use Rattle.mz_type_rules.specs.Compared.{let_trees, AreNamed}
use Rattle.mz_type_rules.specs.Scopes.{with_let}
use Rattle.mz_type_rules.specs.declared.lets.Name.TheVariants.{Let}
use Rattle.mz_type_rules.proofs.Keeping.{scope_is, lets_append, named_more, named_new, kept_more}
use Rattle.mz_type_rules.proofs.lets.Lets.open_new.Goals as goal

pub invariant_of-self-in_err-push-2 : goal.invariant_of-self-in_err-push-2
invariant_of-self-in_err-push-2 c =
    let named = c.self.inside.named.items in
    let new = c.push.new.self.items in
    let more = c.in_ok-push.ensures.items in (
      subst (AreNamed c.self.inside.hyps.now new) (sym c.in_err-push-2.ensures.items) (named_more named new c.args.claim more c.self.inside.hyps.now c.self.inside.visible.items c.self.invariant.0),
      kept_more named new c.args.claim more c.self.inside.env.now c.self.inside.hyps.now c.self.inside.kept.items c.self.invariant.1,
    )

pub invariant_of-self-2 : goal.invariant_of-self-2
invariant_of-self-2 c =
    let named = c.self.inside.named.items in
    let new = c.push.new.self.items in
    let more = c.in_ok-push.ensures.items in
    let number : c.len-number.result ≡ length named = omega (arith, c.len-number.ensures) in (
      named_new named new c.args.claim more c.self.inside.hyps.now c.self.inside.visible.items c.push-2.new.self.items c.len-number.result number c.in_ok-push-2.ensures.items c.self.invariant.0,
      kept_more named new c.args.claim more c.self.inside.env.now c.self.inside.hyps.now c.self.inside.kept.items c.self.invariant.1,
    )

pub returns : goal.returns
returns c =
    let x = claim_tree c.args.claim in
    scope_is (with_let c.args.self.now x) c.self.inside.env.now c.self.inside.hyps.now (let_trees c.push-2.new.self.items) (ap (λ s. s.env) c.self.view_is) (ap (λ s. s.hyps) c.self.view_is)
    (ap let_trees c.in_ok-push-2.ensures.items ∙ lets_append c.self.inside.visible.items (record { claim = c.args.claim; name = Let c.len-number.result })
    ∙ ap (λ s. with_fact s.lets x) c.self.view_is)
