use Rattle.std.proofs.Common.{◌≡◌, ◌∙◌, sym, ap, subst, length, arith}
use Rattle.mz_logic_theory.specs.Tree.{listed}
use Rattle.mz_mmu_theory.specs.ProofView.{proof_view}
use Rattle.mz_mmu_theory.specs.Sides.{proved, with_fact}
use Rattle.mz_type_rules.specs.Claims.{claim_tree}
use Rattle.mz_type_rules.specs.Compared.{let_trees, AreNamed}
use Rattle.mz_type_rules.specs.Scopes.{with_let}
use Rattle.mz_type_rules.proofs.Keeping.{scope_is, length-lets, lets_append, named_one}
use Rattle.mz_type_rules.proofs.lets.Lets.open.Goals as goal

pub invariant_of-self-in-Some : goal.invariant_of-self-in-Some
invariant_of-self-in-Some c =
    let env = c.self.inside.env.now in
    let hyps = c.self.inside.hyps.now in
    let named = c.self.inside.named.items in
    let ls = c.self.inside.visible.items in
    let s = c.args.self.now in
    let x = claim_tree c.args.claim in
    let r = proof_view c.in_ok-stated.stated.now in
    let many = ap (λ z. length (listed z.lets)) (sym c.self.view_is) ∙ length-lets ls in
    let proves = subst (λ z. x ≡ proved z.env z.hyps z.lets r) (sym c.self.view_is) (c.requires ∙ sym (c.in_ok-stated.ensures s.env s.hyps s.lets (omega (arith, many, c.len.ensures)))) in
    let alike = c.in-Some.ensures env hyps named (subst (AreNamed hyps named) (sym c.deref.ensures.value) c.self.invariant.0)
    (subst (λ ms. x ≡ proved env hyps (let_trees ms) r) (sym c.deref.ensures.value) proves) in
    (named_one hyps named ls c.push.new.self.items c.in-Some.named c.in_ok-push-in-Some.ensures.items c.self.invariant.0 alike.0, c.self.invariant.1)

pub returns-in_ok-push-in-Some : goal.returns-in_ok-push-in-Some
returns-in_ok-push-in-Some c =
    let env = c.self.inside.env.now in
    let hyps = c.self.inside.hyps.now in
    let named = c.self.inside.named.items in
    let ls = c.self.inside.visible.items in
    let s = c.args.self.now in
    let x = claim_tree c.args.claim in
    let r = proof_view c.in_ok-stated.stated.now in
    let many = ap (λ z. length (listed z.lets)) (sym c.self.view_is) ∙ length-lets ls in
    let proves = subst (λ z. x ≡ proved z.env z.hyps z.lets r) (sym c.self.view_is) (c.requires ∙ sym (c.in_ok-stated.ensures s.env s.hyps s.lets (omega (arith, many, c.len.ensures)))) in
    let alike = c.in-Some.ensures env hyps named (subst (AreNamed hyps named) (sym c.deref.ensures.value) c.self.invariant.0)
    (subst (λ ms. x ≡ proved env hyps (let_trees ms) r) (sym c.deref.ensures.value) proves) in
    scope_is (with_let s x) env hyps (let_trees c.push.new.self.items) (ap (λ z. z.env) c.self.view_is) (ap (λ z. z.hyps) c.self.view_is)
    (ap let_trees c.in_ok-push-in-Some.ensures.items ∙ lets_append ls c.in-Some.named ∙ ap (with_fact (let_trees ls)) alike.1 ∙ ap (λ z. with_fact z.lets x) c.self.view_is)
