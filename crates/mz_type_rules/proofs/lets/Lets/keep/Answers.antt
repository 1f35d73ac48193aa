use Rattle.std.proofs.Common.{◌≡◌, sym, subst}
use Rattle.mz_logic_theory.specs.Tree.{operand, instance}
use Rattle.mz_logic_theory.specs.View.{tree}
use Rattle.mz_mmu_theory.specs.ProofView.{proof_view}
use Rattle.mz_mmu_theory.specs.Sides.{assertion_at, proved}
use Rattle.mz_type_rules.specs.Compared.{Names}
use Rattle.mz_type_rules.proofs.Keeping.{kept_one, right_kept}
use Rattle.mz_type_rules.proofs.lets.Lets.keep.Goals as goal

pub invariant_of-self-2 : goal.invariant_of-self-2
invariant_of-self-2 c =
    let env = c.self.inside.env.now in
    let hyps = c.self.inside.hyps.now in
    let named = c.self.inside.named.items in
    let p = proof_view c.args.proof.now in
    let hyp = tree c.args.hyp.now in
    let es = c.args.es.now in
    let kept = c.in-Some-kept_of.kept in
    let ensured = c.in-Some-kept_of.ensures in
    let name = subst (λ ns. Names ns p c.in-Some.name) c.deref.ensures.value c.in-Some.ensures in
    let hyp-is = subst (λ s. hyp ≡ operand (assertion_at s.env c.args.number).hyps c.args.place) (sym c.self.view_is) c.requires.hyp in
    let proves = subst (λ s. proved s.env s.hyps s.lets p ≡ instance es hyp) (sym c.self.view_is) c.requires.same in (
      c.self.invariant.0,
      kept_one env hyps named c.self.inside.kept.items c.push.new.self.items kept c.in-Ok.ensures.items c.self.invariant.1
          (right_kept env hyps named c.self.inside.visible.items c.self.invariant.0 p (record { name = c.in-Some.name; number = c.args.number; place = c.args.place }) name kept ensured.key
          hyp es hyp-is ensured.at proves ensured.own ensured.source),
    )
