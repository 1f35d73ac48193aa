use Rattle.std.proofs.Common.{◌≡◌, subst, slice_get, Some}
use Rattle.mz_logic_theory.specs.Tree.{operand, instance}
use Rattle.mz_mmu_theory.specs.ProofView.{proof_view}
use Rattle.mz_mmu_theory.specs.Sides.{assertion_at, proved}
use Rattle.mz_type_rules.specs.Compared.{Names}
use Rattle.mz_type_rules.proofs.Keeping.{known}
use Rattle.mz_type_rules.proofs.lets.Lets.knows.Goals as goal

pub returns : goal.returns
returns c = λ yes.
    let p = proof_view c.args.proof.now in
    let ls = c.self.inside.visible.items in
    let kept = c.in-Some-find.kept.now in
    let named = subst (λ ns. Names ns p c.in-Some.name) c.deref.ensures.value c.in-Some.ensures in
    let found = c.in-Some-find.ensures in
    subst (λ s. proved s.env s.hyps s.lets p ≡ instance c.args.es.now (operand (assertion_at s.env c.args.number).hyps c.args.place)) c.self.view_is
    (known c.self.inside.env.now c.self.inside.hyps.now c.self.inside.named.items ls c.self.invariant.0 p (record { name = c.in-Some.name; number = c.args.number; place = c.args.place }) named kept found.0
    (c.self.invariant.1 found.1.0 kept (subst (λ ks. slice_get ks found.1.0 ≡ Some kept) c.deref-2.ensures.value found.1.1))
    c.args.es.now c.put_in_pattern-at.result.now c.put_in_pattern-at.ensures (c.same_lists.ensures yes))
