use Rattle.std.proofs.Common.{◌∙◌, ap, refl}
use Rattle.mz_mmu_theory.specs.ProofView.{proof_view}
use Rattle.mz_mmu_theory.specs.Sides.{proved}
use Rattle.mz_type_rules.specs.Compared.{let_trees}
use Rattle.mz_type_rules.proofs.Keeping.{named_at}
use Rattle.mz_type_rules.proofs.lets.named_alike.Goals as goal

pub returns-in-Hyp : goal.returns-in-Hyp
returns-in-Hyp c = λ env hyps named are proves. (proves ∙ ap (λ p. proved env hyps (let_trees c.args.visible.now) (proof_view p)) c.in-Hyp.is, refl)

pub returns-in-Name : goal.returns-in-Name
returns-in-Name c = named_at c.args.visible.now c.in-Name.i c.visible_at.result c.visible_at.ensures c.args.claim (proof_view c.args.stated.now) (ap proof_view c.in-Name.is)
