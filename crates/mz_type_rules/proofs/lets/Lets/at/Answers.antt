use Rattle.std.proofs.Common.{◌∙◌, ◌<◌, ap, sym, subst, length}
use Rattle.mz_logic_theory.specs.Tree.{listed, operand}
use Rattle.mz_type_rules.specs.Compared.{let_trees}
use Rattle.mz_type_rules.proofs.Keeping.{length-lets}
use Rattle.mz_type_rules.proofs.lets.Lets.at.Goals as goal

pub claim_named-requires : goal.claim_named-requires
claim_named-requires c =
    subst (λ ls. c.args.place < length ls) (sym c.deref.ensures.value)
    (subst (λ n. c.args.place < n) (ap (λ s. length (listed s.lets)) (sym c.self.view_is) ∙ length-lets c.self.inside.visible.items) c.requires)

pub returns : goal.returns
returns c = c.claim_named.ensures ∙ ap (λ ls. operand (let_trees ls) c.args.place) c.deref.ensures.value ∙ ap (λ s. operand s.lets c.args.place) c.self.view_is
