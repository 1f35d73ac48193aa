use Rattle.std.proofs.Common.{◌∙◌, ap, sym}
use Rattle.mz_logic_theory.specs.Tree.{instances}
use Rattle.mz_logic_theory.proofs.Offered.{followed_by_none}
use Rattle.mz_type_rules.specs.Claims.{borrowed_trees}
use Rattle.mz_type_rules.proofs.ClaimSides.{operands}
use Rattle.mz_type_rules.proofs.lets.same_lists.Goals as goal

pub returns-in-Ok : goal.returns-in-Ok
returns-in-Ok c = λ yes.
    let own = borrowed_trees c.of-own.result in
    let vars = borrowed_trees c.of-vars.result in
    ap (instances c.args.es.now) (sym (c.of-own.ensures ∙ c.borrowed.ensures)) ∙ ap (λ fs. instances fs own) (sym (followed_by_none c.args.es.now))
    ∙ operands (c.in-Ok.ensures.0 yes) ∙ ap (λ fs. instances fs vars) (followed_by_none c.args.at.now) ∙ ap (instances c.args.at.now) (c.of-vars.ensures ∙ c.borrowed-2.ensures)
