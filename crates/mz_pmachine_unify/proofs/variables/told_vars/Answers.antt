use Rattle.std.proofs.Common.{sym, ◌∙◌, subst}
use Rattle.mz_logic_theory.specs.Tree.{app}
use Rattle.mz_logic_theory.specs.Words.{signatures_of}
use Rattle.mz_store.specs.Bits.{Tells, bound_vars}
use Rattle.mz_store.specs.Sharing.{DependsOn}
use Rattle.mz_pmachine_unify.specs.Numbering.{trees_of}
use Rattle.mz_pmachine_unify.proofs.variables.told_vars.Goals as goal

pub returns-in-All : goal.returns-in-All
returns-in-All g c =
    subst (λ m. Tells (bound_vars c.args.nodes.now.context) c.args.vars
    (DependsOn m (signatures_of (g.T.Terms.all_terms c.args.terms.now)) c.args.nodes.now.context (app c.args.t (trees_of c.args.nodes.now c.args.args.now))))
    (sym (sym c.mode.ensures ∙ c.in-All.is)) c.requires.vars
