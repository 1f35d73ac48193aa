use Rattle.std.proofs.Common.{◌∙◌, map, sym, subst}
use Rattle.mz_unify.specs.Rows.{TellsAny}
use Rattle.mz_pmachine_theory.specs.NodeIdentity.{tree_of}
use Rattle.mz_pmachine_unify.specs.Stored.{exprs_at}
use Rattle.mz_pmachine_unify.proofs.running.unify.Goals as goal

pub unify_in-said-requires-clause-apart : goal.unify_in-said-requires-clause-apart
unify_in-said-requires-clause-apart g c =
    subst (λ is. TellsAny c.args.nodes.now.context c.kept_disjoint-apart.result (map tree_of (exprs_at c.args.nodes.now is))) (c.deref.ensures.value ∙ sym c.deref-2.ensures.value) (c.kept_disjoint-apart.ensures _ c.requires.over)
