use Rattle.std.proofs.Common.{◌∙◌, sym, subst}
use Rattle.mz_unify.specs.Stored.{mode_of, trees_at}
use Rattle.mz_unify.specs.Rows.{TellsFor}
use Rattle.mz_unify.proofs.running.unify.Goals as goal

pub unify_in-said-requires-clause-apart : goal.unify_in-said-requires-clause-apart
unify_in-said-requires-clause-apart g c =
    subst (λ is. TellsFor (mode_of c.args.mode) c.args.store.now.context c.kept_disjoint-apart.result (trees_at c.args.store.now is)) (c.deref.ensures.value ∙ sym c.deref-2.ensures.value) (c.kept_disjoint-apart.ensures _ c.requires.over)
