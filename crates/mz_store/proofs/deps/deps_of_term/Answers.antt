use Rattle.std.proofs.Common.{IfOk, sym, ◌∙◌, subst}
use Rattle.mz_logic_theory.specs.Tree.{app}
use Rattle.mz_logic_theory.specs.Words.{signatures_of}
use Rattle.mz_store.specs.Bits.{Tells, bound_vars}
use Rattle.mz_store.specs.Sharing.{trees_of, DependsOn}
use Rattle.mz_store.specs.Kept.{shared_by}
use Rattle.mz_store.proofs.Growing.{mode-shared}
use Rattle.mz_store.proofs.deps.deps_of_term.Goals as goal

pub returns-in-All : goal.returns-in-All
returns-in-All g c =
    subst (λ m. Tells (bound_vars (shared_by c.args.store.now).context) c.all_deps.result
    (DependsOn m (signatures_of (g.T.Terms.all_terms c.args.terms.now)) (shared_by c.args.store.now).context (app c.args.t (trees_of (shared_by c.args.store.now) c.args.args.now))))
    (sym (mode-shared c.args.store.now ∙ c.in-All.is)) (c.all_deps.ensures (signatures_of (g.T.Terms.all_terms c.args.terms.now)) c.requires.over)

pub returns-in-Free : goal.returns-in-Free
returns-in-Free g c =
    subst (λ m. IfOk c.free_deps.result (λ word. Tells (bound_vars (shared_by c.args.store.now).context) word
    (DependsOn m (signatures_of (g.T.Terms.all_terms c.args.terms.now)) (shared_by c.args.store.now).context (app c.args.t (trees_of (shared_by c.args.store.now) c.args.args.now)))))
    (sym (mode-shared c.args.store.now ∙ c.in-Free.is)) c.free_deps.ensures
