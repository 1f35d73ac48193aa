use Rattle.std.proofs.Common.{◌≡◌, take}
use Rattle.mz_logic_theory.specs.Words.{term_at, signatures_of, bound_places}
use Rattle.mz_store.specs.Bits.{bound_vars}
use Rattle.mz_store.specs.Sharing.{trees_of}
use Rattle.mz_store.specs.Kept.{shared_by}
use Rattle.mz_store.proofs.Gathering.{Gathers}
use Rattle.mz_store.proofs.FreeVariables.{FreeFrom}
use Rattle.mz_store.proofs.deps.free_deps.Given as goal

abbrev pub invariant-loop-i : goal.invariant-loop-i
invariant-loop-i g l = (l.bound.items ≡ bound_places 0 (take l.i (term_at (g.T.Terms.all_terms l.terms) l.t).params))
    × Gathers (bound_vars (shared_by l.store).context) l.word
    (FreeFrom (signatures_of (g.T.Terms.all_terms l.terms)) (shared_by l.store).context (trees_of (shared_by l.store) l.args) (term_at (g.T.Terms.all_terms l.terms) l.t).params 0)
    (FreeFrom (signatures_of (g.T.Terms.all_terms l.terms)) (shared_by l.store).context (trees_of (shared_by l.store) l.args) (term_at (g.T.Terms.all_terms l.terms) l.t).params l.i)
