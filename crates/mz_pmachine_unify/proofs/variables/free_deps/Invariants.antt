use Rattle.std.proofs.Common.{◌≡◌, take}
use Rattle.mz_logic_theory.specs.Words.{term_at, signatures_of, bound_places}
use Rattle.mz_store.specs.Bits.{bound_vars}
use Rattle.mz_store.proofs.Offered.{Gathers, FreeFrom}
use Rattle.mz_pmachine_unify.specs.Numbering.{trees_of}
use Rattle.mz_pmachine_unify.proofs.variables.free_deps.Given as goal

abbrev pub invariant-loop-i : goal.invariant-loop-i
invariant-loop-i g l = (l.bound.items ≡ bound_places 0 (take l.i (term_at (g.T.Terms.all_terms l.terms) l.t).params))
    × Gathers (bound_vars l.nodes.context) l.word
    (FreeFrom (signatures_of (g.T.Terms.all_terms l.terms)) l.nodes.context (trees_of l.nodes l.args) (term_at (g.T.Terms.all_terms l.terms) l.t).params 0)
    (FreeFrom (signatures_of (g.T.Terms.all_terms l.terms)) l.nodes.context (trees_of l.nodes l.args) (term_at (g.T.Terms.all_terms l.terms) l.t).params l.i)
