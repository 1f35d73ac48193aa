use Rattle.std.proofs.Common.{drop}
use Rattle.mz_logic_theory.specs.Sorts.{Fits}
use Rattle.mz_logic_theory.specs.Words.{term_at, binders_of, signatures_of}
use Rattle.mz_store.specs.Sharing.{AreIn, trees_of}
use Rattle.mz_read_tests.proofs.store.can_take.Given as goal

abbrev pub invariant-loop-i : goal.invariant-loop-i
invariant-loop-i g l = (AreIn l.store (drop l.i l.args) → AreIn l.store l.args)
    × (Fits (signatures_of (g.T.Terms.all_terms l.terms)) l.store.context (trees_of l.store (drop l.i l.args)) (drop l.i (binders_of (term_at (g.T.Terms.all_terms l.terms) l.t).params))
    → Fits (signatures_of (g.T.Terms.all_terms l.terms)) l.store.context (trees_of l.store l.args) (binders_of (term_at (g.T.Terms.all_terms l.terms) l.t).params))
