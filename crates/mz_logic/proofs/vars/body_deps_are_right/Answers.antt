use Rattle.std.proofs.Common.{ℕ, subst, sym}
use Rattle.mz_logic_theory.specs.Declaration.{dummies_of, signatures, sorts}
use Rattle.mz_logic_theory.specs.Sorts.{HasSort}
use Rattle.mz_logic_theory.specs.View.{tree}
use Rattle.mz_logic_theory.specs.DeclView.{term_view}
use Rattle.mz_logic_theory.specs.Legality.{DependOnBound}
use Rattle.mz_logic_theory.proofs.Offered.{depends_on_bound, body_has_sort}
use Rattle.mz_logic.proofs.vars.body_deps_are_right.Goals as goal

pub free_vars_are_in-requires-clause-deps : goal.free_vars_are_in-requires-clause-deps
free_vars_are_in-requires-clause-deps c =
    subst DependOnBound (sym c.context.ensures) (depends_on_bound (sorts c.args.env.now) (term_view c.args.term.now).signature.params (dummies_of (term_view c.args.term.now).form) c.requires.binders.0 c.requires.binders.1)

pub free_vars_are_in-requires-clause-sorted : goal.free_vars_are_in-requires-clause-sorted
free_vars_are_in-requires-clause-sorted c =
    subst (λ ctx. (s : ℕ) × HasSort (signatures c.args.env.now) ctx (tree c.in-Some.e.now) s) (sym c.context.ensures)
    (body_has_sort c.args.env.now (term_view c.args.term.now) c.requires.names c.requires.sorts c.requires.bound (tree c.in-Some.e.now) c.in-Some.ensures)
