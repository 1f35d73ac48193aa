use Rattle.std.proofs.Common.{◌∙◌, sym, arith}
use Rattle.mz_logic_theory.specs.Words.{signatures_of, term_at}
use Rattle.mz_store.specs.Sharing.{tree_of}
use Rattle.mz_machine_theory.proofs.Offered.{two-fit}
use Rattle.mz_read_tests.proofs.unify.can_take.Goals as goal

pub returns : goal.returns
returns g c yes-b = (
  omega arith,
  two-fit (signatures_of (g.T.Terms.all_terms c.args.terms.now)) c.args.store.now.context (tree_of c.args.store.now c.args.a.0) (tree_of c.args.store.now c.args.b.0)
      (term_at (g.T.Terms.all_terms c.args.terms.now) c.args.t).params c.param.result c.param-2.result (sym c.arity.ensures ∙ c.if-arity-ne2.false) c.param.ensures c.param-2.ensures
      (c.fits.ensures _ c.requires.over c.if-not-fits.false) (c.fits-2.ensures _ c.requires.over yes-b),
)
