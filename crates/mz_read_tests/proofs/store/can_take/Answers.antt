use Rattle.std.proofs.Common.{arith, refl, subst}
use Rattle.mz_logic_theory.specs.Sorts.{HasSort}
use Rattle.mz_logic_theory.specs.Words.{signatures_of, term_at}
use Rattle.mz_store.proofs.Offered.{in-next, fit-next, in-all, fit-all}
use Rattle.mz_read_tests.proofs.store.can_take.Goals as goal

pub loop-i-preserved : goal.loop-i-preserved
loop-i-preserved g c =
    let fit = c.if-not-is_fit.ensures refl in (
      in-next c.args.store.now c.args.args.now c.loop-i.i _ (omega arith) (omega arith) c.loop-i.invariant.0 fit.0,
      fit-next (signatures_of (g.T.Terms.all_terms c.args.terms.now)) c.args.store.now.context c.args.store.now c.args.args.now (term_at (g.T.Terms.all_terms c.args.terms.now) c.args.t).params
          c.loop-i.i _ c.param.result c.param.ensures (omega arith) (omega arith) c.loop-i.invariant.1
          (subst (HasSort (signatures_of (g.T.Terms.all_terms c.args.terms.now)) c.args.store.now.context _) fit.1 (c.requires _ fit.0).0) fit.2,
    )

pub returns : goal.returns
returns g c = λ _. (
  in-all c.args.store.now c.args.args.now c.loop-i.i (omega arith) c.loop-i.invariant.0,
  (
    omega arith,
    fit-all (signatures_of (g.T.Terms.all_terms c.args.terms.now)) c.args.store.now.context c.args.store.now c.args.args.now
        (term_at (g.T.Terms.all_terms c.args.terms.now) c.args.t).params c.loop-i.i (omega arith) (omega arith) c.loop-i.invariant.1,
  ),
)
