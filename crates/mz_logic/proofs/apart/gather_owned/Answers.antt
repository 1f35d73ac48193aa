use Rattle.std.proofs.Common.{◌∙◌, [], sym, refl, subst, true≢false}
use Rattle.mz_logic_free.specs.Own.{HaveOwners}
use Rattle.mz_logic.proofs.Owning.{below-first, below-more, below-twice, below-last, single-last}
use Rattle.mz_logic.proofs.apart.gather_owned.Goals as goal

pub loop-j-init : goal.loop-j-init
loop-j-init c = (
  below-first c.args.params.now c.args.es.now c.args.owned.now c.requires.empty,
  subst (λ xs. HaveOwners c.args.params.now c.args.es.now xs c.args.owners.now.items) (sym c.requires.empty) (subst (HaveOwners c.args.params.now c.args.es.now []) (sym c.requires.none) tt),
)

pub returns-then-not-fresh-clause-single : goal.returns-then-not-fresh-clause-single
returns-then-not-fresh-clause-single c = (
  λ no. absurd (true≢false (sym no)),
  λ single. absurd (below-twice c.args.params.now c.args.es.now c.loop-j.j c.loop-j.owned c.loop-j.invariant.0
      (λ fresh. true≢false (sym (c.in_ok-fresh.ensures.fresh.1 fresh) ∙ c.if-not-fresh.true)) single),
)

pub loop-j-preserved : goal.loop-j-preserved
loop-j-preserved c = (
  below-more c.args.params.now c.args.es.now c.loop-j.j c.loop-j.owned c.loop-j.invariant.0 _ c.in_ok-fresh.ensures.has (c.in_ok-fresh.ensures.fresh.0 c.if-not-fresh.false),
  c.in_ok-fresh.ensures.owners,
)

pub returns-clause-has : goal.returns-clause-has
returns-clause-has c = λ _. below-last c.args.params.now c.args.es.now c.loop-j.j c.loop-j.owned c.loop-j.invariant.0 c.loop-j-test.false

pub returns-clause-single : goal.returns-clause-single
returns-clause-single c = (λ _. single-last c.args.params.now c.args.es.now c.loop-j.j c.loop-j.owned c.loop-j.invariant.0 c.loop-j-test.false, λ _. refl)
