use Rattle.std.proofs.Common.{arith, eqb-true, length, refl, inl, inr, sym, ◌∙◌}
use Rattle.mz_machine.specs.OpenEquations.{many_to_come}
use Rattle.mz_machine.proofs.Offered.{asks-empty, asks-within, not-enough}
use Rattle.mz_pmachine.specs.OpenNodes.{of_nodes}
use Rattle.mz_pmachine.proofs.lack.lack.Goals as goal

pub returns-then-is_empty-clause-none : goal.returns-then-is_empty-clause-none
returns-then-is_empty-clause-none c = asks-empty c.args.equations.now _ _ (eqb-true (length c.args.equations.now) 0 (sym c.is_empty.ensures ∙ c.if-is_empty.true))

pub returns-then-asked-written-clause-none : goal.returns-then-asked-written-clause-none
returns-then-asked-written-clause-none c = asks-within c.args.equations.now _ _ (omega (arith, c.asked_by-asked.ensures, c.if-asked-written.true))

pub returns-then-reach-clause-some : goal.returns-then-reach-clause-some
returns-then-reach-clause-some c = (
  omega (arith, c.asked_by-asked.ensures, c.if-asked-written.false),
  inl (refl, (let enough = c.reach.ensures.0 c.if-reach.true in omega (arith, c.asked_by-asked.ensures, enough))),
)

pub returns-else-reach-clause-some : goal.returns-else-reach-clause-some
returns-else-reach-clause-some c = (
  omega (arith, c.asked_by-asked.ensures, c.if-asked-written.false),
  inr (
    refl,
    (let more = not-enough c.asked_by-asked.result c.args.written (many_to_come (of_nodes c.args.nodes.now) c.args.equations.now) c.reach.result c.if-reach.false c.reach.ensures.1 in omega (arith, c.asked_by-asked.ensures, more)),
  ),
)
