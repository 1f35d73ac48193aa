use Rattle.std.proofs.Common.{◌≤◌, drop}
use Rattle.std.specs.Prelude.{◌↔◌}
use Rattle.mz_machine.specs.OpenEquations.{many_to_come}
use Rattle.mz_pmachine.specs.OpenNodes.{of_nodes}
use Rattle.mz_pmachine.proofs.equations.reach.Given as goal

-- what the equations before leave is asked of those that are left
abbrev pub invariant-equations : goal.invariant-equations
invariant-equations l = (l.short ≤ many_to_come (of_nodes l.nodes) (drop l.equation-index l.equations)) ↔ (l.many ≤ many_to_come (of_nodes l.nodes) l.equations)
