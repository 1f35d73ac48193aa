use Rattle.std.proofs.Common.{◌≤◌, drop}
use Rattle.std.specs.Prelude.{◌↔◌}
use Rattle.mz_machine.specs.OpenEquations.{stored, many_to_come}
use Rattle.mz_machine.proofs.equations.reach.Given as goal

-- what the equations before leave is asked of those that are left
abbrev pub invariant-equations : goal.invariant-equations
invariant-equations l = (l.short ≤ many_to_come (stored l.store) (drop l.equation-index l.equations)) ↔ (l.many ≤ many_to_come (stored l.store) l.equations)
