use Rattle.std.proofs.Common.{◌≡◌, ◌++◌, map, drop}
use Rattle.mz_spec_theory.specs.StatementCode.{group}
use Rattle.mz_spec_theory.specs.SpecCode.{stated}
use Rattle.mz_spec_theory.specs.View.{group_stated}
use Rattle.mz_spec_declarations.proofs.formulas.push_group_stated.Given as goal

abbrev pub invariant-loop-group : goal.invariant-loop-group
invariant-loop-group l = map stated l.stated.items ++ group_stated (map group (drop l.group-index l.groups)) ≡ map stated l.initial.stated.items ++ group_stated (map group l.groups)
