use Rattle.std.proofs.Common.{◌≡◌, ◌++◌, map, drop}
use Rattle.mz_spec_theory.specs.StatementCode.{lexeme}
use Rattle.mz_spec_variables.specs.Index.{found_in}
use Rattle.mz_spec_variables.proofs.by_name.places_found.Given as goal

abbrev pub invariant-loop-dep : goal.invariant-loop-dep
invariant-loop-dep l = l.found.items ++ found_in l.places (map lexeme (drop l.dep-index l.deps)) ≡ found_in l.places (map lexeme l.deps)
