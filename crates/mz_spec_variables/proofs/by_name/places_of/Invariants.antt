use Rattle.std.proofs.Common.{map}
use Rattle.mz_spec_variables.specs.Code.{variable}
use Rattle.mz_spec_variables.specs.Index.{IsIndexUpTo}
use Rattle.mz_spec_variables.proofs.by_name.places_of.Given as goal

abbrev pub invariant-loop-i : goal.invariant-loop-i
invariant-loop-i l = IsIndexUpTo l.i (map variable l.variables) l.places
