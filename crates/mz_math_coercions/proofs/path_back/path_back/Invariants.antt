use Rattle.std.proofs.Common.{◌-◌, length, reverse}
use Rattle.mz_math_theory.specs.Coercions.{IsPath}
use Rattle.mz_math_coercions.specs.Reached.{Has}
use Rattle.mz_math_coercions.proofs.path_back.path_back.Given as goal

abbrev pub invariant-steps : goal.invariant-steps
invariant-steps l = record {
  here : Has l.reached l.sort;
  rest : IsPath l.items l.sort (reverse l.places.items) l.to;
}

abbrev pub decreases-steps : goal.decreases-steps
decreases-steps l = length l.items - length l.places.items
