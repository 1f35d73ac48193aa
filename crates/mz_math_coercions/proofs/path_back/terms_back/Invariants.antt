use Rattle.std.proofs.Common.{◌≡◌, ◌++◌, ℕ, length, map, reverse}
use Rattle.mz_math_theory.specs.Coercions.{IsPath, coercion_term}
use Rattle.mz_math_coercions.proofs.path_back.terms_back.Given as goal

abbrev pub invariant-steps : goal.invariant-steps
invariant-steps l = record {
  rest : (from to : ℕ) × IsPath l.items from (reverse l.left.items) to;
  so_far : l.terms.items ++ map (coercion_term l.items) (reverse l.left.items) ≡ map (coercion_term l.items) (reverse l.fn.places.items);
}

abbrev pub decreases-steps : goal.decreases-steps
decreases-steps l = length l.left.items
