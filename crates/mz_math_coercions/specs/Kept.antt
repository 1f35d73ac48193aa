-- What is kept of coercions.
use Rattle.std.specs.Prelude.{◌≡◌, ℕ, Bool, List, true}
use Rattle.mz_math_theory.specs.declared.coercion.Coercion.{Coercion}
use Rattle.mz_math_theory.specs.Coercions.{OnePath}
use Rattle.mz_math_coercions.specs.declared.hops.FirstSteps.{FirstSteps}
use Rattle.mz_math_coercions.specs.Firsts.{AreLed}
use Rattle.mz_math_coercions.specs.Graph.{all_turned}
use Rattle.mz_math_coercions.specs.Groups.{AreGrouped}

-- there is one path at most, sorts between which one leads are in one group, and where it is said the first coercions of all paths are kept, and each coercion leads back
pub record AreKept (cs back : List Coercion) (ups : List ℕ) (firsts : FirstSteps) (is_led is_whole : Bool) : Type 0 where
  pub one : OnePath cs
  pub grouped : AreGrouped cs ups
  pub led : is_led ≡ true → AreLed cs firsts
  pub turned : is_whole ≡ true → back ≡ all_turned cs
