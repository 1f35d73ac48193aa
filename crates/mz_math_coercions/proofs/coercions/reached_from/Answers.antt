use Rattle.std.proofs.Common.{◌↔◌, ◌∷◌, [], ℕ, List, refl, subst}
use Rattle.mz_math_theory.specs.declared.coercion.Coercion.{Coercion}
use Rattle.mz_math_theory.specs.CoercionAnswers.{HasPath}
use Rattle.mz_math_coercions.specs.Reached.{Has}
use Rattle.mz_math_coercions.proofs.Walks.{from-one}
use Rattle.mz_math_coercions.proofs.coercions.reached_from.Goals as goal

pub returns : goal.returns
returns c =
    subst (λ (cs : List Coercion). (t : ℕ) → Has c.walk_from.new.reached t ↔ HasPath cs c.args.from t) c.coercions.view_is
    (from-one c.coercions.inside.graph c.args.from 0 ((c.args.from, 0) ∷ []) c.walk_from.new.reached refl c.in_ok-walk_from.ensures)
