use Rattle.std.proofs.Common.{◌∙◌, ℕ, List, Contains, arith, refl, subst}
use Rattle.std.proofs.lemmas.Bool.{eqb-true, eq-eqb}
use Rattle.std.specs.Prelude.{MatchOption}
use Rattle.mz_math_coercions.specs.Reached.{Has}
use Rattle.mz_math_coercions.proofs.Walks.{found-in, looked}
use Rattle.mz_math_coercions.proofs.reached.Reached.place_to.Goals as goal

pub returns : goal.returns
returns c =
    let steps = c.self.inside.steps.items in
    let entries = c.self.inside.places.entries in
    let sort = c.args.sort in
    subst (λ (es : List (ℕ × ℕ)). MatchOption c.copied.result (Has es sort → ⊥) (λ p. Contains es (sort, p))) c.self.view_is
    (found-in entries steps sort c.copied.result (c.self.invariant (let many = c.if-len-le-FEW.false in let len = c.len.ensures in omega (arith, many, len)))
    (looked sort _ (λ k e. eqb-true sort k e) (eq-eqb sort sort refl) entries c.copied.result (c.copied.ensures ∙ c.get.ensures.value)))
