use Rattle.std.proofs.Common.{◌≡◌, ◌⊎◌, ◌↔◌, ◌∙◌, ◌++◌, ℕ, List, Contains, get_or, ap, subst, sym, append_assoc}
use Rattle.std.proofs.lemmas.List.{drop_all}
use Rattle.mz_logic_theory.specs.Tree.{operand, var}
use Rattle.mz_logic_theory.specs.Variables.{IsBoundAt, IsOperandAt}
use Rattle.mz_logic_theory.proofs.Offered.{same-variable}
use Rattle.mz_logic_free.proofs.Walking.{reaches-step, reaches-end, one-place, no-place}
use Rattle.mz_logic_free.proofs.free.add_bound_operands.Goals as goal
use Rattle.mz_logic_free.proofs.free.add_bound_operands.Goals.{in-Some+in_ok-add, in_default}

pub loop-place-preserved : goal.loop-place-preserved
loop-place-preserved c =
    let items : List ℕ = c.as_slice-place-items.result.now in
    let P : ℕ → ℕ → Type 0 = λ j x. IsBoundAt c.args.params.now j × (operand c.args.es.now j ≡ var x) in
    let W : ℕ → Type 0 = λ x. Contains c.args.variables.now x ⊎ IsOperandAt c.args.params.now c.args.es.now c.args.places.now x in
    let p = get_or items c.loop-place.place-index 0 in
    elim c.match-borrowed_bound_operand.branch [
      | in-Some+in_ok-add w ↦ (
          let New : ℕ → Type 0 = Contains c.match-borrowed_bound_operand.variables in
          let (first, grown) = c.loop-place.invariant.grows in
          let (more, added) = w.in_ok-add.ensures.grows in
          let has = subst (λ (xs : List ℕ). (y : ℕ) → Contains xs y ↔ (Contains c.loop-place.variables y ⊎ (y ≡ w.in-Some.x))) (sym w.variables-is) w.in_ok-add.ensures.has in
          let step = one-place P (Contains c.loop-place.variables) New p w.in-Some.x w.in-Some.ensures (λ y at. same-variable y w.in-Some.x (sym at.1 ∙ w.in-Some.ensures.1)) has in
          record {
            grows = (first ++ more, w.variables-is ∙ added ∙ ap (λ xs. xs ++ more) grown ∙ append_assoc c.args.variables.now first more);
            has = reaches-step P (Contains c.loop-place.variables) New W items c.loop-place.place-index 0 c.loop-place-test.true c.loop-place.invariant.has step;
          })
      | in_default w ↦ (
          let New : ℕ → Type 0 = Contains c.match-borrowed_bound_operand.variables in
          let (first, grown) = c.loop-place.invariant.grows in
          let step = no-place P (Contains c.loop-place.variables) New p (λ y at. w.in_default.ensures y at.0 at.1)
          (λ y. (subst (λ (xs : List ℕ). Contains xs y) w.variables-is, subst (λ (xs : List ℕ). Contains xs y) (sym w.variables-is))) in
          record {
            grows = (first, w.variables-is ∙ grown);
            has = reaches-step P (Contains c.loop-place.variables) New W items c.loop-place.place-index 0 c.loop-place-test.true c.loop-place.invariant.has step;
          })
    ]

pub returns-clause-has : goal.returns-clause-has
returns-clause-has c =
    let items : List ℕ = c.as_slice-place-items.result.now in
    reaches-end (λ j x. IsBoundAt c.args.params.now j × (operand c.args.es.now j ≡ var x)) (Contains c.loop-place.variables) (λ x. Contains c.args.variables.now x ⊎ IsOperandAt c.args.params.now c.args.es.now c.args.places.now x)
    _ (drop_all c.loop-place.place-index items c.loop-place-test.false) c.loop-place.invariant.has
