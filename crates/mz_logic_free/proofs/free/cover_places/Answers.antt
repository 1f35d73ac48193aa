use Rattle.std.proofs.Common.{◌≡◌, ◌⊎◌, ℕ, List, Contains, refl, subst, sym, inl, inr}
use Rattle.std.proofs.lemmas.List.{drop_all}
use Rattle.mz_logic_free.proofs.Walking.{Reaches, reaches-step, reaches-end}
use Rattle.mz_logic_free.proofs.free.cover_places.Goals as goal

pub loop-place-preserved : goal.loop-place-preserved
loop-place-preserved c =
    let items : List ℕ = c.as_slice-place-items.result.now in
    let W : ℕ → Type 0 = λ x. Contains c.args.variables.now x ⊎ Reaches (λ j y. y ≡ j) c.args.places.now x in
    reaches-step (λ j y. y ≡ j) (Contains c.loop-place.variables) (Contains c.add.new.self) W items c.loop-place.place-index 0
    c.loop-place-test.true c.loop-place.invariant c.in_ok-add.ensures.has

pub returns : goal.returns
returns c = λ x.
    let items : List ℕ = c.as_slice-place-items.result.now in
    let W : ℕ → Type 0 = λ y. Contains c.args.variables.now y ⊎ Reaches (λ j y. y ≡ j) c.args.places.now y in
    let ends = reaches-end (λ j y. y ≡ j) (Contains c.loop-place.variables) W _
    (drop_all c.loop-place.place-index items c.loop-place-test.false) c.loop-place.invariant x in (
      λ h. elim (ends.0 h) [ inl had ↦ inl had | inr (j, has, is) ↦ inr (subst (Contains c.args.places.now) (sym is) has) ],
      λ h. ends.1 (elim h [ inl had ↦ inl had | inr here ↦ inr (x, here, refl) ]),
    )
