-- The body that is spelled is the given one, with its dummies in the order in which they are met.
use Rattle.std.proofs.Common.{◌≡◌, ℕ, zero, suc, ◌+◌, ◌<◌, false, List, [], ◌∷◌, ◌++◌, Some, refl, sym, ap, subst, ◌∙◌, inl, inr, arith, not-suc-le-zero, length-append}
use Rattle.std.specs.Prelude.{slice_get, Contains}
use Rattle.std.proofs.lemmas.List.Elements.{All-contains, Contains-append_right}
use Rattle.std.proofs.lemmas.List.{length-map}
use Rattle.std.proofs.lemmas.Option.{slice_get_within, get_or_from_slice_get}
use Rattle.mz_logic_theory.specs.Tree.{followed_by, variables}
use Rattle.mz_logic_theory.specs.Variables.{InSomeV, IsBoundAt}
use Rattle.mz_logic_theory.specs.Conversions.{IsBoundOf, AreFresh}
use Rattle.mz_logic_theory.specs.Legality.{Each, IsDummy, AreParams, binder_at}
use Rattle.mz_logic_theory.specs.declared.binder.Binder.{Binder}
use Rattle.mz_logic_theory.specs.declared.binder.SortMods.{SortMods}
use Rattle.mz_logic_theory.proofs.Offered.{extends_append, split_at, one_at}
use Rattle.mz_machine_theory.specs.Spells.{trees_of, variables_from, dummy_of}
use Rattle.mz_emit_theory.specs.SymbolicState.{name_in, from_to}
use Rattle.mz_emit_theory.specs.BodyLaws.{AreOnce}
use Rattle.mz_emit_theory.specs.AlphaEquivalence.{own}
use Rattle.mz_emit_theory.specs.StreamWriting.{writing_start, definition_written, spelled_dummies}
use Rattle.mz_emit_theory.specs.StreamLaws.{SpelledBodiesAreSame, SpelledBodiesAreInside}
use Rattle.mz_emit_theory.proofs.Marking.{place-below}
use Rattle.mz_emit_theory.proofs.Writes.{wrote}
use Rattle.mz_emit_theory.proofs.Own.{own-names, writing-right, operands-back, instance-back, own-long, occurs-back}

once-behind : (xs ys : List ℕ) → AreOnce (xs ++ ys) → AreOnce ys × ((y : ℕ) → Contains ys y → Contains xs y → ⊥)
once-behind [] ys once = (once, λ y h (k, lt, is). not-suc-le-zero lt)
once-behind (x ∷ xs) ys (out, once) =
    let (behind, apart) = once-behind xs ys once in
    (behind, λ y h h'. cases y h h' (apart y h))
  where
    cases : (y : ℕ) → Contains ys y → Contains (x ∷ xs) y → (Contains xs y → ⊥) → ⊥
    cases y h (zero, lt, is) apart = out (subst (Contains (xs ++ ys)) (sym is) (Contains-append_right xs ys y h))
    cases y h (suc k, lt, is) apart = apart (k, omega arith, is)

module _ (ss : List SortMods) (params dummies : List Binder) (right : AreParams ss params) (each : Each dummies (λ _ b. IsDummy b)) where
  abbrev ctx : List Binder
  ctx = params ++ dummies

  -- a parameter depends on parameters
  deps-own : (i : ℕ) (c : Binder) (y : ℕ) → slice_get params i ≡ Some c → c.bound ≡ false → Contains c.deps y → Contains (from_to 0 params) y
  deps-own i c y at regular has =
      let (j-lt, (d, d-at, _)) = All-contains (λ (j : ℕ). (j < i) × IsBoundAt params j) c.deps y ((right i c at).1 regular) has in
      (own-names params y (slice_get_within params y d d-at)).0

  own-places : (j : ℕ) (ps : List Binder) → ((i : ℕ) (b : Binder) → slice_get ps i ≡ Some b → slice_get params (j + i) ≡ Some b)
      → (y : ℕ) → (Contains (from_to 0 params) y → ⊥) → InSomeV ctx y (trees_of (variables_from j ps)) → ⊥
  own-places j [] at y out h = absurd h
  own-places j (p ∷ ps) at y out (inl (c, c-at, h)) =
      let there : slice_get params j ≡ Some p = ap (slice_get params) (plus-zero j) ∙ at 0 p refl in
      let c-is : p ≡ c = one_at (extends_append params dummies j p there) c-at in
      elim h [
        | inl (_, is) ↦ out (subst (Contains (from_to 0 params)) (sym is) (own-names params j (slice_get_within params j p there)).0)
        | inr (regular, has) ↦ out (deps-own j c y (there ∙ ap (λ (z : Binder). Some z) c-is) regular has)
      ]
    where
      plus-zero : (a : ℕ) → a ≡ a + 0
      plus-zero a = omega arith
  own-places j (p ∷ ps) at y out (inr h) = own-places (suc j) ps (λ i b b-at. ap (slice_get params) (shift j i) ∙ at (suc i) b b-at) y out h
    where
      shift : (a b : ℕ) → suc a + b ≡ a + suc b
      shift a b = omega arith

  bound-of : (y : ℕ) (b : Binder) → slice_get ctx y ≡ Some b → (Contains (from_to 0 params) y → ⊥) → IsBoundOf ctx y (binder_at ctx y).sort
  bound-of y b at out = elim (split_at params dummies y b at) [
    | inl here ↦ absurd (out (own-names params y (slice_get_within params y b here)).0)
    | inr (k, _, there) ↦ (b, at, (each k b there).0, sym (ap (λ (z : Binder). z.sort) (get_or_from_slice_get ctx y b _ at)))
  ]

  fresh : (ys : List ℕ) → AreOnce ys → ((y : ℕ) → Contains ys y → Contains (from_to 0 params) y → ⊥) → ((y : ℕ) → Contains ys y → (b : Binder) × (slice_get ctx y ≡ Some b))
      → AreFresh ctx (own params) ys (spelled_dummies ctx ys)
  fresh [] once out inside = tt
  fresh (y ∷ ys) (first, once) out inside =
      let here : Contains (y ∷ ys) y = (0, omega arith, refl) in
      let (b, at) = inside y here in (
        bound-of y b at (out y here),
        own-places 0 params (λ i c c-at. ap (slice_get params) (zero-plus i) ∙ c-at) y (out y here),
        first,
        fresh ys once (λ z (k, lt, is). out z (suc k, omega arith, is)) (λ z (k, lt, is). inside z (suc k, omega arith, is)),
      )
    where
      zero-plus : (a : ℕ) → 0 + a ≡ a
      zero-plus a = omega arith

pub bodies-inside : SpelledBodiesAreInside
bodies-inside sigs params dummies body (s, has) z o =
    let ctx' : List Binder = params ++ dummies in
    let first = wrote sigs ctx' (from_to 0 params) (writing_start params) (writing-right params ctx') body s has in
    let last : List ℕ = (definition_written params dummies body).after.dummies in
    let (x, h, name) = occurs-back (name_in (from_to 0 params ++ last)) body z o in
    let below = place-below (from_to 0 params ++ last) x (first.all x h) in
    let long = length-append (from_to 0 params) last in
    let own-is = own-long 0 params in
    let dummies-are = length-map last (λ (y : ℕ). dummy_of (binder_at ctx' y).sort) in
    omega (arith, name, below, long, own-is, dummies-are)

pub bodies-same : SpelledBodiesAreSame
bodies-same ss sigs params dummies body right each (s, has) =
    let ctx' : List Binder = params ++ dummies in
    let first = wrote sigs ctx' (from_to 0 params) (writing_start params) (writing-right params ctx') body s has in
    let last : List ℕ = (definition_written params dummies body).after.dummies in
    let (once, apart) = once-behind (from_to 0 params) last first.right.once in (
      last,
      fresh ss params dummies right each last once apart first.right.inside,
      sym (instance-back (followed_by (own params) (variables last)) (name_in (from_to 0 params ++ last)) body λ y o. operands-back params last y (first.all y o)),
      bodies-inside sigs params dummies body (s, has),
    )
