-- Items taken from a stack, and put on it.
use Rattle.std.proofs.Common.{◌≡◌, ℕ, zero, suc, List, [], ◌∷◌, ◌++◌, Some, None, length, refl, ap, ◌∙◌, subst}
use Rattle.std.specs.Prelude.{slice_get, ◌-◌}
use Rattle.std.specs.Option.{option_map}
use Rattle.std.proofs.lemmas.Option.{slice_get-map}
use Rattle.std.proofs.lemmas.List.{map-append}
use Rattle.mz_pmachine_theory.specs.NodeIdentity.{Numbered}
use Rattle.mz_pmachine_unify.specs.Numbering.{Numbering, expr_of}
use Rattle.mz_store.specs.declared.item.Id.{Id}
use Rattle.mz_store.specs.declared.item.Item.{Item as Kept}
use Rattle.mz_machine_theory.specs.Profile.{Item, proof}
use Rattle.mz_pmachine_unify.specs.Stored.{exprs_at, item_at, items_at, IsItemIn, AreItemsIn}
use Rattle.mz_pmachine_unify.proofs.Offered.{items-in-left, items-in-right, items-push}
use Rattle.mz_pmachine.specs.OverNodes.{heap_at, state_at}
use Rattle.mz_machine.proofs.Offered.{last-splits, no-last}
use Rattle.mz_machine_theory.specs.Premises.{is_obligation}
use Rattle.mz_machine_env.specs.Items.{is_owed}
use Rattle.mz_store.specs.declared.item.Item.TheVariants.{Expr, Proof, Obligation, Conversion}

pub popped : (s : Numbering) (old new : List Kept) (x : Kept) → old ≡ new ++ x ∷ [] → AreItemsIn s old → IsItemIn s x × AreItemsIn s new
popped s old new x is h =
    let both : AreItemsIn s (new ++ x ∷ []) = subst (AreItemsIn s) is h in
    ((items-in-right s new (x ∷ []) both).0, items-in-left s new (x ∷ []) both)

pub items-popped : (s : Numbering) (old new : List Kept) (x : Kept) → old ≡ new ++ x ∷ [] → items_at s old ≡ item_at s x ∷ items_at s new
items-popped s old new x is = ap (items_at s) is ∙ items-push s new x

-- ---- the top

module _ (s : Numbering) where
  -- what is still to be shown is an obligation
  pub owed : (x : Kept) → is_obligation (item_at s x) ≡ is_owed x
  owed (Expr i) = refl
  owed (Proof i) = refl
  owed (Obligation i j) = refl
  owed (Conversion i j) = refl

  pub top-is : (xs : List Kept) (x : Kept) → slice_get xs (length xs - 1) ≡ Some x → (rest : List (Item Numbered)) × (items_at s xs ≡ item_at s x ∷ rest)
  top-is xs x h = let (front, is) = last-splits xs x h in (items_at s front, ap (items_at s) is ∙ items-push s front x)

  pub no-top : (xs : List Kept) → slice_get xs (length xs - 1) ≡ None → items_at s xs ≡ []
  no-top xs h = ap (items_at s) (no-last xs h)

  pub item-in-at : (xs : List Kept) (k : ℕ) (x : Kept) → AreItemsIn s xs → slice_get xs k ≡ Some x → IsItemIn s x
  item-in-at [] k x h at = absurd cc
  item-in-at (y ∷ ys) zero x h at = let same : y ≡ x = cc in rw (← same) h.0
  item-in-at (y ∷ ys) (suc k) x h at = item-in-at ys k x h.1 at

  pub item-at-heap : (xs : List Kept) (k : ℕ) (x : Kept) → slice_get xs k ≡ Some x → slice_get (heap_at s xs) k ≡ Some (item_at s x)
  item-at-heap xs k x at = slice_get-map (item_at s) xs k ∙ ap (option_map (item_at s)) at

  pub no-item-at-heap : (xs : List Kept) (k : ℕ) → slice_get xs k ≡ None → slice_get (heap_at s xs) k ≡ None
  no-item-at-heap xs k at = slice_get-map (item_at s) xs k ∙ ap (option_map (item_at s)) at

  pub heap-push : (xs : List Kept) (x : Kept) → heap_at s (xs ++ x ∷ []) ≡ heap_at s xs ++ item_at s x ∷ []
  heap-push xs x = map-append (item_at s) xs (x ∷ [])

  pub heap-pushed : (old new : List Kept) (x : Kept) → new ≡ old ++ x ∷ [] → heap_at s new ≡ heap_at s old ++ item_at s x ∷ []
  heap-pushed old new x is = ap (heap_at s) is ∙ heap-push old x

  -- the state with a hypothesis more
  pub assumed-state : (heap heap' stack : List Kept) (hyps hyps' : List Id) (claim : Id) → heap' ≡ heap ++ Proof claim ∷ [] → hyps' ≡ hyps ++ claim ∷ []
      → record { ctx = s.context; heap = heap_at s heap ++ proof (expr_of s claim.0) ∷ []; stack = items_at s stack; hyps = exprs_at s hyps ++ expr_of s claim.0 ∷ [] } ≡ state_at s heap' stack hyps'
  assumed-state heap heap' stack hyps hyps' claim more assumed = rw (more, assumed, heap-push heap (Proof claim), map-append (λ (i : Id). expr_of s i.0) hyps (claim ∷ [])) refl
