-- Items taken from a stack, and put on it.
use Rattle.std.proofs.Common.{◌≡◌, ℕ, zero, suc, true, List, [], ◌∷◌, ◌++◌, Option, Some, None, length, refl, sym, ap, ◌∙◌, subst, arith}
use Rattle.std.specs.Prelude.{slice_get, ◌-◌}
use Rattle.std.specs.Option.{option_map}
use Rattle.std.proofs.lemmas.Option.{slice_get-map}
use Rattle.std.proofs.lemmas.List.{map-append}
use Rattle.mz_logic_theory.specs.Tree.{Tree}
use Rattle.mz_store.specs.Sharing.{Sharing, tree_of}
use Rattle.mz_store.specs.declared.item.Id.{Id}
use Rattle.mz_store.specs.declared.item.Item.{Item as Kept}
use Rattle.mz_store.specs.declared.item.Item.TheVariants.{Expr, Proof, Obligation, Conversion}
use Rattle.mz_machine_theory.specs.Profile.{Item, proof}
use Rattle.mz_unify.specs.Stored.{item_at, items_at, trees_at, IsItemIn, AreItemsIn}
use Rattle.mz_unify.proofs.Offered.{items-in-left, items-in-right, items-push}
use Rattle.mz_machine_theory.specs.Premises.{is_conversion, is_obligation}
use Rattle.mz_machine.specs.Steps.{is_conversion_at}
use Rattle.mz_machine.specs.OverStore.{heap_at, state_at}
use Rattle.mz_machine_env.specs.Items.{is_owed}

pub popped : (s : Sharing) (old new : List Kept) (x : Kept) → old ≡ new ++ x ∷ [] → AreItemsIn s old → IsItemIn s x × AreItemsIn s new
popped s old new x is h =
    let both : AreItemsIn s (new ++ x ∷ []) = subst (AreItemsIn s) is h in
    ((items-in-right s new (x ∷ []) both).0, items-in-left s new (x ∷ []) both)

pub items-popped : (s : Sharing) (old new : List Kept) (x : Kept) → old ≡ new ++ x ∷ [] → items_at s old ≡ item_at s x ∷ items_at s new
items-popped s old new x is = ap (items_at s) is ∙ items-push s new x

-- ---- the top

one-less : (n : ℕ) → suc (suc n) - 1 ≡ suc (suc n - 1)
one-less n = omega arith

-- the last of a list
pub last-splits : {A : Type 0} (xs : List A) (x : A) → slice_get xs (length xs - 1) ≡ Some x → (front : List A) × (xs ≡ front ++ x ∷ [])
last-splits [] x h = absurd cc
last-splits (y ∷ []) x h = let same : y ≡ x = cc in ([], rw same refl)
last-splits (y ∷ z ∷ zs) x h =
    let (front, is) = last-splits (z ∷ zs) x (subst (λ n. slice_get (y ∷ z ∷ zs) n ≡ Some x) (one-less (length zs)) h) in
    (y ∷ front, ap (λ ws. y ∷ ws) is)

pub no-last : {A : Type 0} (xs : List A) → slice_get xs (length xs - 1) ≡ None → xs ≡ []
no-last [] h = refl
no-last (y ∷ []) h = absurd cc
no-last (y ∷ z ∷ zs) h =
    let none : z ∷ zs ≡ [] = no-last (z ∷ zs) (subst (λ n. slice_get (y ∷ z ∷ zs) n ≡ None) (one-less (length zs)) h) in
    absurd cc

module _ (s : Sharing) where
  -- what is still to be shown is an obligation
  pub owed : (x : Kept) → is_obligation (item_at s x) ≡ is_owed x
  owed (Expr i) = refl
  owed (Proof i) = refl
  owed (Obligation i j) = refl
  owed (Conversion i j) = refl

  pub top-is : (xs : List Kept) (x : Kept) → slice_get xs (length xs - 1) ≡ Some x → (rest : List (Item Tree)) × (items_at s xs ≡ item_at s x ∷ rest)
  top-is xs x h = let (front, is) = last-splits xs x h in (items_at s front, ap (items_at s) is ∙ items-push s front x)

  pub no-top : (xs : List Kept) → slice_get xs (length xs - 1) ≡ None → items_at s xs ≡ []
  no-top xs h = ap (items_at s) (no-last xs h)

  pub item-in-at : (xs : List Kept) (k : ℕ) (x : Kept) → AreItemsIn s xs → slice_get xs k ≡ Some x → IsItemIn s x
  item-in-at [] k x h at = absurd cc
  item-in-at (y ∷ ys) zero x h at = let same : y ≡ x = cc in rw (← same) h.0
  item-in-at (y ∷ ys) (suc k) x h at = item-in-at ys k x h.1 at

  pub item-at-heap : (xs : List Kept) (k : ℕ) (x : Kept) → slice_get xs k ≡ Some x → slice_get (heap_at s xs) k ≡ Some (item_at s x)
  item-at-heap xs k x at = slice_get-map (item_at s) xs k ∙ ap (option_map (item_at s)) at

  pub no-item-at-heap : (xs : List Kept) (k : ℕ) → slice_get xs k ≡ None → slice_get (heap_at s xs) k ≡ None
  no-item-at-heap xs k at = slice_get-map (item_at s) xs k ∙ ap (option_map (item_at s)) at

  pub heap-push : (xs : List Kept) (x : Kept) → heap_at s (xs ++ x ∷ []) ≡ heap_at s xs ++ item_at s x ∷ []
  heap-push xs x = map-append (item_at s) xs (x ∷ [])

  pub heap-pushed : (old new : List Kept) (x : Kept) → new ≡ old ++ x ∷ [] → heap_at s new ≡ heap_at s old ++ item_at s x ∷ []
  heap-pushed old new x is = ap (heap_at s) is ∙ heap-push old x

  -- the state with a hypothesis more
  pub assumed-state : (heap heap' stack : List Kept) (hyps hyps' : List Id) (claim : Id) → heap' ≡ heap ++ Proof claim ∷ [] → hyps' ≡ hyps ++ claim ∷ []
      → record { ctx = s.context; heap = heap_at s heap ++ proof (tree_of s claim.0) ∷ []; stack = items_at s stack; hyps = trees_at s hyps ++ tree_of s claim.0 ∷ [] } ≡ state_at s heap' stack hyps'
  assumed-state heap heap' stack hyps hyps' claim more assumed = rw (more, assumed, heap-push heap (Proof claim), map-append (λ (i : Id). tree_of s i.0) hyps (claim ∷ [])) refl

  pub conversion-there : (xs : List Kept) (k : ℕ) → is_conversion_at (slice_get (heap_at s xs) k) ≡ true → (l : Id) × (r : Id) × (slice_get xs k ≡ Some (Conversion l r))
  conversion-there xs k h = go (slice_get xs k) refl
    where
      sides-of : (x : Kept) → slice_get xs k ≡ Some x → is_conversion (item_at s x) ≡ true → (l : Id) × (r : Id) × (slice_get xs k ≡ Some (Conversion l r))
      sides-of (Expr i) at is = absurd cc
      sides-of (Proof i) at is = absurd cc
      sides-of (Obligation i j) at is = absurd cc
      sides-of (Conversion i j) at is = (i, j, at)

      go : (o : Option Kept) → slice_get xs k ≡ o → (l : Id) × (r : Id) × (slice_get xs k ≡ Some (Conversion l r))
      go None at = absurd (let no : is_conversion_at None ≡ true = sym (ap is_conversion_at (no-item-at-heap xs k at)) ∙ h in cc)
      go (Some x) at = sides-of x at (sym (ap is_conversion_at (item-at-heap xs k x at)) ∙ h)
