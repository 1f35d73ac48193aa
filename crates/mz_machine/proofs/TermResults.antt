-- Operands of terms over a store, and a store that grows.
use Rattle.std.proofs.Common.{◌≡◌, ◌<◌, ℕ, List, [], ◌∷◌, ◌++◌, Ok, length, map, refl, sym, ap, ◌∙◌, subst}
use Rattle.mz_logic_theory.specs.Signature.{Signature}
use Rattle.mz_logic_theory.specs.Words.{binders_of, signatures_of as signatures_by}
use Rattle.mz_layout_tables.specs.Tables.{term_row}
use Rattle.mz_store.specs.Sharing.{Sharing, tree_of, IsIn, AreIn, IsOver, KeepsIds, CanTake, trees_of as trees_in}
use Rattle.mz_store.specs.declared.item.Id.{Id}
use Rattle.mz_store.specs.declared.item.Item.{Item as Kept}
use Rattle.mz_store.specs.declared.item.Item.TheVariants.{Expr, Proof, Obligation, Conversion}
use Rattle.mz_machine_theory.specs.Spells.{trees_of}
use Rattle.mz_machine_theory.specs.Sorted.{AllSorted}
use Rattle.mz_logic_theory.specs.Tree.{Tree}
use Rattle.mz_machine_theory.specs.Profile.{expr, proof}
use Rattle.mz_unify.specs.Stored.{trees_at, item_at, items_at, IsItemIn, AreItemsIn}
use Rattle.std.specs.Prelude.{reverse}
use Rattle.std.proofs.lemmas.List.{length-map, reverse-append}
use Rattle.mz_unify.proofs.Offered.{items-in-both, items-push, still-in}
use Rattle.mz_machine_theory.specs.MachineState.{State}
use Rattle.mz_machine_theory.specs.Premises.{operands_fit}
use Rattle.mz_machine_env.specs.Before.{Before, signatures_of, words_before}
use Rattle.mz_machine.specs.OverStore.{heap_at, state_at}
use Rattle.mz_machine.proofs.Popping.{heap-push}
use Rattle.mz_machine.proofs.TermRows.{can-stand}
use Rattle.mz_machine_env.proofs.Offered.{signatures-before}
use Rattle.mz_store.proofs.Offered.{old-ids-keep-trees}

pub map-same : {A : Type 0} (xs : List A) → map (λ (x : A). x) xs ≡ xs
map-same [] = refl
map-same (x ∷ xs) = ap (λ ys. x ∷ ys) (map-same xs)

-- ---- trees of a store

pub same-trees : (s : Sharing) (is : List Id) → trees_of (trees_at s is) ≡ trees_in s is
same-trees s [] = refl
same-trees s (i ∷ is) = rw (same-trees s is) refl

pub sorted-ids : (sigs : List Signature) (s : Sharing) (is : List Id) → IsOver sigs s → AreIn s is → AllSorted sigs s.context (trees_at s is)
sorted-ids sigs s [] over h = tt
sorted-ids sigs s (i ∷ is) over h = ((_, (over i.0 h.0).0), sorted-ids sigs s is over h.1)

-- operands that fit can stand under the term
pub can-take : (b : Before) (s : Sharing) (t : ℕ) (is : List Id) → t < b.rows.terms → IsOver (signatures_of b) s → AreIn s is
    → length is ≡ length (term_row b.file t).words.params
    → operands_fit (signatures_of b) s.context (trees_at s is) (binders_of (term_row b.file t).words.params) ≡ Ok tt
    → CanTake (words_before b) s.context t (trees_in s is)
can-take b s t is below over inside many fit =
    can-stand b s.context t (trees_at s is) (trees_in s is) below (sorted-ids (signatures_of b) s is over inside) (length-map is (λ (i : Id). tree_of s i.0) ∙ many) fit (same-trees s is)

pub over-words : (b : Before) (s : Sharing) → IsOver (signatures_of b) s → IsOver (signatures_by (words_before b)) s
over-words b s over = subst (λ sigs. IsOver sigs s) (sym (signatures-before b)) over

pub over-rows : (b : Before) (s : Sharing) → IsOver (signatures_by (words_before b)) s → IsOver (signatures_of b) s
over-rows b s over = subst (λ sigs. IsOver sigs s) (signatures-before b) over

-- ---- a store that grows

items-in-reverse : (s : Sharing) (xs : List Kept) → AreItemsIn s xs → AreItemsIn s (reverse xs)
items-in-reverse s [] h = tt
items-in-reverse s (x ∷ xs) h = rw (reverse-append (x ∷ []) xs) (items-in-both s (reverse xs) (x ∷ []) (items-in-reverse s xs h.1) (h.0, tt))

pub tree-kept : (s s' : Sharing) → KeepsIds s s' → (i : ℕ) → IsIn s i → tree_of s' i ≡ tree_of s i
tree-kept s s' keeps i h = (old-ids-keep-trees s s' keeps i h).1

module _ (s s' : Sharing) (keeps : KeepsIds s s') where
  pub in-kept : (i : ℕ) → IsIn s i → IsIn s' i
  in-kept i h = still-in s s' keeps i h

  pub item-kept : (x : Kept) → IsItemIn s x → item_at s' x ≡ item_at s x
  item-kept (Expr i) h = ap expr (tree-kept s s' keeps i.0 h)
  item-kept (Proof i) h = ap proof (tree-kept s s' keeps i.0 h)
  item-kept (Obligation i j) h = rw (tree-kept s s' keeps i.0 h.0, tree-kept s s' keeps j.0 h.1) refl
  item-kept (Conversion i j) h = rw (tree-kept s s' keeps i.0 h.0, tree-kept s s' keeps j.0 h.1) refl

  pub item-still : (x : Kept) → IsItemIn s x → IsItemIn s' x
  item-still (Expr i) h = in-kept i.0 h
  item-still (Proof i) h = in-kept i.0 h
  item-still (Obligation i j) h = (in-kept i.0 h.0, in-kept j.0 h.1)
  item-still (Conversion i j) h = (in-kept i.0 h.0, in-kept j.0 h.1)

  pub items-still : (xs : List Kept) → AreItemsIn s xs → AreItemsIn s' xs
  items-still [] h = tt
  items-still (x ∷ xs) h = (item-still x h.0, items-still xs h.1)

  pub heap-kept : (xs : List Kept) → AreItemsIn s xs → map (item_at s') xs ≡ map (item_at s) xs
  heap-kept [] h = refl
  heap-kept (x ∷ xs) h = rw (item-kept x h.0, heap-kept xs h.1) refl

  pub items-kept : (xs : List Kept) → AreItemsIn s xs → items_at s' xs ≡ items_at s xs
  items-kept xs h = heap-kept (reverse xs) (items-in-reverse s xs h)

  pub hyps-kept : (is : List Id) → AreIn s is → trees_at s' is ≡ trees_at s is
  hyps-kept [] h = refl
  hyps-kept (i ∷ is) h = rw (tree-kept s s' keeps i.0 h.0, hyps-kept is h.1) refl

  -- the state behind a command that has put an item on the stack
  pub put-state : (heap below stack : List Kept) (hyps : List Id) (x : Kept) → s'.context ≡ s.context → stack ≡ below ++ x ∷ [] → AreItemsIn s heap → AreIn s hyps
      → ◌≡◌ {A = State Tree} (record { ctx = s.context; heap = heap_at s heap; stack = item_at s' x ∷ items_at s' below; hyps = trees_at s hyps }) (state_at s' heap stack hyps)
  put-state heap below stack hyps x context put inside among = rw (put, items-push s' below x, context, heap-kept heap inside, hyps-kept hyps among) refl

  -- and in the heap too
  pub saved-state : (heap more below stack : List Kept) (hyps : List Id) (x : Kept) → s'.context ≡ s.context → more ≡ heap ++ x ∷ [] → stack ≡ below ++ x ∷ [] → AreItemsIn s heap → AreIn s hyps
      → ◌≡◌ {A = State Tree} (record { ctx = s.context; heap = heap_at s heap ++ item_at s' x ∷ []; stack = item_at s' x ∷ items_at s' below; hyps = trees_at s hyps }) (state_at s' more stack hyps)
  saved-state heap more below stack hyps x context is put inside among = rw (is, put, items-push s' below x, heap-push s' heap x, context, heap-kept heap inside, hyps-kept hyps among) refl

  -- behind a Dummy the context has one variable more
  pub dummy-state : (heap heap' stack stack' : List Kept) (hyps : List Id) (i : Id) → heap' ≡ heap ++ Expr i ∷ [] → stack' ≡ stack ++ Expr i ∷ [] → AreItemsIn s heap → AreItemsIn s stack → AreIn s hyps
      → record { ctx = s'.context; heap = heap_at s heap ++ expr (tree_of s' i.0) ∷ []; stack = expr (tree_of s' i.0) ∷ items_at s stack; hyps = trees_at s hyps } ≡ state_at s' heap' stack' hyps
  dummy-state heap heap' stack stack' hyps i more put inside below among =
      rw (more, put, heap-push s' heap (Expr i), items-push s' stack (Expr i), heap-kept heap inside, items-kept stack below, hyps-kept hyps among) refl
