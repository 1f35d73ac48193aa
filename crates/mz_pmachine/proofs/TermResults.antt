-- Operands of terms over nodes, and nodes that grow.
use Rattle.std.proofs.Common.{◌≡◌, ◌<◌, ℕ, List, [], ◌∷◌, ◌++◌, Ok, length, map, refl, sym, ap, ◌∙◌, subst, arith}
use Rattle.mz_logic_theory.specs.Signature.{Signature}
use Rattle.mz_logic_theory.specs.Words.{binders_of, signatures_of as signatures_by}
use Rattle.mz_layout_tables.specs.Tables.{term_row}
use Rattle.mz_store.specs.Sharing.{CanTake}
use Rattle.mz_pmachine_unify.specs.Numbering.{Numbering, Entry, expr_of, IsIn, AreIn, IsOver, KeepsIds, trees_of as trees_in}
use Rattle.mz_store.specs.declared.item.Id.{Id}
use Rattle.mz_store.specs.declared.item.Item.{Item as Kept}
use Rattle.mz_store.specs.declared.item.Item.TheVariants.{Expr, Proof, Obligation, Conversion}
use Rattle.mz_machine_theory.specs.Sorted.{AllSorted}
use Rattle.mz_machine_theory.specs.Profile.{expr, proof}
use Rattle.mz_pmachine_unify.specs.Stored.{exprs_at, trees_at, item_at, items_at, IsItemIn, AreItemsIn}
use Rattle.std.specs.Prelude.{reverse}
use Rattle.std.proofs.lemmas.List.{append-nil, reverse-append}
use Rattle.mz_pmachine_unify.proofs.Offered.{items-in-both, still-in, length-trees, trees-of, entry-kept}
use Rattle.mz_machine_theory.specs.Premises.{operands_fit}
use Rattle.mz_machine_env.specs.Before.{Before, signatures_of, words_before}
use Rattle.mz_machine.proofs.Offered.{can-stand, no-dummies}
use Rattle.mz_pmachine.specs.OverNodes.{heap_at, state_at, Grows}
use Rattle.mz_pmachine.proofs.Popping.{heap-push}
use Rattle.mz_machine_env.proofs.Offered.{signatures-before}

-- ---- trees of nodes

pub sorted-ids : (sigs : List Signature) (s : Numbering) (is : List Id) → IsOver sigs s → AreIn s is → AllSorted sigs s.context (trees_at s is)
sorted-ids sigs s [] over h = tt
sorted-ids sigs s (i ∷ is) over h = ((_, (over i.0 h.0).0.0), sorted-ids sigs s is over h.1)

-- operands that fit can stand under the term
pub can-take : (b : Before) (s : Numbering) (t : ℕ) (is : List Id) → t < b.rows.terms → IsOver (signatures_of b) s → AreIn s is
    → length is ≡ length (term_row b.file t).words.params
    → operands_fit (signatures_of b) s.context (trees_at s is) (binders_of (term_row b.file t).words.params) ≡ Ok tt
    → CanTake (words_before b) s.context t (trees_in s is)
can-take b s t is below over inside many fit =
    can-stand b s.context t (trees_at s is) (trees_in s is) below (sorted-ids (signatures_of b) s is over inside) (length-trees s is ∙ many) fit (trees-of s is)

pub over-words : (b : Before) (s : Numbering) → IsOver (signatures_of b) s → IsOver (signatures_by (words_before b)) s
over-words b s over = subst (λ sigs. IsOver sigs s) (sym (signatures-before b)) over

pub over-rows : (b : Before) (s : Numbering) → IsOver (signatures_by (words_before b)) s → IsOver (signatures_of b) s
over-rows b s over = subst (λ sigs. IsOver sigs s) (signatures-before b) over

-- ---- nodes that grow

items-in-reverse : (s : Numbering) (xs : List Kept) → AreItemsIn s xs → AreItemsIn s (reverse xs)
items-in-reverse s [] h = tt
items-in-reverse s (x ∷ xs) h = rw (reverse-append (x ∷ []) xs) (items-in-both s (reverse xs) (x ∷ []) (items-in-reverse s xs h.1) (h.0, tt))

pub expr-kept : (s s' : Numbering) → KeepsIds s s' → (i : ℕ) → IsIn s i → expr_of s' i ≡ expr_of s i
expr-kept s s' (last, are, few) i h = ap (λ (e : Entry). e.expr) (entry-kept s s' (last, are) i h)

module _ (s s' : Numbering) (keeps : KeepsIds s s') where
  pub in-kept : (i : ℕ) → IsIn s i → IsIn s' i
  in-kept i h = still-in s s' keeps i h

  pub item-kept : (x : Kept) → IsItemIn s x → item_at s' x ≡ item_at s x
  item-kept (Expr i) h = ap expr (expr-kept s s' keeps i.0 h)
  item-kept (Proof i) h = ap proof (expr-kept s s' keeps i.0 h)
  item-kept (Obligation i j) h = rw (expr-kept s s' keeps i.0 h.0, expr-kept s s' keeps j.0 h.1) refl
  item-kept (Conversion i j) h = rw (expr-kept s s' keeps i.0 h.0, expr-kept s s' keeps j.0 h.1) refl

  pub item-still : (x : Kept) → IsItemIn s x → IsItemIn s' x
  item-still (Expr i) h = in-kept i.0 h
  item-still (Proof i) h = in-kept i.0 h
  item-still (Obligation i j) h = (in-kept i.0 h.0, in-kept j.0 h.1)
  item-still (Conversion i j) h = (in-kept i.0 h.0, in-kept j.0 h.1)

  pub items-still : (xs : List Kept) → AreItemsIn s xs → AreItemsIn s' xs
  items-still [] h = tt
  items-still (x ∷ xs) h = (item-still x h.0, items-still xs h.1)

  pub heap-kept : (xs : List Kept) → AreItemsIn s xs → map (item_at s') xs ≡ map (item_at s) xs
  heap-kept [] h = refl
  heap-kept (x ∷ xs) h = rw (item-kept x h.0, heap-kept xs h.1) refl

  pub items-kept : (xs : List Kept) → AreItemsIn s xs → items_at s' xs ≡ items_at s xs
  items-kept xs h = heap-kept (reverse xs) (items-in-reverse s xs h)

  pub hyps-kept : (is : List Id) → AreIn s is → exprs_at s' is ≡ exprs_at s is
  hyps-kept [] h = refl
  hyps-kept (i ∷ is) h = rw (expr-kept s s' keeps i.0 h.0, hyps-kept is h.1) refl

  -- the state behind a command that has made one expression more, and kept it in the heap
  pub saved-state : (heap new stack : List Kept) (hyps : List Id) (x : Kept) → s'.context ≡ s.context → new ≡ heap ++ x ∷ [] → AreItemsIn s heap → AreIn s hyps
      → record { ctx = s.context; heap = heap_at s heap ++ item_at s' x ∷ []; stack = items_at s' stack; hyps = exprs_at s hyps } ≡ state_at s' new stack hyps
  saved-state heap new stack hyps x context is inside among = rw (is, heap-push s' heap x, context, heap-kept heap inside, hyps-kept hyps among) refl

-- nodes that stay as they are
pub grows-not : (sigs : List Signature) (s : Numbering) → IsOver sigs s → Grows sigs s s
grows-not sigs s over = record { keeps = ([], sym (append-nil s.entries), omega arith); over = over; mode = refl; context = ([], sym (append-nil s.context), no-dummies) }
