-- A term is looked for and put in at once.
use Rattle.std.proofs.Common.{ℕ, ◌≡◌, ◌<◌, ◌+◌, List, [], ◌∷◌, length, Option, Some, None, Result, Ok, Err, IfOk, OnErr, inl, inr, refl, ap, sym, ◌∙◌, subst, arith, append-nil}
use Rattle.mz_logic_theory.specs.Tree.{app}
use Rattle.mz_logic_theory.specs.Words.{TermWords, term_at, word_sort, signatures_of}
use Rattle.mz_store.specs.Bits.{Tells, bound_vars}
use Rattle.mz_store.specs.Sharing.{Sharing, Shared, AreIn, Holds, KeepsIds, trees_of, IsOver, DependsOn, CanTake}
use Rattle.mz_store.specs.Nodes.{Made, all_made, application, entered}
use Rattle.mz_store.specs.Chains.{IsChain, IsNode}
use Rattle.mz_store.specs.Kept.{shared_by, named, IsAdded, HasMore}
use Rattle.mz_store.specs.Tables.{bucket_of, newest_of, IsPut}
use Rattle.mz_store.specs.Placed.{IsPlaced}
use Rattle.mz_store.specs.declared.item.Id.{Id}
use Rattle.mz_store.specs.declared.node.Node.{Node}
use Rattle.mz_store.specs.declared.node.Application.{Application as Term}
use Rattle.mz_store.specs.declared.expressions.Expressions.{Expressions}
use Rattle.mz_store.specs.declared.table.Table.{Table}
use Rattle.mz_store.proofs.Growing.{entry-new, last-in}
use Rattle.mz_store.proofs.Adding.{Keeps, term-view, add-kept, more-view, more-kept, found-holds, missing-holds}
use Rattle.mz_store.proofs.OverTerms.{over-term}
use Rattle.mz_store.proofs.Tabled.{table-lies}

-- what a store of these expressions and this table keeps
abbrev pub Has : Table → Expressions → Type 0
Has table e = Keeps table e.mode e.bound_count e.operands.items e.nodes.items

same-modes : (table : Table) (e e' : Expressions) → e'.mode ≡ e.mode → e'.bound_count ≡ e.bound_count → Keeps table e.mode e.bound_count e'.operands.items e'.nodes.items → Has table e'
same-modes table e e' mode-is count-is keeps =
    subst (λ m. Keeps table m e'.bound_count e'.operands.items e'.nodes.items) (sym mode-is)
    (subst (λ k. Keeps table e.mode k e'.operands.items e'.nodes.items) (sym count-is) keeps)

-- ---- a term is added

-- the last node's operands and what it comes after
abbrev term-of : Expressions → ℕ → List Id → Option Id → Term
term-of e t is earlier = record { head = t; from = length e.operands.items; to = length e.operands.items + length is; earlier = named (length e.nodes.items) earlier }

pub placed-kept : (table table' : Table) (terms : List TermWords) (e e' : Expressions) (v : Sharing) (t : ℕ) (is : List Id) (earlier : Option Id) (bucket : ℕ) (id : Id)
    → Has table e → shared_by e ≡ v → IsAdded terms e t is earlier e' → AreIn v is → ((i : ℕ) → Holds v i (app t (trees_of v is)) → ⊥)
    → bucket ≡ bucket_of table.factor (length table.buckets.items) t is → earlier ≡ newest_of table bucket → id.0 ≡ length e.nodes.items
    → bucket < length table.buckets.items → IsPut table bucket id table' → Has table' e'
placed-kept table table' terms e e' v t is earlier bucket id keeps view (deps, tells, os-are, nodes-are, mode-is, count-is) there fresh bucket-is earlier-is place within put =
    same-modes table' e e' mode-is count-is
    (add-kept table table' e.mode e.bound_count e.operands.items e'.operands.items is e.nodes.items e'.nodes.items (word_sort (term_at terms t).result) deps (term-of e t is earlier) v bucket id
    keeps view os-are refl refl nodes-are there fresh bucket-is (ap (named (length e.nodes.items)) earlier-is) place within put)

pub placed-new : (table : Table) (terms : List TermWords) (e e' : Expressions) (v : Sharing) (t : ℕ) (is : List Id) (earlier : Option Id) (id : Id)
    → Has table e → shared_by e ≡ v → IsAdded terms e t is earlier e' → IsOver (signatures_of terms) v → CanTake terms v.context t (trees_of v is)
    → id.0 ≡ length e.nodes.items → IsPlaced terms v t is id (shared_by e')
placed-new table terms e e' v t is earlier id (kept, known) view (deps, tells, os-are, nodes-are, mode-is, count-is) over fit place =
    inr (
      word_sort (term_at terms t).result,
      deps,
      now-is,
      place ∙ sym kept.many ∙ ap (λ s. length s.entries) view,
      subst (IsOver (signatures_of terms)) (sym now-is)
          (over-term terms v t is (word_sort (term_at terms t).result) deps over fit refl
          (subst (λ s. Tells (bound_vars s.context) deps (DependsOn s.mode (signatures_of terms) s.context (app t (trees_of s is)))) view tells)),
    )
  where
    now-is : shared_by e' ≡ entered v (record { sort = word_sort (term_at terms t).result; deps = deps; form = application t is })
    now-is = ap (λ m. shared_by (record e' { mode = m })) mode-is
        ∙ term-view e.mode e.operands.items e'.operands.items is e.nodes.items e'.nodes.items (word_sort (term_at terms t).result) deps (term-of e t is earlier) v
        (table-lies table e.operands.items e.nodes.items known) view os-are refl refl nodes-are

-- ---- no memory

pub left-kept : (table : Table) (e e' : Expressions) → Has table e → HasMore e e' → Has table e'
left-kept table e e' keeps (more, os-are, nodes-are, mode-is, count-is) =
    same-modes table e e' mode-is count-is (more-kept table e.mode e.bound_count e.operands.items e'.operands.items more e.nodes.items e'.nodes.items keeps os-are nodes-are)

pub left-same : (table : Table) (e e' : Expressions) (v : Sharing) → Has table e → shared_by e ≡ v → HasMore e e' → shared_by e' ≡ v
left-same table e e' v (_, known) view (more, os-are, nodes-are, mode-is, count-is) =
    ap (λ m. shared_by (record e' { mode = m })) mode-is
    ∙ more-view e.mode e.operands.items e'.operands.items more e.nodes.items e'.nodes.items v (table-lies table e.operands.items e.nodes.items known) view os-are nodes-are

-- ---- what the table names, and what was found along the chain, or wasn't

pub chain-here : (table : Table) (e : Expressions) (t : ℕ) (is os : List Id) (nodes : List Node) (first : Option Id) (bucket : ℕ)
    → Has table e → os ≡ e.operands.items → nodes ≡ e.nodes.items → bucket ≡ bucket_of table.factor (length table.buckets.items) t is → first ≡ newest_of table bucket → IsChain os nodes t is first
chain-here table e t is os nodes first bucket (_, (_, chained)) os-are nodes-are bucket-is first-is =
    rw (os-are, nodes-are, first-is, bucket-is) (bucket_of table.factor (length table.buckets.items), chained.linked, chained.last (bucket_of table.factor (length table.buckets.items) t is))

pub found-placed : (table : Table) (terms : List TermWords) (e : Expressions) (v s' : Sharing) (t : ℕ) (is : List Id) (os : List Id) (nodes : List Node) (id : Id)
    → Has table e → shared_by e ≡ v → s' ≡ v → os ≡ e.operands.items → nodes ≡ e.nodes.items → IsNode (all_made os nodes) t is id.0 → IsPlaced terms v t is id s'
found-placed table terms e v s' t is os nodes id (kept, _) view same os-are nodes-are node =
    inl (same, found-holds (shared_by e) v e.bound_count e.operands.items e.nodes.items kept view t is (Some id) (rw (sym os-are, sym nodes-are) node))

pub missing-fresh : (table : Table) (e : Expressions) (v : Sharing) (t : ℕ) (is : List Id) (os : List Id) (nodes : List Node)
    → Has table e → shared_by e ≡ v → AreIn v is → os ≡ e.operands.items → nodes ≡ e.nodes.items → ((i : ℕ) → IsNode (all_made os nodes) t is i → ⊥)
    → (i : ℕ) → Holds v i (app t (trees_of v is)) → ⊥
missing-fresh table e v t is os nodes (kept, _) view there os-are nodes-are lacks =
    missing-holds (shared_by e) v e.bound_count e.operands.items e.nodes.items kept view t is there None
    (λ i node. lacks i (rw (os-are, nodes-are) node))

-- ---- what follows from where a term is placed

module _ (terms : List TermWords) (s s' : Sharing) (t : ℕ) (is : List Id) (id : Id) where
  pub placed-holds : IsPlaced terms s t is id s' → Holds s' id.0 (app t (trees_of s is))
  placed-holds (inl (same, holds)) = subst (λ w. Holds w id.0 (app t (trees_of s is))) (sym same) holds
  placed-holds (inr (sort, deps, grown, last, over)) =
      let node : Made = record { sort = sort; deps = deps; form = application t is } in
      rw (grown, last) (last-in s node, ap (λ (e : Shared). e.tree) (entry-new s node))

  pub placed-context : IsPlaced terms s t is id s' → s'.context ≡ s.context
  placed-context (inl (same, holds)) = ap (λ (w : Sharing). w.context) same
  placed-context (inr (sort, deps, grown, last, over)) = ap (λ (w : Sharing). w.context) grown

  pub placed-mode : IsPlaced terms s t is id s' → s'.mode ≡ s.mode
  placed-mode (inl (same, holds)) = ap (λ (w : Sharing). w.mode) same
  placed-mode (inr (sort, deps, grown, last, over)) = ap (λ (w : Sharing). w.mode) grown

  pub placed-keeps : IsPlaced terms s t is id s' → KeepsIds s s'
  placed-keeps (inl (same, holds)) = subst (KeepsIds s) (sym same) ([], sym (append-nil s.entries), omega arith)
  placed-keeps (inr (sort, deps, grown, last, over)) = subst (KeepsIds s) (sym grown) (_ ∷ [], refl, omega arith)

  pub placed-over : IsOver (signatures_of terms) s → IsPlaced terms s t is id s' → IsOver (signatures_of terms) s'
  placed-over before (inl (same, holds)) = subst (IsOver (signatures_of terms)) (sym same) before
  placed-over before (inr (sort, deps, grown, last, over)) = over

-- what both answers say
pub either-way : {A E : Type 0} (r : Result A E) (P : A → Type 0) (Q C : Type 0) → ((x : A) → P x → C) → (Q → C) → IfOk r P → OnErr r Q → C
either-way (Ok x) P Q C placed left p q = placed x p
either-way (Err e) P Q C placed left p q = left q
