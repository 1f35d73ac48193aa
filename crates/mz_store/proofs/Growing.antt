-- A store with one more node.
use Rattle.std.proofs.Common.{ℕ, suc, ◌≡◌, ◌≤◌, ◌+◌, ◌⊎◌, List, [], ◌∷◌, ◌++◌, length, get_or, slice_get, Some, refl, ap, sym, ◌∙◌, subst, inl, inr, arith}
use Rattle.std.proofs.lemmas.List.{get_or_append_left, length-append}
use Rattle.std.proofs.lemmas.Option.{slice_get_within, none-some}
use Rattle.std.proofs.Math.Seq.{get_or-append_seam}
use Rattle.mz_base.proofs.Offered.{length-push}
use Rattle.mz_logic_theory.specs.Tree.{app, none, more}
use Rattle.mz_logic_theory.specs.declared.binder.Binder.{Binder}
use Rattle.mz_logic_theory.proofs.Offered.{extends_append, split_at, DepsInside}
use Rattle.mz_store.specs.Bits.{bound_vars}
use Rattle.mz_store.specs.Sharing.{Shared, Sharing, entry_of, tree_of, trees_of, IsIn, AreIn}
use Rattle.mz_store.specs.Nodes.{Made, MadeOf, variable, application, made_of, all_made, entered, entered_all, no_expressions, context_with, tree_with, binder_after}
use Rattle.mz_store.specs.Kept.{Forms, Shows, IsKept, shared_by}
use Rattle.mz_store.specs.declared.item.Id.{Id}
use Rattle.mz_store.specs.declared.node.Node.{Node}
use Rattle.mz_store.specs.declared.expressions.Expressions.{Expressions}
use Rattle.mz_store.proofs.Chained.{only-last}
use Rattle.mz_store.proofs.Made.{many-made, made-at, node-of}

pub entered-all-push : (s : Sharing) (ns : List Made) (n : Made) → entered_all s (ns ++ n ∷ []) ≡ entered (entered_all s ns) n
entered-all-push s [] n = refl
entered-all-push s (m ∷ ns) n = entered-all-push (entered s m) ns n

pub mode-of : (s : Sharing) (ns : List Made) → (entered_all s ns).mode ≡ s.mode
mode-of s [] = refl
mode-of s (n ∷ ns) = mode-of (entered s n) ns

pub mode-shared : (e : Expressions) → (shared_by e).mode ≡ e.mode
mode-shared e = mode-of (no_expressions e.mode) (all_made e.operands.items e.nodes.items)

-- s' has the expressions of s, under the same ids
abbrev pub Begins : Sharing → Sharing → Type 0
Begins s s' = (last : List Shared) × (s'.entries ≡ s.entries ++ last)

pub entered-begins : (s : Sharing) (n : Made) → Begins s (entered s n)
entered-begins s n = (record { tree = tree_with s n.form; sort = n.sort; deps = n.deps } ∷ [], refl)

pub in-kept : (s s' : Sharing) → Begins s s' → (i : ℕ) → IsIn s i → IsIn s' i
in-kept s s' (last, is) i inside = (let len : length s'.entries ≡ length s.entries + length last = ap length is ∙ length-append s.entries last in omega (arith, len, inside))

pub entry-kept : (s s' : Sharing) → Begins s s' → (i : ℕ) → IsIn s i → entry_of s' i ≡ entry_of s i
entry-kept s s' (last, is) i inside =
    ap (λ (es : List Shared). get_or es i (record { tree = app 0 none; sort = 0; deps = 0 })) is ∙ get_or_append_left s.entries last (record { tree = app 0 none; sort = 0; deps = 0 }) i inside

pub are-in-kept : (s s' : Sharing) → Begins s s' → (is : List Id) → AreIn s is → AreIn s' is
are-in-kept s s' begins [] inside = tt
are-in-kept s s' begins (i ∷ is) (inside, rest) = (in-kept s s' begins i.0 inside, are-in-kept s s' begins is rest)

pub trees-kept : (s s' : Sharing) → Begins s s' → (is : List Id) → AreIn s is → trees_of s' is ≡ trees_of s is
trees-kept s s' begins [] inside = refl
trees-kept s s' begins (i ∷ is) (inside, rest) =
    ap (λ (e : Shared). more e.tree (trees_of s' is)) (entry-kept s s' begins i.0 inside) ∙ ap (more (tree_of s i.0)) (trees-kept s s' begins is rest)

pub entry-new : (s : Sharing) (n : Made) → entry_of (entered s n) (length s.entries) ≡ record { tree = tree_with s n.form; sort = n.sort; deps = n.deps }
entry-new s n = get_or-append_seam s.entries (record { tree = tree_with s n.form; sort = n.sort; deps = n.deps }) [] (record { tree = app 0 none; sort = 0; deps = 0 })

pub in-cases : (s : Sharing) (n : Made) (i : ℕ) → IsIn (entered s n) i → IsIn s i ⊎ (i ≡ length s.entries)
in-cases s n i inside = grind (arith, length-append s.entries (record { tree = tree_with s n.form; sort = n.sort; deps = n.deps } ∷ []))

pub last-in : (s : Sharing) (n : Made) → IsIn (entered s n) (length s.entries)
last-in s n = omega (arith, length-append s.entries (record { tree = tree_with s n.form; sort = n.sort; deps = n.deps } ∷ []))

pub context-grows : (s : Sharing) (n : Made) (f : MadeOf) (x : ℕ) (b : Binder) → slice_get s.context x ≡ Some b → slice_get (context_with s n f) x ≡ Some b
context-grows s n (variable bound) x b at = extends_append s.context (binder_after s.context n.sort n.deps bound ∷ []) x b at
context-grows s n (application head operands) x b at = at

forms-kept : (s : Sharing) (n : Made) (i : ℕ) → IsIn s i → (f : MadeOf) → Forms s i f → Forms (entered s n) i f
forms-kept s n i inside (variable bound) (x, b, is, at, bd) =
    (x, b, ap (λ (e : Shared). e.tree) (entry-kept s (entered s n) (entered-begins s n) i inside) ∙ is, context-grows s n n.form x b at, bd)
forms-kept s n i inside (application head operands) (there, is) = (
  are-in-kept s (entered s n) (entered-begins s n) operands there,
  ap (λ (e : Shared). e.tree) (entry-kept s (entered s n) (entered-begins s n) i inside) ∙ is ∙ ap (app head) (sym (trees-kept s (entered s n) (entered-begins s n) operands there)),
)

shows-kept : (s : Sharing) (n : Made) (i : ℕ) → IsIn s i → (m : Made) → Shows s i m → Shows (entered s n) i m
shows-kept s n i inside m shows = record {
  sort = ap (λ (e : Shared). e.sort) (entry-kept s (entered s n) (entered-begins s n) i inside) ∙ shows.sort;
  deps = ap (λ (e : Shared). e.deps) (entry-kept s (entered s n) (entered-begins s n) i inside) ∙ shows.deps;
  form = forms-kept s n i inside m.form shows.form;
}

-- ---- what holds of the old store holds of the new one

pub kept-grown : (s : Sharing) (count count' : ℕ) (os os' : List Id) (nodes : List Node) (n : Node) (m : Made) → IsKept s count os nodes
    → ((i : ℕ) (k : Node) → slice_get nodes i ≡ Some k → made_of os' k ≡ made_of os k) → made_of os' n ≡ m
    → count' ≡ length (bound_vars (context_with s m m.form)) → count' ≤ 55
    → Forms (entered s m) (length s.entries) m.form
    → ((i : ℕ) → IsIn s i → tree_of s i ≡ tree_with s m.form → ⊥)
    → DepsInside (context_with s m m.form)
    → IsKept (entered s m) count' os' (nodes ++ n ∷ [])
kept-grown s count count' os os' nodes n m kept alike says counted small form fresh inside = record {
  inside = inside;
  many = length-push s.entries _ ∙ ap suc kept.many ∙ sym (length-push nodes n);
  count = counted;
  small = small;
  shown = shown;
  once = once;
}
  where
    shown : (i : ℕ) (k : Node) → slice_get (nodes ++ n ∷ []) i ≡ Some k → Shows (entered s m) i (made_of os' k)
    shown i k at = elim (split_at nodes (n ∷ []) i k at) [
      | inl here ↦ subst (Shows (entered s m) i) (sym (alike i k here))
          (shows-kept s m i (omega (arith, kept.many, slice_get_within nodes i k here)) (made_of os k) (kept.shown i k here))
      | inr later ↦ last later.0 later.1 (only-last n k later.0 later.2)
    ]
      where
        last : (j : ℕ) → i ≡ length nodes + j → (j ≡ 0) × (n ≡ k) → Shows (entered s m) i (made_of os' k)
        last j is (zero-is, same) =
            let place : length s.entries ≡ i = omega (arith, kept.many) in
            subst (λ x. Shows (entered s m) x (made_of os' k)) place (subst (Shows (entered s m) (length s.entries)) (sym says ∙ ap (made_of os') same) (record {
              sort = ap (λ (e : Shared). e.sort) (entry-new s m);
              deps = ap (λ (e : Shared). e.deps) (entry-new s m);
              form = form;
            }))

    tree-old : (i : ℕ) → IsIn s i → tree_of (entered s m) i ≡ tree_of s i
    tree-old i inside = ap (λ (e : Shared). e.tree) (entry-kept s (entered s m) (entered-begins s m) i inside)

    tree-new : (i : ℕ) → i ≡ length s.entries → tree_of (entered s m) i ≡ tree_with s m.form
    tree-new i is = ap (tree_of (entered s m)) is ∙ ap (λ (e : Shared). e.tree) (entry-new s m)

    once : (i j : ℕ) → IsIn (entered s m) i → IsIn (entered s m) j → tree_of (entered s m) i ≡ tree_of (entered s m) j → i ≡ j
    once i j in_i in_j same = go (in-cases s m i in_i) (in-cases s m j in_j)
      where
        go : IsIn s i ⊎ (i ≡ length s.entries) → IsIn s j ⊎ (j ≡ length s.entries) → i ≡ j
        go (inl p) (inl q) = kept.once i j p q (sym (tree-old i p) ∙ same ∙ tree-old j q)
        go (inl p) (inr q) = absurd (fresh i p (sym (tree-old i p) ∙ same ∙ tree-new j q))
        go (inr p) (inl q) = absurd (fresh j q (sym (tree-old j q) ∙ sym same ∙ tree-new i p))
        go (inr p) (inr q) = p ∙ sym q

-- a store whose nodes say the same keeps the same
pub kept-alike : (s : Sharing) (count : ℕ) (os os' : List Id) (nodes nodes' : List Node) → all_made os' nodes' ≡ all_made os nodes → IsKept s count os nodes → IsKept s count os' nodes'
kept-alike s count os os' nodes nodes' same kept = record {
  many = kept.many ∙ sym (many-made os nodes) ∙ ap length (sym same) ∙ many-made os' nodes';
  count = kept.count;
  small = kept.small;
  inside = kept.inside;
  shown = λ i n at. (let (k, here, is) = node-of os nodes i (made_of os' n) (sym (ap (λ (ms : List Made). slice_get ms i) same) ∙ made-at os' nodes' i n at) in
      subst (Shows s i) is (kept.shown i k here));
  once = kept.once;
}

-- ---- a store of nothing

pub kept-empty : (s : Sharing) (os : List Id) (nodes : List Node) → s.entries ≡ [] → s.context ≡ [] → nodes ≡ [] → IsKept s 0 os nodes
kept-empty s os nodes no-entries no-context no-nodes = record {
  many = ap length no-entries ∙ sym (ap length no-nodes);
  count = sym (ap (λ (ctx : List Binder). length (bound_vars ctx)) no-context);
  small = omega arith;
  inside = λ i b at. absurd (none-some _ (sym (ap (λ (ctx : List Binder). slice_get ctx i) no-context) ∙ at));
  shown = λ i n at. absurd (none-some _ (sym (ap (λ (ns : List Node). slice_get ns i) no-nodes) ∙ at));
  once = λ i j in_i in_j same. absurd (let e : length s.entries ≡ 0 = ap length no-entries in omega arith);
}
