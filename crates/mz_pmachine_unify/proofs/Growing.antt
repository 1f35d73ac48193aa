-- Expressions with one more node.
use Rattle.std.proofs.Common.{ℕ, suc, ◌≡◌, ◌≤◌, ◌+◌, ◌⊎◌, List, [], ◌∷◌, ◌++◌, length, get_or, slice_get, Some, refl, ap, sym, ◌∙◌, subst, inl, inr, arith}
use Rattle.std.proofs.lemmas.List.{get_or_append_left, length-append}
use Rattle.std.proofs.lemmas.Option.{slice_get_within, none-some}
use Rattle.std.proofs.Math.Seq.{get_or-append_seam}
use Rattle.mz_base.proofs.Offered.{length-push}
use Rattle.mz_logic_theory.specs.declared.binder.Binder.{Binder}
use Rattle.mz_logic_theory.proofs.Offered.{extends_append, split_at, DepsInside}
use Rattle.mz_store.specs.Bits.{bound_vars}
use Rattle.mz_store.specs.Nodes.{binder_after}
use Rattle.mz_store.proofs.Offered.{only-last}
use Rattle.mz_store.specs.declared.item.Id.{Id}
use Rattle.mz_pmachine_theory.specs.NodeIdentity.{Numbered, a_variable, an_application, one_more}
use Rattle.mz_pmachine_unify.specs.Numbering.{Entry, Numbering, entry_of, expr_of, exprs_of, IsIn, AreIn, IsMadeBefore}
use Rattle.mz_pmachine_unify.specs.Entering.{Made, MadeOf, variable, application, entered, entered_all, context_with, expr_with, next_with}
use Rattle.mz_pmachine_unify.specs.Kept.{Forms, Shows, IsKept}

pub entered-all-push : (s : Numbering) (ns : List Made) (n : Made) → entered_all s (ns ++ n ∷ []) ≡ entered (entered_all s ns) n
entered-all-push s [] n = refl
entered-all-push s (m ∷ ns) n = entered-all-push (entered s m) ns n

pub mode-of : (s : Numbering) (ns : List Made) → (entered_all s ns).mode ≡ s.mode
mode-of s [] = refl
mode-of s (n ∷ ns) = mode-of (entered s n) ns

-- s' has the expressions of s, under the same ids
abbrev pub Begins : Numbering → Numbering → Type 0
Begins s s' = (last : List Entry) × (s'.entries ≡ s.entries ++ last)

abbrev pub entry_with : Numbering → Made → Entry
entry_with s n = record { expr = expr_with s n.form; sort = n.sort; vars = n.vars; deps = n.deps }

abbrev nothing : Entry
nothing = record { expr = a_variable 0; sort = 0; vars = 0; deps = 0 }

pub entered-begins : (s : Numbering) (n : Made) → Begins s (entered s n)
entered-begins s n = (entry_with s n ∷ [], refl)

pub in-kept : (s s' : Numbering) → Begins s s' → (i : ℕ) → IsIn s i → IsIn s' i
in-kept s s' (last, is) i inside = (let len : length s'.entries ≡ length s.entries + length last = ap length is ∙ length-append s.entries last in omega (arith, len, inside))

pub entry-kept : (s s' : Numbering) → Begins s s' → (i : ℕ) → IsIn s i → entry_of s' i ≡ entry_of s i
entry-kept s s' (last, is) i inside = ap (λ (es : List Entry). get_or es i nothing) is ∙ get_or_append_left s.entries last nothing i inside

pub are-in-kept : (s s' : Numbering) → Begins s s' → (is : List Id) → AreIn s is → AreIn s' is
are-in-kept s s' begins [] inside = tt
are-in-kept s s' begins (i ∷ is) (inside, rest) = (in-kept s s' begins i.0 inside, are-in-kept s s' begins is rest)

pub exprs-kept : (s s' : Numbering) → Begins s s' → (is : List Id) → AreIn s is → exprs_of s' is ≡ exprs_of s is
exprs-kept s s' begins [] inside = refl
exprs-kept s s' begins (i ∷ is) (inside, rest) =
    ap (λ (e : Entry). one_more e.expr (exprs_of s' is)) (entry-kept s s' begins i.0 inside) ∙ ap (one_more (expr_of s i.0)) (exprs-kept s s' begins is rest)

pub entry-new : (s : Numbering) (n : Made) → entry_of (entered s n) (length s.entries) ≡ entry_with s n
entry-new s n = get_or-append_seam s.entries (entry_with s n) [] nothing

pub in-cases : (s : Numbering) (n : Made) (i : ℕ) → IsIn (entered s n) i → IsIn s i ⊎ (i ≡ length s.entries)
in-cases s n i inside = grind (arith, length-append s.entries (entry_with s n ∷ []))

pub last-in : (s : Numbering) (n : Made) → IsIn (entered s n) (length s.entries)
last-in s n = omega (arith, length-append s.entries (entry_with s n ∷ []))

pub context-grows : (s : Numbering) (n : Made) (f : MadeOf) (x : ℕ) (b : Binder) → slice_get s.context x ≡ Some b → slice_get (context_with s n f) x ≡ Some b
context-grows s n (variable bound) x b at = extends_append s.context (binder_after s.context n.sort n.deps bound ∷ []) x b at
context-grows s n (application number head operands) x b at = at

forms-kept : (s : Numbering) (n : Made) (i : ℕ) → IsIn s i → (f : MadeOf) → Forms s i f → Forms (entered s n) i f
forms-kept s n i inside (variable bound) (x, b, is, at, bd) =
    (x, b, ap (λ (e : Entry). e.expr) (entry-kept s (entered s n) (entered-begins s n) i inside) ∙ is, context-grows s n n.form x b at, bd)
forms-kept s n i inside (application number head operands) (there, is) = (
  are-in-kept s (entered s n) (entered-begins s n) operands there,
  ap (λ (e : Entry). e.expr) (entry-kept s (entered s n) (entered-begins s n) i inside) ∙ is
      ∙ ap (an_application number head) (sym (exprs-kept s (entered s n) (entered-begins s n) operands there)),
)

shows-kept : (s : Numbering) (n : Made) (i : ℕ) → IsIn s i → (m : Made) → Shows s i m → Shows (entered s n) i m
shows-kept s n i inside m shows = record {
  sort = ap (λ (e : Entry). e.sort) (entry-kept s (entered s n) (entered-begins s n) i inside) ∙ shows.sort;
  vars = ap (λ (e : Entry). e.vars) (entry-kept s (entered s n) (entered-begins s n) i inside) ∙ shows.vars;
  deps = ap (λ (e : Entry). e.deps) (entry-kept s (entered s n) (entered-begins s n) i inside) ∙ shows.deps;
  form = forms-kept s n i inside m.form shows.form;
}

-- ---- numbers

-- what was made before a number was made before each higher one
pub made-before : (m n : ℕ) → m ≤ n → (e : Numbered) → IsMadeBefore m e → IsMadeBefore n e
made-before m n le (a_variable x) h = tt
made-before m n le (an_application k t es) h = omega (arith, le, h)

-- the number above all does not fall, and that of the new node is below it
abbrev Rises : Numbering → MadeOf → Type 0
Rises s f = (s.next ≤ next_with s f) × IsMadeBefore (next_with s f) (expr_with s f)

-- ---- what holds before holds with the new node

pub kept-grown : (s : Numbering) (count count' : ℕ) (nodes : List Made) (n : Made) → IsKept s count nodes
    → count' ≡ length (bound_vars (context_with s n n.form)) → count' ≤ 55
    → Forms (entered s n) (length s.entries) n.form
    → ((i : ℕ) → IsIn s i → expr_of s i ≡ expr_with s n.form → ⊥)
    → Rises s n.form
    → DepsInside (context_with s n n.form)
    → IsKept (entered s n) count' (nodes ++ n ∷ [])
kept-grown s count count' nodes n kept counted small form fresh rises inside = record {
  inside = inside;
  many = length-push s.entries _ ∙ ap suc kept.many ∙ sym (length-push nodes n);
  count = counted;
  small = small;
  shown = shown;
  before = before;
  once = once;
}
  where
    shown : (i : ℕ) (m : Made) → slice_get (nodes ++ n ∷ []) i ≡ Some m → Shows (entered s n) i m
    shown i m at = elim (split_at nodes (n ∷ []) i m at) [
      | inl here ↦ shows-kept s n i (omega (arith, kept.many, slice_get_within nodes i m here)) m (kept.shown i m here)
      | inr later ↦ last later.0 later.1 (only-last n m later.0 later.2)
    ]
      where
        last : (j : ℕ) → i ≡ length nodes + j → (j ≡ 0) × (n ≡ m) → Shows (entered s n) i m
        last j is (zero-is, same) =
            let place : length s.entries ≡ i = omega (arith, kept.many) in
            subst (λ k. Shows (entered s n) k m) place (subst (Shows (entered s n) (length s.entries)) same (record {
              sort = ap (λ (e : Entry). e.sort) (entry-new s n);
              vars = ap (λ (e : Entry). e.vars) (entry-new s n);
              deps = ap (λ (e : Entry). e.deps) (entry-new s n);
              form = form;
            }))

    expr-old : (i : ℕ) → IsIn s i → expr_of (entered s n) i ≡ expr_of s i
    expr-old i inside = ap (λ (e : Entry). e.expr) (entry-kept s (entered s n) (entered-begins s n) i inside)

    expr-new : (i : ℕ) → i ≡ length s.entries → expr_of (entered s n) i ≡ expr_with s n.form
    expr-new i is = ap (expr_of (entered s n)) is ∙ ap (λ (e : Entry). e.expr) (entry-new s n)

    before : (i : ℕ) → IsIn (entered s n) i → IsMadeBefore (next_with s n.form) (expr_of (entered s n) i)
    before i in_i = elim (in-cases s n i in_i) [
      | inl old ↦ subst (IsMadeBefore (next_with s n.form)) (sym (expr-old i old)) (made-before s.next (next_with s n.form) rises.0 (expr_of s i) (kept.before i old))
      | inr new ↦ subst (IsMadeBefore (next_with s n.form)) (sym (expr-new i new)) rises.1
    ]

    once : (i j : ℕ) → IsIn (entered s n) i → IsIn (entered s n) j → expr_of (entered s n) i ≡ expr_of (entered s n) j → i ≡ j
    once i j in_i in_j same = go (in-cases s n i in_i) (in-cases s n j in_j)
      where
        go : IsIn s i ⊎ (i ≡ length s.entries) → IsIn s j ⊎ (j ≡ length s.entries) → i ≡ j
        go (inl p) (inl q) = kept.once i j p q (sym (expr-old i p) ∙ same ∙ expr-old j q)
        go (inl p) (inr q) = absurd (fresh i p (sym (expr-old i p) ∙ same ∙ expr-new j q))
        go (inr p) (inl q) = absurd (fresh j q (sym (expr-old j q) ∙ sym same ∙ expr-new i p))
        go (inr p) (inr q) = p ∙ sym q

-- ---- no expressions

pub kept-empty : (s : Numbering) (nodes : List Made) → s.entries ≡ [] → s.context ≡ [] → nodes ≡ [] → IsKept s 0 nodes
kept-empty s nodes no-entries no-context no-nodes = record {
  many = ap length no-entries ∙ sym (ap length no-nodes);
  count = sym (ap (λ (ctx : List Binder). length (bound_vars ctx)) no-context);
  small = omega arith;
  inside = λ i b at. absurd (none-some _ (sym (ap (λ (ctx : List Binder). slice_get ctx i) no-context) ∙ at));
  shown = λ i n at. absurd (none-some _ (sym (ap (λ (ns : List Made). slice_get ns i) no-nodes) ∙ at));
  before = λ i in_i. absurd (let e : length s.entries ≡ 0 = ap length no-entries in omega arith);
  once = λ i j in_i in_j same. absurd (let e : length s.entries ≡ 0 = ap length no-entries in omega arith);
}
