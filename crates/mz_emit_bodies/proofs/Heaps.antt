-- Writers one after another, and what stands in the heap.
use Rattle.std.specs.Prelude.{ℕ, ◌≡◌, ◌<◌, ◌+◌, ◌⊎◌, ◌==◌, if◌then◌else◌, Bool, true, false, List, [], ◌∷◌, ◌++◌, length, slice_get, Option, Some, None}
use Rattle.std.proofs.Common.{zero, suc, refl, sym, ap, ◌∙◌, subst, arith, append_assoc, append-nil, inl, inr, eq-eqb}
use Rattle.std.proofs.lemmas.Bool.{cases_eq, eqb-true, cases_Bool}
use Rattle.std.proofs.lemmas.Option.{none-some}
use Rattle.mz_cmd.specs.declared.code.ProofCode.{ProofCode}
use Rattle.mz_cmd.specs.declared.code.ProofCode.TheVariants as code
use Rattle.mz_logic_theory.specs.Tree.{Tree, Trees, var, app}
use Rattle.mz_logic_theory.specs.Legality.{binder_at}
use Rattle.mz_logic_theory.specs.declared.binder.Binder.{Binder}
use Rattle.mz_store.specs.Sharing.{Sharing, IsIn, Holds, tree_of}
use Rattle.mz_machine_theory.specs.Tests.{same_tree}
use Rattle.mz_machine_theory.proofs.Offered.{same_tree-refl, same_tree-true, not-both}
use Rattle.mz_emit_bodies.specs.Instances.{Grows}
use Rattle.mz_emit_bodies.specs.Places.{place_of}
use Rattle.mz_emit_bodies.proofs.Making.{in_grown, tree_grown}
use Rattle.mz_emit_bodies.specs.Sight.{place_at}
use Rattle.mz_emit_theory.specs.BodyWriting.{Kept, expression, hypothesis, first_part, is_same, Writing, place_in, Written, Writer, and_then, nothing, ◌>>◌, command, keeping, referring, unless_kept, write_expr, write_exprs, variables_below}
use Rattle.mz_emit_bodies.specs.Writers.{IsKept, behind}
use Rattle.mz_emit_bodies.specs.declared.let_scopes.Cell.{Cell}
use Rattle.mz_emit_bodies.proofs.Lists.{slice_last}

-- ---- one after another

abbrev pub written : List (ProofCode × ℕ) → Writing → Written
written cs w = record { commands = cs; after = w }

pub then_assoc : (f g h : Writer) (w : Writing) → ((f >> g) >> h) w ≡ (f >> g >> h) w
then_assoc f g h w = ap (λ (cs : List (ProofCode × ℕ)). written cs (h (g (f w).after).after).after) (append_assoc (f w).commands (g (f w).after).commands (h (g (f w).after).after).commands)

pub then_first : (f f' g : Writer) (w : Writing) → f w ≡ f' w → (f >> g) w ≡ (f' >> g) w
then_first f f' g w is = ap (λ (a : Written). and_then a g) is

pub then_second : (f g g' : Writer) (w : Writing) → ((v : Writing) → g v ≡ g' v) → (f >> g) w ≡ (f >> g') w
then_second f g g' w is = ap (behind (f w).commands) (is (f w).after)

pub then_nothing : (f : Writer) (w : Writing) → (f >> nothing) w ≡ f w
then_nothing f w = ap (λ (cs : List (ProofCode × ℕ)). written cs (f w).after) (append-nil (f w).commands)

pub and_nothing : (a : Written) → and_then a nothing ≡ a
and_nothing a = ap (λ (cs : List (ProofCode × ℕ)). written cs a.after) (append-nil a.commands)

pub and_assoc : (a : Written) (f g : Writer) → and_then (and_then a f) g ≡ and_then a (f >> g)
and_assoc a f g = ap (λ (cs : List (ProofCode × ℕ)). written cs (g (f a.after).after).after) (append_assoc a.commands (f a.after).commands (g (f a.after).after).commands)

-- ---- what stands in the heap is referred to

module _ (x : Kept) (f : Writer) (w : Writing) where
  pub kept_there : (p : ℕ) → place_in x w.heap ≡ Some p → unless_kept x f w ≡ command code.Ref p w
  kept_there p at = ap (λ (o : Option ℕ). referring o f w) at

  pub not_kept : place_in x w.heap ≡ None → unless_kept x f w ≡ f w
  not_kept at = ap (λ (o : Option ℕ). referring o f w) at

module _ (ctx : List Binder) (w : Writing) where
  pub expr_there : (e : Tree) (p : ℕ) → place_in (expression e) w.heap ≡ Some p → write_expr ctx e w ≡ command code.Ref p w
  expr_there (var x) p at = kept_there (expression (var x)) (keeping code.Dummy (binder_at ctx x).sort (expression (var x))) w p at
  expr_there (app t es) p at = kept_there (expression (app t es)) (write_exprs ctx es >> keeping code.TermSave t (expression (app t es))) w p at

  pub expr_new : (t : ℕ) (es : Trees) → place_in (expression (app t es)) w.heap ≡ None
      → write_expr ctx (app t es) w ≡ (write_exprs ctx es >> keeping code.TermSave t (expression (app t es))) w
  expr_new t es at = not_kept (expression (app t es)) (write_exprs ctx es >> keeping code.TermSave t (expression (app t es))) w at

  pub dummy_new : (x : ℕ) → place_in (expression (var x)) w.heap ≡ None → write_expr ctx (var x) w ≡ keeping code.Dummy (binder_at ctx x).sort (expression (var x)) w
  dummy_new x at = not_kept (expression (var x)) (keeping code.Dummy (binder_at ctx x).sort (expression (var x))) w at

-- ---- one item more

pub none_or_some : (o : Option ℕ) → (o ≡ None) ⊎ ((p : ℕ) × (o ≡ Some p))
none_or_some None = inl refl
none_or_some (Some p) = inr (p, refl)

pub place_new : (x y : Kept) (ys : List Kept) → is_same x y ≡ true → place_in x (y ∷ ys) ≡ Some (length ys)
place_new x y ys is = ap (λ (b : Bool). if b then Some (length ys) else place_in x ys) is

pub place_old : (x y : Kept) (ys : List Kept) → is_same x y ≡ false → place_in x (y ∷ ys) ≡ place_in x ys
place_old x y ys is = ap (λ (b : Bool). if b then Some (length ys) else place_in x ys) is

not_same : (a b : ℕ) → (a ≡ b → ⊥) → (a == b) ≡ false
not_same a b other = elim (cases_Bool (a == b)) [ inl is ↦ absurd (other (eqb-true a b is)) | inr is ↦ is ]

slice_before : (A : Type 0) (xs : List A) (y : A) (k : ℕ) → (k ≡ length xs → ⊥) → slice_get (xs ++ y ∷ []) k ≡ slice_get xs k
slice_before A [] y zero other = absurd (other refl)
slice_before A (x ∷ xs) y (suc k) other = slice_before A xs y k (λ is. other (ap suc is))
slice_before A _ y _ other = refl

pub some_get : (a b : ℕ) → ◌≡◌ {A = Option ℕ} (Some a) (Some b) → a ≡ b
some_get a b e = ap get e
  where
    get : Option ℕ → ℕ
    get None = 0
    get (Some x) = x

module _ (s : Sharing) (places : List (Option ℕ)) (len : ℕ) (hps : List ℕ) (cells : List Cell) (w : Writing) (k : IsKept s places len hps cells w) where
  -- what has no place doesn't stand there
  pub expr_absent : (i : ℕ) → ((a b : ℕ) → IsIn s a → IsIn s b → tree_of s a ≡ tree_of s b → a ≡ b) → IsIn s i → place_of places i ≡ None → place_in (expression (tree_of s i)) w.heap ≡ None
  expr_absent i once inside none-yet = elim (none_or_some (place_in (expression (tree_of s i)) w.heap)) [
    | inl is ↦ is
    | inr (p, at) ↦ (let (j, holds, j-at) = k.found (tree_of s i) p at in absurd (none-some p (sym none-yet ∙ ap (place_of places) (sym (once j i holds.0 inside holds.1)) ∙ j-at)))
  ]

  -- the i-th expression gets the next place
  pub expr_kept : (i len' : ℕ) (places' : List (Option ℕ)) → ((a b : ℕ) → IsIn s a → IsIn s b → tree_of s a ≡ tree_of s b → a ≡ b) → IsIn s i
      → place_of places' i ≡ Some len → ((j : ℕ) → (j ≡ i → ⊥) → place_of places' j ≡ place_of places j) → len' ≡ len + 1
      → IsKept s places' len' hps cells (record w { heap = expression (tree_of s i) ∷ w.heap })
  expr_kept i len' places' once inside at others len-is = record {
    long = (let l = k.long in omega (arith, l, len-is));
    met = k.met;
    placed = λ j p j-at. elim (cases_eq j i) [
      | inl is ↦ (
        subst (IsIn s) (sym is) inside,
        ap (λ (a : ℕ). place_in (expression (tree_of s a)) (expression (tree_of s i) ∷ w.heap)) is
            ∙ place_new (expression (tree_of s i)) (expression (tree_of s i)) w.heap (same_tree-refl (tree_of s i))
            ∙ ap (λ (n : ℕ). Some n) k.long ∙ sym at ∙ ap (place_of places') (sym is) ∙ j-at,
      )
      | inr other ↦ (let old = k.placed j p (sym (others j other) ∙ j-at) in elim (cases_Bool (same_tree (tree_of s j) (tree_of s i))) [
        | inl same ↦ absurd (other (once j i old.0 inside (same_tree-true (tree_of s j) (tree_of s i) same)))
        | inr differs ↦ (old.0, place_old (expression (tree_of s j)) (expression (tree_of s i)) w.heap differs ∙ old.1)
      ])
    ];
    found = λ e p e-at. elim (cases_Bool (same_tree e (tree_of s i))) [
      | inl same ↦ (let n-is : length w.heap ≡ p = some_get (length w.heap) p (sym (place_new (expression e) (expression (tree_of s i)) w.heap same) ∙ e-at) in
          (i, (inside, sym (same_tree-true e (tree_of s i) same)), at ∙ ap (λ (n : ℕ). Some n) (sym k.long ∙ n-is)))
      | inr differs ↦ (let (j, holds, j-at) = k.found e p (sym (place_old (expression e) (expression (tree_of s i)) w.heap differs) ∙ e-at) in
          (j, holds, others j (λ is. not-both (same_tree e (tree_of s i)) (ap (same_tree e) (ap (tree_of s) (sym is) ∙ holds.1) ∙ same_tree-refl e) differs) ∙ j-at))
    ];
    hypotheses = k.hypotheses;
    saved = k.saved;
  }

  -- the next hypothesis
  pub hyp_kept : (n len' : ℕ) (hps' : List ℕ) → n ≡ length hps → hps' ≡ hps ++ len ∷ [] → len' ≡ len + 1 → IsKept s places len' hps' cells (record w { heap = hypothesis n ∷ w.heap })
  hyp_kept n len' hps' n-is hps-are len-is = record {
    long = (let l = k.long in omega (arith, l, len-is));
    met = k.met;
    placed = k.placed;
    found = k.found;
    hypotheses = λ j. elim (cases_eq j n) [
      | inl is ↦ place_new (hypothesis j) (hypothesis n) w.heap (eq-eqb j n is) ∙ ap (λ (a : ℕ). Some a) k.long
          ∙ sym (ap (λ (xs : List ℕ). slice_get xs j) hps-are ∙ slice_last ℕ hps len j (is ∙ n-is))
      | inr other ↦ place_old (hypothesis j) (hypothesis n) w.heap (not_same j n other) ∙ k.hypotheses j
          ∙ sym (ap (λ (xs : List ℕ). slice_get xs j) hps-are ∙ slice_before ℕ hps len j (λ is. other (is ∙ sym n-is)))
    ];
    saved = k.saved;
  }

  -- a let's first part
  pub part_kept : (c len' : ℕ) (cells' : List Cell) → length cells' ≡ length cells → place_at cells' c ≡ Some len → ((d : ℕ) → (d ≡ c → ⊥) → place_at cells' d ≡ place_at cells d) → len' ≡ len + 1
      → IsKept s places len' hps cells' (record w { heap = first_part c ∷ w.heap })
  part_kept c len' cells' many at others len-is = record {
    long = (let l = k.long in omega (arith, l, len-is));
    met = k.met ∙ sym many;
    placed = k.placed;
    found = k.found;
    hypotheses = k.hypotheses;
    saved = λ d. elim (cases_eq d c) [
      | inl is ↦ place_new (first_part d) (first_part c) w.heap (eq-eqb d c is) ∙ ap (λ (a : ℕ). Some a) k.long ∙ sym at ∙ ap (place_at cells') (sym is)
      | inr other ↦ place_old (first_part d) (first_part c) w.heap (not_same d c other) ∙ k.saved d ∙ sym (others d other)
    ];
  }

  -- a let that is met
  pub met_kept : (cells' : List Cell) → length cells' ≡ length cells + 1 → ((c : ℕ) → place_at cells' c ≡ place_at cells c) → IsKept s places len hps cells' (record w { lets = suc w.lets })
  met_kept cells' many same = record {
    long = k.long;
    met = (let m = k.met in omega (arith, m, many));
    placed = k.placed;
    found = k.found;
    hypotheses = k.hypotheses;
    saved = λ c. k.saved c ∙ sym (same c);
  }

  -- a store that grew
  pub kept_grown : (s' : Sharing) → Grows s s' → IsKept s' places len hps cells w
  kept_grown s' gr = record {
    long = k.long;
    met = k.met;
    placed = λ i p at. (let old = k.placed i p at in (in_grown s s' gr i old.0, ap (λ (e : Tree). place_in (expression e) w.heap) (tree_grown s s' gr i old.0) ∙ old.1));
    found = λ e p at. (let (i, holds, i-at) = k.found e p at in (i, (in_grown s s' gr i holds.0, tree_grown s s' gr i holds.0 ∙ holds.1), i-at));
    hypotheses = k.hypotheses;
    saved = k.saved;
  }

-- ---- at first

pub below_long : (n : ℕ) → length (variables_below n) ≡ n
below_long zero = refl
below_long (suc n) = ap suc (below_long n)

pub below_at : (n x : ℕ) → x < n → place_in (expression (var x)) (variables_below n) ≡ Some x
below_at zero x lt = absurd (omega (arith, lt))
below_at (suc n) x lt = elim (cases_eq x n) [
  | inl is ↦ place_new (expression (var x)) (expression (var n)) (variables_below n) (eq-eqb x n is) ∙ ap (λ (a : ℕ). Some a) (below_long n ∙ sym is)
  | inr other ↦ place_old (expression (var x)) (expression (var n)) (variables_below n) (not_same x n other) ∙ below_at n x (less x n lt other)
]
  where
    less : (a b : ℕ) → a < suc b → (a ≡ b → ⊥) → a < b
    less zero zero lt other = absurd (other refl)
    less zero (suc b) lt other = omega arith
    less (suc a) zero lt other = absurd (omega (arith, lt))
    less (suc a) (suc b) lt other = (let h = less a b (omega (arith, lt)) (λ e. other (ap suc e)) in omega (arith, h))

pub below_is : (n : ℕ) (e : Tree) (p : ℕ) → place_in (expression e) (variables_below n) ≡ Some p → (e ≡ var p) × (p < n)
below_is zero e p at = absurd (none-some p at)
below_is (suc n) e p at = elim (cases_Bool (same_tree e (var n))) [
  | inl same ↦ (let p-is : n ≡ p = sym (below_long n) ∙ some_get (length (variables_below n)) p (sym (place_new (expression e) (expression (var n)) (variables_below n) same) ∙ at) in
      (same_tree-true e (var n) same ∙ ap var p-is, omega (arith, p-is)))
  | inr differs ↦ (let old = below_is n e p (sym (place_old (expression e) (expression (var n)) (variables_below n) differs) ∙ at) in (old.0, (let h = old.1 in omega (arith, h))))
]

pub no_hypothesis : (n k : ℕ) → place_in (hypothesis k) (variables_below n) ≡ None
no_hypothesis zero k = refl
no_hypothesis (suc n) k = no_hypothesis n k

pub no_part : (n c : ℕ) → place_in (first_part c) (variables_below n) ≡ None
no_part zero c = refl
no_part (suc n) c = no_part n c

pub kept_at_first : (s : Sharing) (places : List (Option ℕ)) (n : ℕ) → ((x : ℕ) → x < n → Holds s x (var x)) → ((i p : ℕ) → place_of places i ≡ Some p → (i ≡ p) × (p < n))
    → ((i : ℕ) → i < n → place_of places i ≡ Some i) → IsKept s places n [] [] (record { heap = variables_below n; lets = 0 })
kept_at_first s places n variables where_is all = record {
  long = below_long n;
  met = refl;
  placed = λ i p at. (let h = where_is i p at in let v = variables p h.1 in
      (subst (IsIn s) (sym h.0) v.0, ap (λ (e : Tree). place_in (expression e) (variables_below n)) (ap (tree_of s) h.0 ∙ v.1) ∙ below_at n p h.1));
  found = λ e p at. (let h = below_is n e p at in let v = variables p h.1 in (p, (v.0, v.1 ∙ sym h.0), all p h.1));
  hypotheses = λ k. no_hypothesis n k;
  saved = λ c. no_part n c;
}
