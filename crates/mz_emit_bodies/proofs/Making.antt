-- Instances made in a store, one after the other.
use Rattle.std.proofs.Common.{ℕ, zero, suc, ◌≡◌, ◌<◌, ◌+◌, List, [], ◌∷◌, ◌++◌, length, get_or, slice_get, Some, refl, ap, sym, ◌∙◌, subst, arith}
use Rattle.std.proofs.lemmas.List.{get_or_append_left, length-append, append_assoc}
use Rattle.mz_logic_theory.specs.Tree.{Tree, Trees, app, none, more, followed_by, instance, instances, operand}
use Rattle.mz_logic_theory.specs.Signature.{Signature}
use Rattle.mz_logic_theory.specs.Sorts.{HasSort, Fits}
use Rattle.mz_logic_theory.specs.Words.{TermWords, signature_of, signatures_of, term_at}
use Rattle.mz_logic_theory.specs.declared.binder.Binder.{Binder}
use Rattle.mz_logic_theory.proofs.Offered.{followed_by_push}
use Rattle.mz_store.specs.Sharing.{Shared, Sharing, tree_of, trees_of, IsIn, AreIn, Holds, IsOver, CanTake}
use Rattle.mz_store.specs.declared.item.Id.{Id}
use Rattle.mz_emit_bodies.specs.Instances.{Grows}
use Rattle.mz_emit_theory.specs.InReach.{InReach, AllInReach, AreSorted}

-- ---- a store that grew

pub grows_self : (s : Sharing) → Grows s s
grows_self s = (refl, refl, ([], grind (arith, append_nil s.entries)))
  where
    append_nil : (xs : List Shared) → xs ++ [] ≡ xs
    append_nil [] = refl
    append_nil (x ∷ xs) = ap (λ ys. x ∷ ys) (append_nil xs)

pub grows_on : (a b c : Sharing) → Grows a b → Grows b c → Grows a c
grows_on a b c (x, m, (last, is)) (y, n, (more_last, more_is)) =
    (y ∙ x, n ∙ m, (last ++ more_last, more_is ∙ ap (λ es. es ++ more_last) is ∙ append_assoc a.entries last more_last))

module _ (s s' : Sharing) (g : Grows s s') where
  pub in_grown : (i : ℕ) → IsIn s i → IsIn s' i
  in_grown i inside = (let len : length s'.entries ≡ length s.entries + length g.2.0 = ap length g.2.1 ∙ length-append s.entries g.2.0 in omega (arith, len, inside))

  pub tree_grown : (i : ℕ) → IsIn s i → tree_of s' i ≡ tree_of s i
  tree_grown i inside = ap (λ (e : Shared). e.tree)
      (ap (λ (es : List Shared). get_or es i (record { tree = app 0 none; sort = 0; deps = 0 })) g.2.1 ∙ get_or_append_left s.entries g.2.0 (record { tree = app 0 none; sort = 0; deps = 0 }) i inside)

  pub are_in_grown : (is : List Id) → AreIn s is → AreIn s' is
  are_in_grown [] inside = tt
  are_in_grown (i ∷ is) (inside, rest) = (in_grown i.0 inside, are_in_grown is rest)

  pub trees_grown : (is : List Id) → AreIn s is → trees_of s' is ≡ trees_of s is
  trees_grown [] inside = refl
  trees_grown (i ∷ is) (inside, rest) = ap (λ e. more e (trees_of s' is)) (tree_grown i.0 inside) ∙ ap (more (tree_of s i.0)) (trees_grown is rest)

-- ---- one id more

pub trees_push : (s : Sharing) (is : List Id) (i : Id) → trees_of s (is ++ i ∷ []) ≡ followed_by (trees_of s is) (more (tree_of s i.0) none)
trees_push s [] i = refl
trees_push s (j ∷ is) i = ap (more (tree_of s j.0)) (trees_push s is i)

pub in_push : (s : Sharing) (is : List Id) (i : Id) → AreIn s is → IsIn s i.0 → AreIn s (is ++ i ∷ [])
in_push s [] i h inside = (inside, tt)
in_push s (j ∷ is) i (h, hs) inside = (h, in_push s is i hs inside)

-- ---- instances, some made and some left

pub record Making (sigs : List Signature) (s₀ s : Sharing) (f ids : List Id) (left whole : Trees) : Type 0 where
  pub over : IsOver sigs s
  pub grows : Grows s₀ s
  pub inside : AreIn s ids
  pub builds : followed_by (trees_of s ids) (instances (trees_of s₀ f) left) ≡ instances (trees_of s₀ f) whole
  pub reach : AllInReach (length f) left
  pub sorted : AreSorted sigs s₀.context (instances (trees_of s₀ f) left)

module _ (sigs : List Signature) (s₀ s : Sharing) (f ids : List Id) (left rest whole : Trees) (e : Tree) (cut : left ≡ more e rest) (operands : AreIn s₀ f)
    (m : Making sigs s₀ s f ids left whole) where
  pub can_make : IsOver sigs s × AreIn s f × InReach (length f) e × ((k : ℕ) × HasSort sigs s.context (instance (trees_of s f) e) k)
  can_make = (
    m.over,
    are_in_grown s₀ s m.grows f operands,
    (subst (AllInReach (length f)) cut m.reach).0,
    (let one : (k : ℕ) × HasSort sigs s₀.context (instance (trees_of s₀ f) e) k = (subst (λ es. AreSorted sigs s₀.context (instances (trees_of s₀ f) es)) cut m.sorted).0 in (
      one.0,
      subst (λ ctx. HasSort sigs ctx (instance (trees_of s f) e) one.0) (sym m.grows.0)
          (subst (λ fs. HasSort sigs s₀.context (instance fs e) one.0) (sym (trees_grown s₀ s m.grows f operands)) one.1),
    )),
  )

  pub made : (s' : Sharing) (i : Id) → Holds s' i.0 (instance (trees_of s f) e) → Grows s s' → IsOver sigs s' → Making sigs s₀ s' f (ids ++ i ∷ []) rest whole
  made s' i (inside, is) grows over = record {
    over = over;
    grows = grows_on s₀ s s' m.grows grows;
    inside = in_push s' ids i (are_in_grown s s' grows ids m.inside) inside;
    builds =
        ap (λ ts. followed_by ts (instances (trees_of s₀ f) rest)) (trees_push s' ids i)
        ∙ followed_by_push (trees_of s' ids) (instances (trees_of s₀ f) rest) (tree_of s' i.0)
        ∙ ap (λ ts. followed_by ts (more (tree_of s' i.0) (instances (trees_of s₀ f) rest))) (trees_grown s s' grows ids m.inside)
        ∙ ap (λ t. followed_by (trees_of s ids) (more t (instances (trees_of s₀ f) rest))) (is ∙ ap (λ fs. instance fs e) (trees_grown s₀ s m.grows f operands))
        ∙ ap (λ es. followed_by (trees_of s ids) (instances (trees_of s₀ f) es)) (sym cut)
        ∙ m.builds;
    reach = (subst (AllInReach (length f)) cut m.reach).1;
    sorted = (subst (λ es. AreSorted sigs s₀.context (instances (trees_of s₀ f) es)) cut m.sorted).1;
  }

-- ---- an operand, and what a term can take

pub operand_held : (s : Sharing) (f : List Id) (x : ℕ) (d : Id) → AreIn s f → x < length f → Holds s (get_or f x d).0 (operand (trees_of s f) x)
operand_held s [] x d inside h = absurd (omega (arith, h))
operand_held s (i ∷ is) zero d (inside, rest) h = (inside, refl)
operand_held s (i ∷ is) (suc x) d (inside, rest) h = operand_held s is x d rest (omega (arith, h))

pub fits_sorted : (sigs : List Signature) (ctx : List Binder) (es : Trees) (ps : List Binder) → Fits sigs ctx es ps → AreSorted sigs ctx es
fits_sorted sigs ctx none ps h = tt
fits_sorted sigs ctx (more e es) [] h = absurd h
fits_sorted sigs ctx (more e es) (p ∷ ps) h = ((p.sort, h.0), fits_sorted sigs ctx es ps h.2)

pub all_sorted : (sigs : List Signature) (ctx : List Binder) (t : ℕ) (es : Trees) → ((k : ℕ) × HasSort sigs ctx (app t es) k) → AreSorted sigs ctx es
all_sorted sigs ctx t es (k, (d, at, sort, fits)) = fits_sorted sigs ctx es d.params fits

term_fits : (sigs : List Signature) (ctx : List Binder) (ts : List TermWords) (t : ℕ) (es : Trees) (d : Signature) → slice_get (signatures_of ts) t ≡ Some d
    → Fits sigs ctx es d.params → (t < length ts) × Fits sigs ctx es (signature_of (term_at ts t)).params
term_fits sigs ctx [] t es d at fits = grind (arith, at)
term_fits sigs ctx (w ∷ ws) zero es d at fits = (omega arith, grind (arith, at, fits))
term_fits sigs ctx (w ∷ ws) (suc t) es d at fits = (let more_fits = term_fits sigs ctx ws t es d at fits in (omega (arith, more_fits.0), more_fits.1))

pub can_take : (ts : List TermWords) (s : Sharing) (t : ℕ) (es : Trees) → ((k : ℕ) × HasSort (signatures_of ts) s.context (app t es) k)
    → (s' : Sharing) (is : List Id) → Grows s s' → trees_of s' is ≡ es → CanTake ts s'.context t (trees_of s' is)
can_take ts s t es (k, (d, at, sort, fits)) s' is g made =
    term_fits (signatures_of ts) s'.context ts t (trees_of s' is) d at
    (subst (λ ctx. Fits (signatures_of ts) ctx (trees_of s' is) d.params) (sym g.0) (subst (λ fs. Fits (signatures_of ts) s.context fs d.params) (sym made) fits))
