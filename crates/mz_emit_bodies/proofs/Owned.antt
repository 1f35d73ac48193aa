-- The variables of a context as operands.
use Rattle.std.specs.Prelude.{ℕ, ◌≡◌, ◌<◌, ◌+◌, List, [], ◌∷◌, length, get_or, slice_get, Some, None}
use Rattle.std.proofs.Common.{zero, suc, refl, sym, ap, ◌∙◌, subst, arith}
use Rattle.std.proofs.lemmas.Option.{slice_get_within, get_or_from_slice_get, none-some}
use Rattle.mz_logic_theory.specs.Tree.{Tree, Trees, var, app, none, more, instance, instances}
use Rattle.mz_logic_theory.specs.Signature.{Signature}
use Rattle.mz_logic_theory.specs.Sorts.{HasSort}
use Rattle.mz_logic_theory.specs.declared.binder.Binder.{Binder}
use Rattle.mz_machine_theory.specs.Spells.{trees_of as operands_of, variables_from}
use Rattle.mz_store.specs.Sharing.{Sharing, AreIn, IsIn, IsOver, head_of, tree_of, trees_of}
use Rattle.mz_store.specs.declared.item.Id.{Id}
use Rattle.mz_machine_theory.proofs.Offered.{length-params, first-operand}
use Rattle.mz_emit_bodies.specs.Instances.{Grows}
use Rattle.mz_emit_theory.specs.InReach.{InReach, AllInReach, AreSorted}
use Rattle.mz_emit_bodies.specs.Variables.{IsShared}
use Rattle.mz_emit_bodies.proofs.Making.{are_in_grown, trees_grown}
use Rattle.mz_emit_theory.proofs.Offered.{reach_of_sort, reach_of_sorted}

pub is_var : (e : Tree) → head_of e ≡ None → (x : ℕ) × (e ≡ var x)
is_var (var x) h = (x, refl)
is_var (app t es) h = absurd (none-some _ (sym h))

abbrev own : List Binder → Trees
own ctx = operands_of (variables_from 0 ctx)

module _ (ctx : List Binder) where
  mutual
    pub own_instance : (e : Tree) → InReach (length ctx) e → instance (own ctx) e ≡ e
    own_instance (var x) lt = first-operand 0 ctx x lt ∙ ap var (omega arith)
    own_instance (app t es) reach = ap (app t) (own_instances es reach)

    pub own_instances : (es : Trees) → AllInReach (length ctx) es → instances (own ctx) es ≡ es
    own_instances none reach = refl
    own_instances (more e es) (r, rs) = ap (λ (z : Tree). more z (instances (own ctx) es)) (own_instance e r) ∙ ap (more e) (own_instances es rs)

pub shared_grown : (sigs : List Signature) (s s' : Sharing) (vars : List Id) → IsShared sigs s vars → Grows s s' → IsOver sigs s' → IsShared sigs s' vars
shared_grown sigs s s' vars h g over = record {
  over = over;
  all = g.1 ∙ h.all;
  inside = are_in_grown s s' g vars h.inside;
  trees = trees_grown s s' g vars h.inside ∙ h.trees ∙ ap own (sym g.0);
  numbers = h.numbers;
}

ids_long : (s : Sharing) (is : List Id) (es : List Tree) → trees_of s is ≡ operands_of es → length is ≡ length es
ids_long s is es h = go is es h
  where
    many : Trees → ℕ
    many none = 0
    many (more e fs) = suc (many fs)

    go : (js : List Id) (fs : List Tree) → trees_of s js ≡ operands_of fs → length js ≡ length fs
    go [] [] k = refl
    go (j ∷ js) (f ∷ fs) k = ap suc (go js fs (ap others k))
      where
        others : Trees → Trees
        others none = none
        others (more e gs) = gs
    go _ _ k = absurd (omega (arith, ap many k))

pub shared_long : (sigs : List Signature) (s : Sharing) (vars : List Id) → IsShared sigs s vars → length vars ≡ length s.context
shared_long sigs s vars h = ids_long s vars (variables_from 0 s.context) h.trees ∙ length-params 0 s.context

-- ---- the id of a variable

abbrev first_of_trees : Trees → Tree
first_of_trees none = var 0
first_of_trees (more e es) = e

abbrev rest_of_trees : Trees → Trees
rest_of_trees none = none
rest_of_trees (more e es) = es

pub variable_id : (s : Sharing) (vars : List Id) (j : ℕ) (ctx : List Binder) (x : ℕ) → AreIn s vars → trees_of s vars ≡ operands_of (variables_from j ctx) → x < length ctx
    → (k : Id) × (slice_get vars x ≡ Some k) × IsIn s k.0 × (tree_of s k.0 ≡ var (j + x))
variable_id s [] j [] x inside is lt = absurd (omega (arith, lt))
variable_id s [] j (b ∷ ctx) x inside is lt = absurd (no_more is)
  where
    no_more : {e : Tree} {es : Trees} → none ≡ more e es → ⊥
    no_more h = grind (arith, h)
variable_id s (k ∷ vars) j [] x inside is lt = absurd (omega (arith, lt))
variable_id s (k ∷ vars) j (b ∷ ctx) zero (here, inside) is lt = (k, refl, here, ap first_of_trees is ∙ ap var (omega arith))
variable_id s (k ∷ vars) j (b ∷ ctx) (suc x) (here, inside) is lt =
    let r = variable_id s vars (suc j) ctx x inside (ap rest_of_trees is) (omega (arith, lt)) in
    (r.0, r.1, r.2, r.3 ∙ ap var (omega arith))

module _ (sigs : List Signature) (s : Sharing) (vars vs : List Id) (is : vs ≡ vars) (h : IsShared sigs s vars) where
  pub one_reach : (e : Tree) → ((k : ℕ) × HasSort sigs s.context e k) → InReach (length vs) e
  one_reach e (k, has) = subst (λ (n : ℕ). InReach n e) (sym (ap length is ∙ shared_long sigs s vars h)) (reach_of_sort sigs s.context e k has)

  pub all_reach : (es : Trees) → AreSorted sigs s.context es → AllInReach (length vs) es
  all_reach es sorted = subst (λ (n : ℕ). AllInReach n es) (sym (ap length is ∙ shared_long sigs s vars h)) (reach_of_sorted sigs s.context es sorted)

  pub one_own : (e : Tree) → ((k : ℕ) × HasSort sigs s.context e k) → instance (trees_of s vs) e ≡ e
  one_own e (k, has) = ap (λ (f : Trees). instance f e) (ap (trees_of s) is ∙ h.trees) ∙ own_instance s.context e (reach_of_sort sigs s.context e k has)

  pub all_own : (es : Trees) → AreSorted sigs s.context es → instances (trees_of s vs) es ≡ es
  all_own es sorted = ap (λ (f : Trees). instances f es) (ap (trees_of s) is ∙ h.trees) ∙ own_instances s.context es (reach_of_sorted sigs s.context es sorted)

  pub one_sorted : (e : Tree) → ((k : ℕ) × HasSort sigs s.context e k) → ((k : ℕ) × HasSort sigs s.context (instance (trees_of s vs) e) k)
  one_sorted e h' = (h'.0, subst (λ (z : Tree). HasSort sigs s.context z h'.0) (sym (one_own e h')) h'.1)

  pub all_sorted_own : (es : Trees) → AreSorted sigs s.context es → AreSorted sigs s.context (instances (trees_of s vs) es)
  all_sorted_own es sorted = subst (AreSorted sigs s.context) (sym (all_own es sorted)) sorted

-- the id at a place is the variable's
pub variable_at : (sigs : List Signature) (s : Sharing) (vars : List Id) (x : ℕ) (d : Id) → IsShared sigs s vars → x < length s.context
    → (x < length vars) × IsIn s (get_or vars x d).0 × (tree_of s (get_or vars x d).0 ≡ var x)
variable_at sigs s vars x d h lt =
    let r = variable_id s vars 0 s.context x h.inside h.trees lt in
    let same : get_or vars x d ≡ r.0 = get_or_from_slice_get vars x r.0 d r.1 in
    (slice_get_within vars x r.0 r.1, subst (λ (k : Id). IsIn s k.0) (sym same) r.2, ap (λ (k : Id). tree_of s k.0) same ∙ r.3 ∙ ap var (omega arith))

pub variable_is : (sigs : List Signature) (s : Sharing) (vars : List Id) (x : ℕ) (v d : Id) → v ≡ get_or vars x d → IsShared sigs s vars → x < length s.context
    → IsIn s v.0 × (tree_of s v.0 ≡ var x)
variable_is sigs s vars x v d is h lt =
    let r = variable_at sigs s vars x d h lt in
    (subst (λ (k : Id). IsIn s k.0) (sym is) r.1, ap (λ (k : Id). tree_of s k.0) is ∙ r.2)
