-- Instances that are kept.
use Rattle.std.proofs.Common.{ℕ, zero, suc, ◌≡◌, ◌⊎◌, inl, inr, Bool, Decides, List, [], ◌∷◌, ◌++◌, slice_get, Some, refl, ap, sym, ◌∙◌, subst}
use Rattle.std.specs.Cmp.Lexicographic.{pointwise}
use Rattle.std.proofs.lemmas.Bool.Decides.{Decides-eqb}
use Rattle.std.proofs.lemmas.Option.{none-some}
use Rattle.std.proofs.lemmas.Slice.Eq.{slice_eq-Decides}
use Rattle.mz_logic_theory.specs.Tree.{Tree, instance}
use Rattle.mz_logic_theory.specs.Declaration.{Declaration}
use Rattle.mz_store.specs.Sharing.{Sharing, AreIn, Holds, trees_of}
use Rattle.mz_store.specs.declared.item.Id.{Id}
use Rattle.mz_store.specs.contracts.item.IdPartialEq.TheImpl as id_impl
use Rattle.mz_emit_theory.specs.Claims.{conclusion_of}
use Rattle.mz_emit_bodies.specs.Going.{Job, Does}
use Rattle.mz_emit_bodies.specs.Instances.{AreInstances, Grows, IsInstance}
use Rattle.mz_emit_bodies.specs.TaskInvariant.{Task}
use Rattle.mz_emit_bodies.specs.declared.body.Body.{Body}
use Rattle.mz_emit_bodies.specs.declared.instances.Instance.{Instance}
use Rattle.mz_emit_bodies.proofs.Making.{are_in_grown, grows_self, in_grown, tree_grown, trees_grown}

module _ (env : List Declaration) (s s' : Sharing) (is : List Instance) (g : Grows s s') (right : AreInstances env s is) where
  pub instances_grown : AreInstances env s' is
  instances_grown k i at =
      let r = right k i at in
      let inside : AreIn s i.operands.items = r.inside in
      let here = in_grown s s' g i.id.0 r.held.0 in
      let is-it = tree_grown s s' g i.id.0 r.held.0 ∙ r.held.1 ∙ ap (λ fs. instance fs (conclusion_of env i.number)) (sym (trees_grown s s' g i.operands.items inside)) in
      record { inside = are_in_grown s s' g i.operands.items inside; held = (here, is-it) }

  -- one more
  pub instance_kept : (i : Instance) (is' : List Instance) (number : ℕ) (operands : List Id) (id : Id) (e : Tree) → is' ≡ is ++ i ∷ [] → i.number ≡ number → i.operands.items ≡ operands
      → i.id ≡ id → AreIn s operands → Holds s' id.0 (instance (trees_of s operands) e) → e ≡ conclusion_of env number → AreInstances env s' is'
  instance_kept i is' number operands id e more n-is ops-are id-is inside held e-is k j at = either (last_or_not is k (ap (λ xs. slice_get xs k) (sym more) ∙ at))
    where
      last_or_not : (xs : List Instance) (k : ℕ) → slice_get (xs ++ i ∷ []) k ≡ Some j → ((m : ℕ) × (slice_get xs m ≡ Some j)) ⊎ (i ≡ j)
      last_or_not [] zero h = inr (let n : Some i ≡ Some j = h in cc)
      last_or_not [] (suc k) h = absurd (none-some _ h)
      last_or_not (x ∷ xs) zero h = inl (0, h)
      last_or_not (x ∷ xs) (suc k) h = lift (last_or_not xs k h)
        where
          lift : ((m : ℕ) × (slice_get xs m ≡ Some j)) ⊎ (i ≡ j) → ((m : ℕ) × (slice_get (x ∷ xs) m ≡ Some j)) ⊎ (i ≡ j)
          lift (inl (m, h)) = inl (suc m, h)
          lift (inr same) = inr same

      its : IsInstance env s' i
      its = record {
        inside = are_in_grown s s' g i.operands.items (subst (AreIn s) (sym ops-are) inside);
        held = subst (λ (y : Id). Holds s' y.0 (instance (trees_of s' i.operands.items) (conclusion_of env i.number))) (sym id-is) (
          held.0,
          held.1 ∙ ap (instance (trees_of s operands)) (e-is ∙ ap (conclusion_of env) (sym n-is))
              ∙ ap (λ fs. instance fs (conclusion_of env i.number)) (sym (trees_grown s s' g operands inside) ∙ ap (trees_of s') (sym ops-are)),
        );
      }

      either : ((m : ℕ) × (slice_get is m ≡ Some j)) ⊎ (i ≡ j) → IsInstance env s' j
      either (inl (m, h)) = instances_grown m j h
      either (inr same) = subst (IsInstance env s') same its

-- the one that is found is the instance
pub instance_found : (env : List Declaration) (s : Sharing) (is : List Instance) (k : ℕ) (i : Instance) (number : ℕ) (operands : List Id) (id : Id) (e : Tree) → AreInstances env s is
    → slice_get is k ≡ Some i → i.number ≡ number → i.operands.items ≡ operands → i.id ≡ id → e ≡ conclusion_of env number → Holds s id.0 (instance (trees_of s operands) e)
instance_found env s is k i number operands id e right at n-is ops-are id-is e-is =
    let held = (right k i at).held in
    subst (λ (y : Id). Holds s y.0 (instance (trees_of s operands) e)) id-is
    (held.0, held.1 ∙ ap (λ (fs : List Id). instance (trees_of s fs) (conclusion_of env i.number)) ops-are ∙ ap (instance (trees_of s operands)) (ap (conclusion_of env) n-is ∙ sym e-is))

-- what a task does only adds to the store
pub store_grew : (b b' : Body) (ts : List Task) (o : Job) → Does o b ts → ((o : Job) → Does o b ts → Does o b' []) → Grows b.shared.store b'.shared.store
store_grew b b' ts o d does = (does (record o { store = b.shared.store }) (record {
  commands = d.commands;
  written = d.written;
  short = d.short;
  writing = d.writing;
  counted = d.counted;
  grew = grows_self b.shared.store;
  shared = d.shared;
  lets = d.lets;
  can = d.can;
})).grew

-- ---- lists of ids are compared one by one

abbrev id_eq : Id → Id → Bool
id_eq = (id_impl.ghosts).eq

id-decides : (a b : Id) → Decides (id_eq a b) (a ≡ b)
id-decides a b = (λ t. ap (λ n. record { 0 = n }) ((Decides-eqb a.0 b.0).0 t), λ is. (Decides-eqb a.0 b.0).1 (ap (λ i. i.0) is))

pub ids-decide : (xs ys : List Id) → Decides (pointwise id_eq xs ys) (xs ≡ ys)
ids-decide xs ys = slice_eq-Decides id-decides xs ys (pointwise id_eq xs ys) refl
