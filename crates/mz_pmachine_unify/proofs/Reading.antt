-- What is read of a node is what it stands for.
use Rattle.std.proofs.Common.{ℕ, ◌≡◌, ◌<◌, ◌+◌, ◌-◌, ◌∙◌, ◌↔◌, Bool, false, IsTrue, List, Some, length, take, drop, get_or, slice_get, sym, ap, subst, arith}
use Rattle.std.proofs.lemmas.List.{length-map}
use Rattle.std.proofs.lemmas.Option.{slice_get-get_or}
use Rattle.mz_base.proofs.Offered.{slice_get-map_at}
use Rattle.mz_logic_theory.specs.Sorts.{IsBoundVar}
use Rattle.mz_logic_theory.specs.Tree.{var}
use Rattle.mz_logic_theory.specs.declared.binder.Binder.{Binder}
use Rattle.mz_logic_theory.proofs.Offered.{no-application, one_at}
use Rattle.mz_pmachine_theory.specs.NodeIdentity.{Operands, an_application, operand_trees, tree_of as without_numbers}
use Rattle.mz_store.specs.declared.item.DepsMode.{DepsMode}
use Rattle.mz_pmachine_unify.specs.Numbering.{Numbering, IsIn, expr_of, tree_of}
use Rattle.mz_store.specs.declared.item.Id.{Id}
use Rattle.mz_pmachine_unify.specs.Entering.{variable, operands_at, form_of, made_of, all_made, numbering_of}
use Rattle.mz_pmachine_unify.specs.Kept.{Forms, Shows, Keeps}
use Rattle.mz_pmachine_unify.specs.declared.node.Node.{Node}
use Rattle.mz_pmachine_unify.specs.declared.node.Form.{Form}

module _ (mode : DepsMode) (count : ℕ) (os : List Id) (nodes : List Node) (v : Numbering) (keeps : Keeps mode count os nodes) (view : numbering_of mode (all_made os nodes) ≡ v)
    (i : ℕ) (n : Node) (inside : IsIn v i) (is : n ≡ get_or nodes i n) where
  node-at : slice_get nodes i ≡ Some n
  node-at =
      let before = subst (λ w. IsIn w i) (sym view) inside in
      let here : i < length nodes = omega (arith, before, keeps.0.many, length-map nodes (made_of os)) in
      slice_get-get_or _ _ _ here ∙ ap (λ m. Some m) (sym is)

  pub shown-at : Shows v i (made_of os n)
  shown-at = subst (λ w. Shows w i (made_of os n)) view (keeps.0.shown i (made_of os n) (slice_get-map_at (made_of os) nodes i n node-at))

  pub form-at : (f : Form) → n.form ≡ f → Forms v i (form_of os f)
  form-at f form-is = subst (λ (g : Form). Forms v i (form_of os g)) form-is shown-at.form

-- as many from one place on, read from the list to its end
pub operands-read : (os js : List Id) (from many : ℕ) → js ≡ os → take (from + many - from) (drop from js) ≡ operands_at os from many
operands-read os js from many is =
    ap (λ k. take k (drop from js)) (let e : from + many - from ≡ many = omega arith in e) ∙ ap (λ (ks : List Id). operands_at ks from many) is

-- ---- whether it is a bound variable

pub bound-variable : (v : Numbering) (i : ℕ) (bound : Bool) → Forms v i (variable bound) → IsTrue bound ↔ IsBoundVar v.context (tree_of v i)
bound-variable v i bound (x, b, is, at, bound-is) = (λ t. (x, b, ap without_numbers is, at, bound-is ∙ t), back)
  where
    place : (y z : ℕ) → var y ≡ var z → y ≡ z
    place y z e = cc

    back : IsBoundVar v.context (tree_of v i) → IsTrue bound
    back (y, c, is', at', bd) =
        sym bound-is ∙ ap (λ (d : Binder). d.bound) (one_at at (subst (λ z. slice_get v.context z ≡ Some c) (place y x (sym is' ∙ ap without_numbers is)) at')) ∙ bd

pub bound-term : (v : Numbering) (i n h : ℕ) (es : Operands) → expr_of v i ≡ an_application n h es → IsTrue false ↔ IsBoundVar v.context (tree_of v i)
bound-term v i n h es is = (λ nope. absurd cc, λ it. absurd (no-application it.0 h (operand_trees es) (sym it.2 ∙ ap without_numbers is)))
