-- What is asked of a machine's expressions: what an application's parts are, and that the same ones are equal.
use Rattle.std.proofs.Common.{◌≡◌, ℕ, Bool, true, false, List, Option, Some, None, refl}
use Rattle.mz_logic_theory.specs.Tree.{Tree, var, app, listed}
use Rattle.mz_store.specs.Sharing.{head_of, operands_of}
use Rattle.mz_machine_theory.specs.Profile.{Profile, strict, tree_parts}
use Rattle.mz_machine_theory.proofs.Offered.{same_tree-true, same_tree-refl}

pub record Parts (P : Profile) (head : P.T → Option ℕ) (operands : P.T → List P.T) : Type 0 where
  pub of_none : (e : P.T) → head e ≡ None → P.parts e ≡ None
  pub of_some : (t : ℕ) (e : P.T) → head e ≡ Some t → P.parts e ≡ Some (t, operands e)
  pub equal : (e f : P.T) → P.same e f ≡ true → e ≡ f
  pub itself : (e : P.T) → P.same e e ≡ true

pub differ : {P : Profile} {head : P.T → Option ℕ} {operands : P.T → List P.T} (parts : Parts P head operands) (e f : P.T) → (e ≡ f → ⊥) → P.same e f ≡ false
differ {P} parts e f h = go (P.same e f) refl
  where
    go : (b : Bool) → P.same e f ≡ b → P.same e f ≡ false
    go true is = absurd (h (parts.equal e f is))
    go false is = is

parts-none : (e : Tree) → head_of e ≡ None → tree_parts e ≡ None
parts-none (var x) h = refl
parts-none (app t es) h = absurd cc

parts-some : (t : ℕ) (e : Tree) → head_of e ≡ Some t → tree_parts e ≡ Some (t, listed (operands_of e))
parts-some t (var x) h = absurd cc
parts-some t (app u es) h = let is : u ≡ t = cc in rw is refl

-- trees, which are the same where they are equal
pub of-trees : Parts strict head_of (λ e. listed (operands_of e))
of-trees = record { of_none = parts-none; of_some = parts-some; equal = same_tree-true; itself = same_tree-refl }
