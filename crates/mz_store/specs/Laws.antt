-- What follows from the definitions: the statements of the laws that `laws.rt` proves.
use Rattle.std.specs.Prelude.{ℕ, ◌≡◌, ◌↔◌, List, bit_and}
use Rattle.mz_logic_theory.specs.Tree.{var}
use Rattle.mz_logic_theory.specs.Signature.{Signature}
use Rattle.mz_logic_theory.specs.Variables.{IsBoundAt}
use Rattle.mz_store.specs.Sharing.{Sharing, tree_of, trees_of, deps_of, IsIn, AreIn, IsOver, DependsOn, KeepsIds}
use Rattle.mz_store.specs.declared.item.Id.{Id}

-- where a store keeps its ids, old ids keep their trees
abbrev pub OldIdsKeepTrees : Type 0
OldIdsKeepTrees = (s s' : Sharing) → KeepsIds s s' → (i : ℕ) → IsIn s i → IsIn s' i × (tree_of s' i ≡ tree_of s i)

abbrev pub OldListsKeepTrees : Type 0
OldListsKeepTrees = (s s' : Sharing) → KeepsIds s s' → (is : List Id) → AreIn s is → AreIn s' is × (trees_of s' is ≡ trees_of s is)

-- a bound variable's word meets an expression's exactly where the variable is among those that words
-- name of the expression
abbrev pub WordsMeet : Type 0
WordsMeet = (sigs : List Signature) (s : Sharing) → IsOver sigs s → (i j x : ℕ) → IsIn s i → IsIn s j → tree_of s i ≡ var x → IsBoundAt s.context x
    → (bit_and (deps_of s j) (deps_of s i) ≡ 0 → ⊥) ↔ DependsOn s.mode sigs s.context (tree_of s j) x
