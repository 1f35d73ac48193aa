-- Expressions and items that have sorts (mm0.md, section on terms: each expression has one).
use Rattle.std.specs.Prelude.{ℕ, ⊤, List, [], ◌∷◌}
use Rattle.mz_logic_theory.specs.Tree.{Tree}
use Rattle.mz_logic_theory.specs.Signature.{Signature}
use Rattle.mz_logic_theory.specs.Sorts.{HasSort}
use Rattle.mz_logic_theory.specs.declared.binder.Binder.{Binder}
use Rattle.mz_machine_theory.specs.Profile.{Item, expr, proof, obligation, conversion}

-- an expression of some sort
abbrev pub Sorted : List Signature → List Binder → Tree → Type 0
Sorted sigs ctx e = (s : ℕ) × HasSort sigs ctx e s

abbrev pub AllSorted : List Signature → List Binder → List Tree → Type 0
AllSorted sigs ctx [] = ⊤
AllSorted sigs ctx (e ∷ es) = Sorted sigs ctx e × AllSorted sigs ctx es

abbrev pub ItemSorted : List Signature → List Binder → Item Tree → Type 0
ItemSorted sigs ctx (expr e) = Sorted sigs ctx e
ItemSorted sigs ctx (proof e) = Sorted sigs ctx e
ItemSorted sigs ctx (obligation l r) = Sorted sigs ctx l × Sorted sigs ctx r
ItemSorted sigs ctx (conversion l r) = Sorted sigs ctx l × Sorted sigs ctx r

abbrev pub ItemsSorted : List Signature → List Binder → List (Item Tree) → Type 0
ItemsSorted sigs ctx [] = ⊤
ItemsSorted sigs ctx (x ∷ xs) = ItemSorted sigs ctx x × ItemsSorted sigs ctx xs
