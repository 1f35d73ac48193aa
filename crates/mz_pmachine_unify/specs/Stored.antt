-- The unify machine over nodes: expressions are ids, and a run is that of the expressions, numbers and all.
use Rattle.std.specs.Prelude.{ℕ, ⊤, List, [], ◌∷◌, map, reverse}
use Rattle.mz_logic_theory.specs.Tree.{Tree}
use Rattle.mz_store.specs.declared.item.Id.{Id}
use Rattle.mz_store.specs.declared.item.Item.{Item as Kept}
use Rattle.mz_store.specs.declared.item.Item.TheVariants.{Expr, Proof, Obligation, Conversion}
use Rattle.mz_machine_theory.specs.Profile.{Item, expr, proof, obligation, conversion}
use Rattle.mz_machine_theory.specs.UnifyMachine.{Matching}
use Rattle.mz_unify.specs.Stored.{mode_of}
use Rattle.mz_unify.specs.declared.unified.UnifyMode.{UnifyMode}
use Rattle.mz_pmachine_theory.specs.NodeIdentity.{Numbered, tree_of}
use Rattle.mz_pmachine_unify.specs.Numbering.{Numbering, expr_of, IsIn}

-- the expressions of ids, in order
abbrev pub exprs_at : Numbering → List Id → List Numbered
exprs_at s is = map (λ i. expr_of s i.0) is

-- their trees
abbrev pub trees_at : Numbering → List Id → List Tree
trees_at s is = map tree_of (exprs_at s is)

-- the expressions of a stack of ids, the top first; the top is the last
abbrev pub stack_at : Numbering → List Id → List Numbered
stack_at s is = exprs_at s (reverse is)

-- an item of such expressions
abbrev pub item_at : Numbering → Kept → Item Numbered
item_at s (Expr i) = expr (expr_of s i.0)
item_at s (Proof i) = proof (expr_of s i.0)
item_at s (Obligation i j) = obligation (expr_of s i.0) (expr_of s j.0)
item_at s (Conversion i j) = conversion (expr_of s i.0) (expr_of s j.0)

-- a stack of items, the top first
abbrev pub items_at : Numbering → List Kept → List (Item Numbered)
items_at s xs = map (item_at s) (reverse xs)

-- the ids of an item are those of nodes
abbrev pub IsItemIn : Numbering → Kept → Type 0
IsItemIn s (Expr i) = IsIn s i.0
IsItemIn s (Proof i) = IsIn s i.0
IsItemIn s (Obligation i j) = IsIn s i.0 × IsIn s j.0
IsItemIn s (Conversion i j) = IsIn s i.0 × IsIn s j.0

abbrev pub AreItemsIn : Numbering → List Kept → Type 0
AreItemsIn s [] = ⊤
AreItemsIn s (x ∷ xs) = IsItemIn s x × AreItemsIn s xs

-- a stream that is run on the expressions of nodes
abbrev pub matching_at : Numbering → UnifyMode → List ℕ → List Id → Id → List Kept → Matching Numbered
matching_at s mode stream heap target hyps = record { mode = mode_of mode; stream = stream; operands = exprs_at s heap; target = expr_of s target.0; items = items_at s hyps }
