-- The unify machine over a store: expressions are ids, and a run is that of their trees.
use Rattle.std.specs.Prelude.{◌≡◌, ℕ, ⊤, ◌⊎◌, List, [], ◌∷◌, ◌++◌, length, map, reverse, Result, Ok, Err}
use Rattle.mz_cmd.specs.declared.rule.K.{K}
use Rattle.mz_logic_theory.specs.Tree.{Tree, var, app}
use Rattle.mz_store.specs.Sharing.{Sharing, tree_of, IsIn}
use Rattle.mz_store.specs.declared.item.Id.{Id}
use Rattle.mz_store.specs.declared.item.Item.{Item as Kept}
use Rattle.mz_store.specs.declared.item.Item.TheVariants.{Expr, Proof, Obligation, Conversion}
use Rattle.mz_store.specs.declared.item.DepsMode.TheVariants as of
use Rattle.mz_machine_theory.specs.Profile.{Item, expr, proof, obligation, conversion}
use Rattle.mz_machine_theory.specs.UnifyMachine.{UnifyMode as Mode, in_citation, at_end, in_definition, Matching, UnifyState}
use Rattle.mz_unify.specs.declared.unified.UnifyMode.{UnifyMode}
use Rattle.mz_unify.specs.declared.unified.UnifyMode.TheVariants.{Use, Final, Body}
use Rattle.mz_unify.specs.declared.unified.Unified.{Unified}
use Rattle.mz_unify.specs.declared.unified.Unified.TheVariants.{Done, Refused, Mem}

abbrev pub mode_of : UnifyMode → Mode
mode_of Use = in_citation
mode_of Final = at_end
mode_of Body = in_definition

-- the trees of ids, in order
abbrev pub trees_at : Sharing → List Id → List Tree
trees_at s is = map (λ i. tree_of s i.0) is

-- the trees of a stack of ids, the top first; the top is the last
abbrev pub stack_at : Sharing → List Id → List Tree
stack_at s is = trees_at s (reverse is)

-- an item of a store's expressions
abbrev pub item_at : Sharing → Kept → Item Tree
item_at s (Expr i) = expr (tree_of s i.0)
item_at s (Proof i) = proof (tree_of s i.0)
item_at s (Obligation i j) = obligation (tree_of s i.0) (tree_of s j.0)
item_at s (Conversion i j) = conversion (tree_of s i.0) (tree_of s j.0)

-- a stack of items, the top first
abbrev pub items_at : Sharing → List Kept → List (Item Tree)
items_at s xs = map (item_at s) (reverse xs)

-- the ids of an item are the store's
abbrev pub IsItemIn : Sharing → Kept → Type 0
IsItemIn s (Expr i) = IsIn s i.0
IsItemIn s (Proof i) = IsIn s i.0
IsItemIn s (Obligation i j) = IsIn s i.0 × IsIn s j.0
IsItemIn s (Conversion i j) = IsIn s i.0 × IsIn s j.0

abbrev pub AreItemsIn : Sharing → List Kept → Type 0
AreItemsIn s [] = ⊤
AreItemsIn s (x ∷ xs) = IsItemIn s x × AreItemsIn s xs

-- variables, as parameters are
abbrev pub IsVariable : Tree → Type 0
IsVariable (var x) = ⊤
IsVariable (app t es) = ⊥

abbrev pub AreVariables : Sharing → List Id → Type 0
AreVariables s [] = ⊤
AreVariables s (i ∷ is) = IsVariable (tree_of s i.0) × AreVariables s is

-- the store's words name all variables of these: it is an `All` store, or they are variables themselves
abbrev pub TellsAllOf : Sharing → List Id → Type 0
TellsAllOf s is = (s.mode ≡ of.All) ⊎ AreVariables s is

-- a stream that is run on a store's expressions
abbrev pub matching_at : Sharing → UnifyMode → List ℕ → List Id → Id → List Kept → Matching Tree
matching_at s mode stream heap target hyps = record { mode = mode_of mode; stream = stream; operands = trees_at s heap; target = tree_of s target.0; items = items_at s hyps }

-- what is said holds: P of the number of hypotheses taken, Q of the place and the rule; out of memory
-- says nothing
abbrev pub Says : Unified → (ℕ → Type 0) → (ℕ → K → Type 0) → Type 0
Says (Done taken) P Q = P taken
Says (Refused at rule) P Q = Q at rule
Says Mem P Q = ⊤

abbrev pub OnDone : Unified → (ℕ → Type 0) → Type 0
OnDone said P = Says said P (λ _ _. ⊤)

abbrev pub UnlessMem : Unified → Type 0 → Type 0
UnlessMem said P = Says said (λ _. P) (λ _ _. P)

-- the run ends with this heap and these items left
abbrev pub EndsWith : {T : Type 0} → Result (UnifyState T) (ℕ × K) → List T → List (Item T) → Type 0
EndsWith {T} r heap items = (u : UnifyState T) × (r ≡ Ok u) × (u.heap ≡ heap) × (u.items ≡ items)

-- what is said is what the run comes to
abbrev pub IsRun : {T : Type 0} → Result (UnifyState T) (ℕ × K) → Unified → List T → List (Item T) → Type 0
IsRun r said heap items = Says said (λ _. EndsWith r heap items) (λ at rule. r ≡ Err (at, rule))

-- of the stack xs so many are taken, the top ones, and ys are left
abbrev pub AreLeft : {A : Type 0} → List A → List A → ℕ → Type 0
AreLeft {A} xs ys taken = (gone : List A) × (xs ≡ ys ++ gone) × (length gone ≡ taken)
