-- What the entries of the heap and the stack stand for: the machine's items and the parts beside them.
use Rattle.std.specs.Prelude.{ℕ, ◌≡◌, ◌⊎◌, ⊤, List, [], ◌∷◌, ◌++◌, length, map, reverse, Some, slice_get}
use Rattle.mz_machine_theory.specs.Profile.{expr, proof, obligation, conversion, Item as MachineItem}
use Rattle.mz_logic_theory.specs.Tree.{Tree}
use Rattle.mz_machine_theory.specs.Spells.{trees_of}
use Rattle.mz_machine_theory.specs.MachineState.{RowsBefore}
use Rattle.mz_trace.specs.OneHoleContexts.{Part, expression, proved, owed, converted, for_proof, for_turned, for_operand, for_unfolded, for_cut}
use Rattle.mz_trace.specs.Nodes.{Value, expression_at, expressions_at, conversion_at, conversions_at, proof_at, IsExpression, AreExpressions, IsConversion, AreConversions, IsProof, IsBody}
use Rattle.mz_trace.specs.declared.entry.Item.{Item}
use Rattle.mz_trace.specs.declared.entry.Item.TheVariants.{Expr, Proof, Conversion}
use Rattle.mz_trace.specs.declared.entry.Entry.{Entry}
use Rattle.mz_trace.specs.declared.entry.Entry.TheVariants.{Held, Owed, ForProof, ForTurned, ForOperand, ForUnfolded, ForCut}

-- ---- items

abbrev pub item_at : List Value → Item → MachineItem Tree
item_at vs (Expr e) = expr (expression_at vs e)
item_at vs (Proof e p) = proof (expression_at vs e)
item_at vs (Conversion l r c) = conversion (expression_at vs l) (expression_at vs r)

abbrev pub part_at : List Value → Item → Part
part_at vs (Expr e) = expression
part_at vs (Proof e p) = proved (proof_at vs p)
part_at vs (Conversion l r c) = converted (conversion_at vs c)

abbrev pub IsItem : List Value → Item → Type 0
IsItem vs (Expr e) = IsExpression vs e
IsItem vs (Proof e p) = IsExpression vs e × IsProof vs p
IsItem vs (Conversion l r c) = IsExpression vs l × IsExpression vs r × IsConversion vs c

abbrev pub AreItems : List Value → List Item → Type 0
AreItems vs [] = ⊤
AreItems vs (x ∷ xs) = IsItem vs x × AreItems vs xs

-- ---- the stack, its top first

-- what is owed between two expressions
abbrev pub owed_at : List Value → ℕ × ℕ → MachineItem Tree
owed_at vs p = obligation (expression_at vs p.0) (expression_at vs p.1)

-- the machine's items where the entry stands: none, one, or one for each operand behind
abbrev pub items_of : List Value → Entry → List (MachineItem Tree)
items_of vs (Held x) = item_at vs x ∷ []
items_of vs (Owed l r) = owed_at vs (l, r) ∷ []
items_of vs (ForProof e p) = proof (expression_at vs e) ∷ []
items_of vs ForTurned = []
items_of vs (ForOperand t done left) = map (owed_at vs) (reverse left.items)
items_of vs (ForUnfolded t e es ys) = []
items_of vs (ForCut l r) = conversion (expression_at vs l) (expression_at vs r) ∷ []

abbrev pub items_at : List Value → List Entry → List (MachineItem Tree)
items_at vs [] = []
items_at vs (x ∷ xs) = items_of vs x ++ items_at vs xs

-- the part of the proof where the entry stands
abbrev pub part_of : List Value → Entry → Part
part_of vs (Held x) = part_at vs x
part_of vs (Owed l r) = owed
part_of vs (ForProof e p) = for_proof (expression_at vs e) (proof_at vs p)
part_of vs ForTurned = for_turned
part_of vs (ForOperand t done left) = for_operand t (conversions_at vs done.items) (length left.items)
part_of vs (ForUnfolded t e es ys) = for_unfolded t (trees_of (expressions_at vs es.items)) ys.items
part_of vs (ForCut l r) = for_cut

abbrev pub parts_at : List Value → List Entry → List Part
parts_at vs xs = map (part_of vs) xs

abbrev pub ArePairs : List Value → List (ℕ × ℕ) → Type 0
ArePairs vs [] = ⊤
ArePairs vs (p ∷ ps) = IsExpression vs p.0 × IsExpression vs p.1 × ArePairs vs ps

-- Expressions and proofs stand free. Below what is owed stands what waits for it, down to a proof; there may be cuts between,
-- and a conversion that was cut stands above what waits for it.
abbrev mutual
  pub IsStack : RowsBefore → List Value → List Entry → Type 0
  IsStack tables vs [] = ⊤
  IsStack tables vs (Held (Expr e) ∷ xs) = IsExpression vs e × IsStack tables vs xs
  IsStack tables vs (Held (Proof e p) ∷ xs) = (IsExpression vs e × IsProof vs p) × IsStack tables vs xs
  IsStack tables vs (Held (Conversion l r c) ∷ xs) = (IsExpression vs l × IsExpression vs r × IsConversion vs c) × IsWaiting tables vs xs
  IsStack tables vs (Owed l r ∷ xs) = IsExpression vs l × IsExpression vs r × IsWaiting tables vs xs
  IsStack tables vs (ForProof e p ∷ xs) = ⊥
  IsStack tables vs (ForTurned ∷ xs) = ⊥
  IsStack tables vs (ForOperand t done left ∷ xs) = ⊥
  IsStack tables vs (ForUnfolded t e es ys ∷ xs) = ⊥
  IsStack tables vs (ForCut l r ∷ xs) = ⊥

  pub IsWaiting : RowsBefore → List Value → List Entry → Type 0
  IsWaiting tables vs [] = ⊥
  IsWaiting tables vs (Held x ∷ xs) = ⊥
  IsWaiting tables vs (Owed l r ∷ xs) = ⊥
  IsWaiting tables vs (ForProof e p ∷ xs) = IsExpression vs e × IsProof vs p × IsStack tables vs xs
  IsWaiting tables vs (ForTurned ∷ xs) = IsWaiting tables vs xs
  IsWaiting tables vs (ForOperand t done left ∷ xs) = AreConversions vs done.items × ArePairs vs left.items × IsWaiting tables vs xs
  IsWaiting tables vs (ForUnfolded t e es ys ∷ xs) =
      IsExpression vs e × AreExpressions vs es.items × IsBody tables t (expressions_at vs es.items) ys.items (expression_at vs e) × IsWaiting tables vs xs
  IsWaiting tables vs (ForCut l r ∷ xs) = IsExpression vs l × IsExpression vs r × IsWaiting tables vs xs

-- ---- what is taken from the top

abbrev pub HasExpr : List Entry → Type 0
HasExpr xs = (n : ℕ) × (ys : List Entry) × (xs ≡ Held (Expr n) ∷ ys)

abbrev pub HasProof : List Entry → Type 0
HasProof xs = (e p : ℕ) × (ys : List Entry) × (xs ≡ Held (Proof e p) ∷ ys)

-- there is an item at the place
abbrev pub IsKept : List Item → ℕ → Type 0
IsKept xs n = (x : Item) × (slice_get xs n ≡ Some x)

abbrev pub HasHeld : List Entry → Type 0
HasHeld xs = (x : Item) × (ys : List Entry) × (xs ≡ Held x ∷ ys)

abbrev pub HasConversion : List Entry → Type 0
HasConversion xs = (l r c : ℕ) × (ys : List Entry) × (xs ≡ Held (Conversion l r c) ∷ ys)

abbrev pub HasOwed : List Entry → Type 0
HasOwed xs = (l r : ℕ) × (ys : List Entry) × (xs ≡ Owed l r ∷ ys)

-- the expressions, the first one on top
abbrev pub exprs_onto : List ℕ → List Entry → List Entry
exprs_onto [] xs = xs
exprs_onto (n ∷ ns) xs = Held (Expr n) ∷ exprs_onto ns xs

-- expressions with their proofs, the first one on top
abbrev pub proofs_onto : List (ℕ × ℕ) → List Entry → List Entry
proofs_onto [] xs = xs
proofs_onto (p ∷ ps) xs = Held (Proof p.0 p.1) ∷ proofs_onto ps xs

abbrev pub HasExprs : ℕ → List Entry → Type 0
HasExprs n xs = (ns : List ℕ) × (ys : List Entry) × (xs ≡ exprs_onto ns ys) × (length ns ≡ n)

abbrev pub HasProofs : ℕ → List Entry → Type 0
HasProofs n xs = (ps : List (ℕ × ℕ)) × (ys : List Entry) × (xs ≡ proofs_onto ps ys) × (length ps ≡ n)

-- so many proofs are taken from the stack xs, the first one on top, and ys are left
abbrev pub TookProofs : ℕ → List Entry → List ℕ → List Entry → Type 0
TookProofs n xs ns ys = (ps : List (ℕ × ℕ)) × (xs ≡ proofs_onto ps ys) × (map (λ p. p.1) ps ≡ ns) × (length ps ≡ n)

-- what is owed, perhaps below an expression
abbrev pub TookSides : List Entry → ℕ → ℕ → List Entry → Type 0
TookSides xs l r ys = (xs ≡ Owed l r ∷ ys) ⊎ ((n : ℕ) × (xs ≡ Held (Expr n) ∷ Owed l r ∷ ys))

abbrev pub HasSides : List Entry → Type 0
HasSides xs = (l r : ℕ) × (ys : List Entry) × TookSides xs l r ys
