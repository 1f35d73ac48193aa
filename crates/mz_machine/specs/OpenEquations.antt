-- Equations that Cong has opened. Of the obligations between the operands the one in hand is written out on the stack; those
-- that are still to come stand for themselves, below it.
use Rattle.std.specs.Prelude.{◌≡◌, ◌⊎◌, ◌<◌, ◌≤◌, ◌+◌, ◌-◌, ◌++◌, ℕ, suc, ⊤, List, [], ◌∷◌, length, min, take, drop, reverse, slice_get, Option, Some, None}
use Rattle.mz_cmd.specs.declared.rule.K.{K}
use Rattle.mz_cmd.specs.declared.rule.K.TheVariants as k
use Rattle.mz_cmd.specs.declared.command.Cmd.{Cmd}
use Rattle.mz_cmd.specs.declared.code.ProofCode.{ProofCode}
use Rattle.mz_cmd.specs.declared.code.ProofCode.TheVariants as code
use Rattle.mz_logic_theory.specs.Tree.{Tree, listed}
use Rattle.mz_store.specs.Sharing.{Sharing, tree_of, operands_of, IsIn}
use Rattle.mz_store.specs.declared.item.Id.{Id}
use Rattle.mz_store.specs.declared.item.Item.{Item as Kept}
use Rattle.mz_store.specs.declared.item.Item.TheVariants.{Obligation}
use Rattle.mz_machine_theory.specs.Profile.{strict, Item, expr, proof, obligation, conversion}
use Rattle.mz_machine_theory.specs.Spells.{SpelledTerm, SpelledThm}
use Rattle.mz_unify.specs.Stored.{items_at}
use Rattle.mz_machine_theory.specs.MachineState.{RowsBefore, State, Kind}
use Rattle.mz_machine_theory.specs.ProofMachine.{sides}
use Rattle.mz_machine_theory.specs.Bodies.{body_command, proves}
use Rattle.mz_machine.specs.OverStore.{state_at, with_stack}
use Rattle.mz_machine.specs.declared.equations.Equation.{Equation}

-- ---- what a command takes of a stack

-- it is the last that a command takes, whatever stood above it
abbrev pub IsBarrier : {T : Type 0} → Item T → Type 0
IsBarrier (expr e) = ⊥
IsBarrier (proof e) = ⊥
IsBarrier (obligation l r) = ⊤
IsBarrier (conversion l r) = ⊤

-- the lowest of x and the items below it is a barrier
abbrev pub EndsBarred : {T : Type 0} → Item T → List (Item T) → Type 0
EndsBarred x [] = IsBarrier x
EndsBarred x (y ∷ ys) = EndsBarred y ys

-- the lowest item is a barrier, or there is none
abbrev pub IsBarred : {T : Type 0} → List (Item T) → Type 0
IsBarred [] = ⊤
IsBarred (x ∷ xs) = EndsBarred x xs

-- so many items a command asks for before it looks at one
abbrev pub many_of_term : Option SpelledTerm → ℕ
many_of_term None = 0
many_of_term (Some row) = length row.signature.params

abbrev pub many_of_thm : Option SpelledThm → ℕ
many_of_thm None = 0
many_of_thm (Some row) = suc (length row.params)

abbrev pub asked_by : RowsBefore → ProofCode → ℕ → ℕ
asked_by tables code.Term t = many_of_term (slice_get tables.terms t)
asked_by tables code.TermSave t = many_of_term (slice_get tables.terms t)
asked_by tables code.Thm t = many_of_thm (slice_get tables.thms t)
asked_by tables code.ThmSave t = many_of_thm (slice_get tables.thms t)
asked_by tables c t = 0

-- ---- what ids stand for: those that are there, and the operands of each

pub record Expressions (T : Type 0) : Type 1 where
  pub is_in : ℕ → Type 0
  pub operands : Id → List T

-- the ids of a store
abbrev pub stored : Sharing → Expressions Tree
stored s = record { is_in = λ i. IsIn s i; operands = λ i. listed (operands_of (tree_of s i.0)) }

-- ---- the stack for which the items that are written out stand, and the equations, the last one first

-- the obligations still to come of an equation, on these items
abbrev pub to_come : {T : Type 0} → Expressions T → Equation → List (Item T) → List (Item T)
to_come s e xs = sides (drop e.next (s.operands e.left)) (drop e.next (s.operands e.right)) xs

-- the equation with one obligation less
abbrev pub after : Equation → Equation
after e = record e { next = e.next + 1 }

-- the items above so many, and these
abbrev pub above : {T : Type 0} → List (Item T) → ℕ → List (Item T)
above xs n = take (length xs - n) xs

abbrev pub below : {T : Type 0} → List (Item T) → ℕ → List (Item T)
below xs n = drop (length xs - n) xs

abbrev pub whole_stack : {T : Type 0} → Expressions T → List Equation → List (Item T) → List (Item T)
whole_stack s [] xs = xs
whole_stack s (e ∷ es) xs = above xs e.height ++ to_come s e (whole_stack s es (below xs e.height))

-- and the state
abbrev pub whole_state : Sharing → (heap : List Kept) → (equations : List Equation) → (stack : List Kept) → (hyps : List Id) → State Tree
whole_state s heap equations stack hyps = with_stack (state_at s heap stack hyps) (whole_stack (stored s) (reverse equations) (items_at s stack))

-- so many obligations are between the operands of two expressions
abbrev pub many_at : {T : Type 0} → Expressions T → Id → Id → ℕ
many_at s l r = min (length (s.operands l)) (length (s.operands r))

-- an obligation at least is still to come, between expressions that are there
pub record IsOpen {T : Type 0} (s : Expressions T) (e : Equation) : Type 0 where
  pub left_in : s.is_in e.left.0
  pub right_in : s.is_in e.right.0
  pub more : e.next < many_at s e.left e.right

-- the same of each of them
abbrev pub AllOpen : {T : Type 0} → Expressions T → List Equation → Type 0
AllOpen s es = (i : ℕ) (e : Equation) → slice_get es i ≡ Some e → IsOpen s e

-- each stands in the stack, and what is written out above it ends with a barrier
abbrev pub AreOpen : {T : Type 0} → Expressions T → List Equation → List (Item T) → Type 0
AreOpen s [] xs = ⊤
AreOpen s (e ∷ es) xs = IsOpen s e × (e.height ≤ length xs) × IsBarred (above xs e.height) × AreOpen s es (below xs e.height)

-- the obligation in hand is written out
abbrev pub IsInHand : List Equation → ℕ → Type 0
IsInHand [] n = ⊤
IsInHand (e ∷ es) n = e.height < n

-- between two commands
abbrev pub AreSettled : {T : Type 0} → Expressions T → List Equation → List (Item T) → Type 0
AreSettled s es xs = AreOpen s es xs × IsInHand es (length xs)

-- ---- what Cong opens

-- the stack with the obligations of what was opened
abbrev pub opened_on : {T : Type 0} → Expressions T → Option (Id × Id) → List (Item T) → List (Item T)
opened_on s None xs = xs
opened_on s (Some e) xs = sides (s.operands e.0) (s.operands e.1) xs

abbrev pub opened_state : Sharing → (heap : List Kept) → Option (Id × Id) → (stack : List Kept) → (hyps : List Id) → State Tree
opened_state s heap opened stack hyps = with_stack (state_at s heap stack hyps) (opened_on (stored s) opened (items_at s stack))

-- what was opened stood on top as an obligation, between expressions of the store
abbrev pub IsOpenedBy : Sharing → Option (Id × Id) → (before after : List Kept) → Type 0
IsOpenedBy s None before after = ⊤
IsOpenedBy s (Some e) before after = IsIn s e.0.0 × IsIn s e.1.0 × (before ≡ after ++ Obligation e.0 e.1 ∷ [])

-- so many obligations of these equations are still to come
abbrev pub many_to_come : {T : Type 0} → Expressions T → List Equation → ℕ
many_to_come s [] = 0
many_to_come s (e ∷ es) = length (to_come s e []) + many_to_come s es

-- ---- a command that asks for more items than are written out

-- it does, and where so many are still to come: the item in hand is no expression, or there aren't so many with those
abbrev pub IsLacking : (asked written coming : ℕ) → K → Type 0
IsLacking asked written coming rule = (written < asked) × (((rule ≡ k.Kind) × (asked ≤ written + coming)) ⊎ ((rule ≡ k.Underflow) × (written + coming < asked)))

-- where obligations are still to come it doesn't
abbrev pub AsksNoMore : List Equation → (asked written : ℕ) → Type 0
AsksNoMore [] asked written = ⊤
AsksNoMore (e ∷ es) asked written = asked ≤ written

abbrev pub asks : Kind → Cmd → ProofCode → Type 0
asks kind c k = body_command strict kind c.code c.value ≡ Some (proves k c.value)

-- it stands in the body and asks for more
pub record IsLack {T : Type 0} (tables : RowsBefore) (kind : Kind) (c : Cmd) (s : Expressions T) (written : ℕ) (es : List Equation) (rule : K) : Type 0 where
  pub code : ProofCode
  pub here : asks kind c code
  pub lacking : IsLacking (asked_by tables code c.value) written (many_to_come s es) rule

-- where obligations are still to come it asks for no more
abbrev pub IsNoLack : RowsBefore → Kind → Cmd → ℕ → List Equation → Type 0
IsNoLack tables kind c written [] = ⊤
IsNoLack tables kind c written (e ∷ es) = (k : ProofCode) → asks kind c k → asked_by tables k c.value ≤ written
