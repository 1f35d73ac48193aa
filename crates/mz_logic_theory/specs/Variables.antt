-- The variables on which an expression depends: all of them (V), and the free ones (FV)
-- (Carneiro, the section on variables and dependencies). Only bound variables are in either.
use Rattle.std.specs.Prelude.{ℕ, ◌≡◌, ◌⊎◌, Bool, true, false, ◌==◌, ◌||◌, List, [], ◌∷◌, slice_get, Contains, Some}
use Rattle.mz_logic_theory.specs.Tree.{Tree, Trees, var, app, none, more, operand}
use Rattle.mz_logic_theory.specs.Signature.{Signature}
use Rattle.mz_logic_theory.specs.declared.binder.Binder.{Binder}

-- the variable y stands in e
abbrev mutual
  pub Occurs : ℕ → Tree → Type 0
  Occurs y (var x) = y ≡ x
  Occurs y (app t es) = OccursIn y es

  pub OccursIn : ℕ → Trees → Type 0
  OccursIn y none = ⊥
  OccursIn y (more e es) = Occurs y e ⊎ OccursIn y es

-- x is in V(e): e is the bound variable x, or a regular variable that depends on x, or x is in V of
-- an operand
abbrev mutual
  pub InV : List Binder → ℕ → Tree → Type 0
  InV ctx x (var y) = (b : Binder) × (slice_get ctx y ≡ Some b) × (((b.bound ≡ true) × (x ≡ y)) ⊎ ((b.bound ≡ false) × Contains b.deps x))
  InV ctx x (app t es) = InSomeV ctx x es

  pub InSomeV : List Binder → ℕ → Trees → Type 0
  InSomeV ctx x none = ⊥
  InSomeV ctx x (more e es) = InV ctx x e ⊎ InSomeV ctx x es

-- a bound variable stands at the place x
abbrev pub IsBoundAt : List Binder → ℕ → Type 0
IsBoundAt ctx x = (b : Binder) × (slice_get ctx x ≡ Some b) × (b.bound ≡ true)

-- of the operands es, the variable x is that of a bound parameter at one of the places
abbrev pub IsOperandAt : List Binder → Trees → List ℕ → ℕ → Type 0
IsOperandAt params es places x = (j : ℕ) × Contains places j × IsBoundAt params j × (operand es j ≡ var x)

-- x is in FV(e). Of an application (t es): x is in FV of the operand of a regular parameter, and not
-- the operand of a bound one on which this parameter depends; or it is the operand of a bound one on
-- which the result depends. `d` is t's signature, `all` the list of operands that `es` is the end of
-- and `ps` the parameters of `es`
abbrev mutual
  pub InFV : List Signature → List Binder → ℕ → Tree → Type 0
  InFV sigs ctx x (var y) = InV ctx x (var y)
  InFV sigs ctx x (app t es) = (d : Signature) × (slice_get sigs t ≡ Some d)
      × (InSomeFV sigs ctx x d.params es d.params es ⊎ IsOperandAt d.params es d.result.deps x)

  pub InSomeFV : List Signature → List Binder → ℕ → List Binder → Trees → List Binder → Trees → Type 0
  InSomeFV sigs ctx x params all ps none = ⊥
  InSomeFV sigs ctx x params all [] (more e es) = ⊥
  InSomeFV sigs ctx x params all (p ∷ ps) (more e es) =
      ((p.bound ≡ false) × InFV sigs ctx x e × (IsOperandAt params all p.deps x → ⊥)) ⊎ InSomeFV sigs ctx x params all ps es

-- x is free in the operand e of the parameter p, which is a regular one and does not bind it
abbrev pub IsFreeOperand : List Signature → List Binder → ℕ → List Binder → Trees → Binder → Tree → Type 0
IsFreeOperand sigs ctx x params all p e = (p.bound ≡ false) × InFV sigs ctx x e × (IsOperandAt params all p.deps x → ⊥)

-- where the j-th parameter is bound and its operand is in V of the i-th operand, i is j or depends on j
abbrev pub AreDisjointAt : List Binder → Trees → List Binder → ℕ → ℕ → Type 0
AreDisjointAt ctx es params i j = (x : ℕ) (p q : Binder)
    → slice_get params i ≡ Some p → slice_get params j ≡ Some q → q.bound ≡ true → operand es j ≡ var x
    → InV ctx x (operand es i) → (i ≡ j) ⊎ Contains p.deps j

-- the operands are disjoint: each two are, whichever of them comes first (mm0.md, on disjointness;
-- Carneiro, the rule of theorem application)
abbrev pub AreDisjoint : List Binder → Trees → List Binder → Type 0
AreDisjoint ctx es params = (i j : ℕ) → AreDisjointAt ctx es params i j

-- `Contains` as a test
abbrev pub is_member : ℕ → List ℕ → Bool
is_member x [] = false
is_member x (y ∷ ys) = x == y || is_member x ys
