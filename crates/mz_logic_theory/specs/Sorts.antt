-- The sort of an expression (mm0.md, section on terms; Carneiro, the rules of well-formed expressions).
use Rattle.std.specs.Prelude.{ℕ, ◌≡◌, ⊤, true, List, [], ◌∷◌, slice_get, Some}
use Rattle.mz_logic_theory.specs.Tree.{Tree, Trees, var, app, none, more, listed}
use Rattle.mz_logic_theory.specs.Signature.{Signature}
use Rattle.mz_logic_theory.specs.Declaration.{Declaration, sorts, signatures}
use Rattle.mz_logic_theory.specs.Modifiers.{MayBeClaimSort}
use Rattle.mz_logic_theory.specs.declared.binder.Binder.{Binder}

-- e is a bound variable
abbrev pub IsBoundVar : List Binder → Tree → Type 0
IsBoundVar ctx e = (x : ℕ) × (b : Binder) × (e ≡ var x) × (slice_get ctx x ≡ Some b) × (b.bound ≡ true)

-- a variable has its binder's sort; a term's application has the term's result sort, where its
-- operands fit the term's parameters: there are as many, each has its parameter's sort, and that of a
-- bound parameter is a bound variable
abbrev mutual
  pub HasSort : List Signature → List Binder → Tree → ℕ → Type 0
  HasSort sigs ctx (var x) s = (b : Binder) × (slice_get ctx x ≡ Some b) × (b.sort ≡ s)
  HasSort sigs ctx (app t es) s = (d : Signature) × (slice_get sigs t ≡ Some d) × (d.result.sort ≡ s) × Fits sigs ctx es d.params

  pub Fits : List Signature → List Binder → Trees → List Binder → Type 0
  Fits sigs ctx none [] = ⊤
  Fits sigs ctx none (p ∷ ps) = ⊥
  Fits sigs ctx (more e es) [] = ⊥
  Fits sigs ctx (more e es) (p ∷ ps) = HasSort sigs ctx e p.sort × (p.bound ≡ true → IsBoundVar ctx e) × Fits sigs ctx es ps

-- e has a sort in the environment
abbrev pub IsSorted : List Declaration → List Binder → Tree → Type 0
IsSorted env ctx e = (s : ℕ) × HasSort (signatures env) ctx e s

-- e has a provable sort
abbrev pub HasProvable : List Declaration → List Binder → Tree → Type 0
HasProvable env ctx e = (s : ℕ) × HasSort (signatures env) ctx e s × MayBeClaimSort (sorts env) s

abbrev pub AreProvable : List Declaration → List Binder → Trees → Type 0
AreProvable env ctx es = (i : ℕ) (e : Tree) → slice_get (listed es) i ≡ Some e → HasProvable env ctx e
