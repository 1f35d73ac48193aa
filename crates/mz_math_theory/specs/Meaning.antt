-- The expression that a tree of the notation grammar stands for (mm0.md, section on coercions).
use Rattle.std.specs.Prelude.{◌≡◌, ◌⊎◌, ℕ, List, [], ◌∷◌, true, Some, slice_get, max, suc}
use Rattle.mz_logic_theory.specs.Tree.{Tree, Trees, var, app, none, more}
use Rattle.mz_logic_theory.specs.Signature.{Signature}
use Rattle.mz_logic_theory.specs.Declaration.{Declaration, sorts}
use Rattle.mz_logic_theory.specs.Sorts.{IsBoundVar}
use Rattle.mz_logic_theory.specs.Modifiers.{MayBeClaimSort}
use Rattle.mz_logic_theory.specs.declared.binder.Binder.{Binder}
use Rattle.mz_math_theory.specs.declared.coercion.Coercion.{Coercion}
use Rattle.mz_math_theory.specs.Coercions.{IsPath, wrapped}
pub use Rattle.mz_math_theory.specs.declared.wanted.Wanted.{Wanted}
pub use Rattle.mz_math_theory.specs.declared.wanted.Wanted.TheVariants.{Provable as provable, Sort as of_sort}

-- e is what the tree stands for, of sort s: each operand is wrapped in the path of coercions to its
-- parameter's sort, and the operand of a bound parameter is a bound variable of that sort
abbrev mutual
  pub Coerced : List Signature → List Coercion → List Binder → Tree → Tree → ℕ → Type 0
  Coerced sigs cs ctx (var x) e s = (e ≡ var x) × (b : Binder) × (slice_get ctx x ≡ Some b) × (b.sort ≡ s)
  Coerced sigs cs ctx (app t es) e s = (d : Signature) × (fs : Trees) × (slice_get sigs t ≡ Some d) × (d.result.sort ≡ s)
      × (e ≡ app t fs) × CoercedAll sigs cs ctx es d.params fs

  pub CoercedAll : List Signature → List Coercion → List Binder → Trees → List Binder → Trees → Type 0
  CoercedAll sigs cs ctx none [] fs = fs ≡ none
  CoercedAll sigs cs ctx none (b ∷ bs) fs = ⊥
  CoercedAll sigs cs ctx (more e es) [] fs = ⊥
  CoercedAll sigs cs ctx (more e es) (b ∷ bs) fs = (f : Tree) × (s : ℕ) × (path : List ℕ) × (gs : Trees)
      × Coerced sigs cs ctx e f s × IsPath cs s path b.sort × (b.bound ≡ true → IsBoundVar ctx (wrapped cs path f))
      × (fs ≡ more (wrapped cs path f) gs) × CoercedAll sigs cs ctx es bs gs

-- ---- the whole

-- a definition's body is wrapped to the result sort; a formula isn't, but for its own rule
abbrev pub IsSettled : List Coercion → Wanted → Tree → ℕ → Tree → Type 0
IsSettled cs (of_sort goal) e s f = (path : List ℕ) × IsPath cs s path goal × (f ≡ wrapped cs path e)
IsSettled cs provable e s f = f ≡ e

-- the sort is s itself, where that is provable, else the one provable sort that s reaches
abbrev pub IsGoal : List Declaration → List Coercion → ℕ → ℕ → Type 0
IsGoal env cs s goal = ((goal ≡ s) × MayBeClaimSort (sorts env) s)
    ⊎ ((MayBeClaimSort (sorts env) s → ⊥) × MayBeClaimSort (sorts env) goal
    × ((other : ℕ) (path : List ℕ) → MayBeClaimSort (sorts env) other → IsPath cs s path other → other ≡ goal))

-- a formula is wrapped to a provable sort
abbrev pub IsClaimed : List Declaration → List Coercion → Wanted → Tree → ℕ → Tree → Type 0
IsClaimed env cs (of_sort goal) e s f = f ≡ e
IsClaimed env cs provable e s f = (goal : ℕ) × (path : List ℕ) × IsGoal env cs s goal × IsPath cs s path goal × (f ≡ wrapped cs path e)

-- the height; a leaf has height 1
abbrev mutual
  pub height : Tree → ℕ
  height (var x) = 1
  height (app t es) = suc (trees_height es)

  pub trees_height : Trees → ℕ
  trees_height none = 0
  trees_height (more e es) = max (height e) (trees_height es)
