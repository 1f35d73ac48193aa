-- What is known of a tree before its operands are wrapped, and the provable sort among those that a walk along coercions has reached.
use Rattle.std.specs.Prelude.{◌≡◌, ◌+◌, ℕ, List, length}
use Rattle.mz_logic_theory.specs.Tree.{Tree}
use Rattle.mz_logic_theory.specs.Signature.{Signature}
use Rattle.mz_logic_theory.specs.Declaration.{Declaration, sorts}
use Rattle.mz_logic_theory.specs.Modifiers.{MayBeClaimSort}
use Rattle.mz_logic_theory.specs.declared.binder.Binder.{Binder}
use Rattle.mz_math_theory.specs.declared.coercion.Coercion.{Coercion}
use Rattle.mz_math_theory.specs.declared.wanted.Parsed.{Parsed}
use Rattle.mz_math_theory.specs.declared.wanted.Wanted.{Wanted}
use Rattle.mz_math_theory.specs.CoercionAnswers.{HasLength}
use Rattle.mz_math_theory.specs.Formula.{most}
use Rattle.mz_math_theory.specs.FormulaAnswers.{IsJudged, settled}
use Rattle.mz_math_theory.specs.Kept.{AreVariables, IsTable}
use Rattle.mz_math_theory.specs.Meaning.{Coerced}
use Rattle.mz_math_theory.specs.Notation.{Table, Variables}
use Rattle.mz_math_coercions.specs.Reached.{Has}
use Rattle.mz_math.specs.declared.formula.Root.{Root}

-- what the tree stands for has this sort, which has a path to the sort to which the whole is wrapped;
-- over what is so high as is said the path makes nothing that is too high
abbrev pub IsRootOf : List Signature → List Coercion → List Binder → Wanted → Tree → Root → Type 0
IsRootOf sigs cs ctx wanted t root = ((e : Tree) × Coerced sigs cs ctx t e root.sort) × (root.goal ≡ settled wanted root.sort)
    × (many : ℕ) × HasLength cs (length cs) root.sort root.goal many × (many + root.most ≡ most)

-- it is judged so over any table and variables that have these coercions and binders
abbrev pub IsJudgedOver : List Declaration → List Coercion → List Binder → Wanted → Tree → Parsed → Type 0
IsJudgedOver env cs ctx wanted t answer = (table : Table) (scope : Variables) → IsTable table → AreVariables scope.names → cs ≡ table.coercions → ctx ≡ scope.binders
    → IsJudged (record { env = env; table = table; scope = scope }) wanted t answer

-- the sort is provable and reached, and no other one is
abbrev pub IsOnlyClaim : List Declaration → List (ℕ × ℕ) → ℕ → Type 0
IsOnlyClaim env steps goal = MayBeClaimSort (sorts env) goal × Has steps goal × ((t : ℕ) → MayBeClaimSort (sorts env) t → Has steps t → t ≡ goal)
