-- Expressions as tokens in prefix form, which need no notation, and what they are read over (mm0.md, section on
-- notations: a term's name and its operands, an operand of an application in parentheses).
use Rattle.std.specs.Prelude.{◌≡◌, ◌≢◌, ◌<◌, ◌≤◌, ◌++◌, ℕ, List, [], ◌∷◌, length, Some, slice_get, Contains, codes}
use Rattle.mz_logic_theory.specs.Tree.{Tree, Trees, var, app, none, more}
use Rattle.mz_logic_theory.specs.Declaration.{sorts}
use Rattle.mz_logic_theory.specs.Modifiers.{MayBeClaimSort}
use Rattle.mz_math_theory.specs.Notation.{TermName}
use Rattle.mz_lex.specs.MathTokens.{no_delimiters}
use Rattle.mz_math_theory.specs.Grammar.{Words, IsVariable}
use Rattle.mz_math_theory.specs.declared.wanted.Wanted.{Wanted}
use Rattle.mz_math_theory.specs.declared.wanted.Wanted.TheVariants.{Provable as provable, Sort as of_sort}
use Rattle.mz_math_theory.specs.Meaning.{height}
use Rattle.mz_math_theory.specs.Formula.{Reader, most}
use Rattle.mz_prefix.specs.Lines.{Tokens}

-- the tokens, where terms and variables have these names by their numbers
abbrev mutual
  pub tokens_of : (ℕ → List ℕ) → (ℕ → List ℕ) → Tree → Tokens
  tokens_of term variable (var x) = variable x ∷ []
  tokens_of term variable (app t es) = term t ∷ operand_tokens term variable es

  pub operand_tokens : (ℕ → List ℕ) → (ℕ → List ℕ) → Trees → Tokens
  operand_tokens term variable none = []
  operand_tokens term variable (more e es) = enclosed term variable e ++ operand_tokens term variable es

  -- in parentheses where it has operands itself
  pub enclosed : (ℕ → List ℕ) → (ℕ → List ℕ) → Tree → Tokens
  enclosed term variable (var x) = variable x ∷ []
  enclosed term variable (app t none) = term t ∷ []
  enclosed term variable (app t (more e es)) = codes "(" ∷ (term t ∷ (enclosed term variable e ++ operand_tokens term variable es) ++ codes ")" ∷ [])

-- without notations, each variable and term is found by its name; no variable is named as a term
pub record IsSpoken (ws : Words) (term variable : ℕ → List ℕ) : Type 0 where
  pub plain : ws.leading ≡ []
  pub variables : (x : ℕ) → x < length ws.variables → (variable x ≢ []) × (slice_get ws.variables x ≡ Some (variable x))
  pub terms : (t : ℕ) → t < length ws.signatures → (a : TermName) × Contains ws.names a × (a.name ≡ term t) × (a.term ≡ t)
  pub apart : (t : ℕ) → t < length ws.signatures → IsVariable ws (term t) → ⊥

-- nothing has been declared for math strings but names of terms
pub record HasNoNotation (r : Reader) : Type 0 where
  pub delimiters : r.table.delimiters ≡ no_delimiters
  pub leading : r.table.leading ≡ []

-- an expression of a sort that is wanted, within the limits
abbrev pub IsOfWanted : Reader → Wanted → ℕ → Type 0
IsOfWanted r provable s = MayBeClaimSort (sorts r.env) s
IsOfWanted r (of_sort goal) s = s ≡ goal

pub record IsShort (tokens : Tokens) (e : Tree) : Type 0 where
  pub few : length tokens ≤ most
  pub low : height e ≤ most
