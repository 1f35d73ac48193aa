-- The notation grammar: how tokens make an expression, by precedence (mm0.md, section on notations).
use Rattle.std.specs.Prelude.{◌≡◌, ◌≢◌, ◌≤◌, ◌⊎◌, ◌+◌, ◌++◌, ◌==◌, ⊤, ℕ, zero, suc, List, [], ◌∷◌, length, false, Some, slice_get, Contains, if◌then◌else◌, codes}
use Rattle.mz_logic_theory.specs.Tree.{Tree, Trees, var, app, none, more, operand}
use Rattle.mz_logic_theory.specs.Signature.{Signature}
use Rattle.mz_math_theory.specs.Notation.{max_level, above, places, Table, TermName}
use Rattle.mz_math_theory.specs.declared.notation.Element.{Element}
use Rattle.mz_math_theory.specs.declared.notation.Element.TheVariants.{Fixed as fixed, Slot as slot}
use Rattle.mz_math_theory.specs.declared.notation.Notation.{Notation}
use Rattle.mz_math_theory.specs.Clear.{LedBy, HasConstant}

-- what a form asks for, one after another: a token, or an expression of a precedence
pub data Item : Type 0 where
  token : List ℕ → Item
  expr : ℕ → Item

-- the precedence of an operand, by what stands behind it: before a constant above the constant's precedence,
-- before an operand max, in the last place `last`
abbrev pub level_before : List Element → ℕ → ℕ
level_before [] last = last
level_before (fixed c q ∷ ls) last = above q
level_before (slot i ∷ ls) last = max_level

abbrev pub items : List Element → ℕ → List Item
items [] last = []
items (fixed c q ∷ ls) last = token c ∷ items ls last
items (slot i ∷ ls) last = expr (level_before ls last) ∷ items ls last

abbrev pub operands_at_max : ℕ → List Item
operands_at_max zero = []
operands_at_max (suc n) = expr max_level ∷ operands_at_max n

-- ---- the forms at an operand's place

-- a variable, by name and place; parentheses; a term by its name, with its number of parameters; a notation
pub data ParseHead : Type 0 where
  variable : List ℕ → ℕ → ParseHead
  parens : ParseHead
  applied : List ℕ → ℕ → ℕ → ParseHead
  notated : Notation → ParseHead

abbrev pub head_items : ParseHead → List Item
head_items (variable name x) = token name ∷ []
head_items parens = token (codes "(") ∷ expr 0 ∷ token (codes ")") ∷ []
head_items (applied name t n) = token name ∷ operands_at_max n
head_items (notated k) = items k.elements k.level

abbrev pub head_level : ParseHead → ℕ
head_level (variable name x) = max_level
head_level parens = max_level
head_level (applied name t zero) = max_level
head_level (applied name t (suc n)) = 1024
head_level (notated k) = k.level

-- ---- infix forms, from their constant on

abbrev pub behind_first : List Element → List Element
behind_first [] = []
behind_first (l ∷ ls) = ls

abbrev pub last_level : Notation → ℕ
last_level k = if k.is_right then k.level else above k.level

abbrev pub infix_items : Notation → List Item
infix_items k = items (behind_first k.elements) (last_level k)

-- ---- how tokens make an expression

mutual
  pub data Parse : Type 0 where
    headed : ParseHead → Parts → Parse
    joined : Notation → Parse → Parts → Parse

  pub data Parts : Type 0 where
    end : Parts
    word : List ℕ → Parts → Parts
    part : Parse → Parts → Parts

abbrev pub level_of : Parse → ℕ
level_of (headed h ps) = head_level h
level_of (joined k p ps) = k.level

-- the tokens, in order
abbrev mutual
  pub tokens_of : Parse → List (List ℕ)
  tokens_of (headed h ps) = part_tokens ps
  tokens_of (joined k p ps) = tokens_of p ++ part_tokens ps

  pub part_tokens : Parts → List (List ℕ)
  part_tokens end = []
  part_tokens (word w ps) = w ∷ part_tokens ps
  part_tokens (part p ps) = tokens_of p ++ part_tokens ps

-- ---- the tree

-- the operand of a parameter, of operands that stand in the order of the elements
abbrev pub operand_for : List ℕ → Trees → ℕ → Tree
operand_for [] es i = operand none i
operand_for (j ∷ js) none i = operand none i
operand_for (j ∷ js) (more e es) i = if j == i then e else operand_for js es i

-- the operands of the parameters from `from` on
abbrev pub arranged : List ℕ → Trees → ℕ → ℕ → Trees
arranged js es from zero = none
arranged js es from (suc n) = more (operand_for js es from) (arranged js es (from + 1) n)

abbrev pub notated_tree : Notation → Trees → Tree
notated_tree k es = app k.term (arranged (places k.elements) es 0 (length (places k.elements)))

abbrev pub head_tree : ParseHead → Trees → Tree
head_tree (variable name x) es = var x
head_tree parens es = operand es 0
head_tree (applied name t n) es = app t es
head_tree (notated k) es = notated_tree k es

abbrev mutual
  pub tree_of : Parse → Tree
  tree_of (headed h ps) = head_tree h (part_trees ps)
  tree_of (joined k p ps) = notated_tree k (more (tree_of p) (part_trees ps))

  pub part_trees : Parts → Trees
  part_trees end = none
  part_trees (word w ps) = part_trees ps
  part_trees (part p ps) = more (tree_of p) (part_trees ps)

-- ---- which are right

-- what a math string is read with: the notations, the names of terms, the terms' signatures, and the
-- names of the statement's variables, dummies included, by place; a name is empty where there is none
pub record Words : Type 0 where
  pub leading : List Notation
  pub infixes : List Notation
  pub names : List TermName
  pub signatures : List Signature
  pub variables : List (List ℕ)

abbrev pub words_of : Table → List Signature → List (List ℕ) → Words
words_of t sigs variables = record { leading = t.leading; infixes = t.infixes; names = t.names; signatures = sigs; variables = variables }

abbrev pub IsVariable : Words → List ℕ → Type 0
IsVariable ws w = (w ≢ []) × Contains ws.variables w

abbrev pub IsLeading : Words → List ℕ → Type 0
IsLeading ws w = (k : Notation) × Contains ws.leading k × LedBy k w

-- a term t of n parameters has this name
abbrev pub IsTermName : Words → List ℕ → ℕ → ℕ → Type 0
IsTermName ws w t n = (a : TermName) × Contains ws.names a × (a.name ≡ w) × (a.term ≡ t)
    × ((d : Signature) × (slice_get ws.signatures t ≡ Some d) × (length d.params ≡ n))

-- a token is first a variable, then a leading constant, then a term's name
abbrev pub IsHead : Words → ParseHead → Type 0
IsHead ws (variable name x) = (name ≢ []) × (slice_get ws.variables x ≡ Some name)
IsHead ws parens = ⊤
IsHead ws (applied name t n) = IsTermName ws name t n × (IsVariable ws name → ⊥) × (IsLeading ws name → ⊥)
IsHead ws (notated k) = Contains ws.leading k × ((w : List ℕ) → LedBy k w → IsVariable ws w → ⊥)

-- an infix form that groups to the left
abbrev pub IsLeftForm : Parse → Type 0
IsLeftForm (headed h ps) = ⊥
IsLeftForm (joined k p ps) = k.is_right ≡ false

-- the operand before an infix constant: above its precedence, or of a form of its precedence where both group to the left
abbrev pub CanLead : Notation → Parse → Type 0
CanLead k p = (above k.level ≤ level_of p) ⊎ ((k.is_right ≡ false) × IsLeftForm p × (level_of p ≡ k.level))

abbrev mutual
  pub IsExp : Words → Parse → Type 0
  IsExp ws (headed h ps) = IsHead ws h × AreParts ws (head_items h) ps
  IsExp ws (joined k p ps) = Contains ws.infixes k × CanLead k p × IsExp ws p × AreParts ws (infix_items k) ps

  pub AreParts : Words → List Item → Parts → Type 0
  AreParts ws [] end = ⊤
  AreParts ws [] (word w ps) = ⊥
  AreParts ws [] (part p ps) = ⊥
  AreParts ws (token v ∷ its) end = ⊥
  AreParts ws (token v ∷ its) (word w ps) = (w ≡ v) × AreParts ws its ps
  AreParts ws (token v ∷ its) (part p ps) = ⊥
  AreParts ws (expr l ∷ its) end = ⊥
  AreParts ws (expr l ∷ its) (word w ps) = ⊥
  AreParts ws (expr l ∷ its) (part p ps) = (l ≤ level_of p) × IsExp ws p × AreParts ws its ps

-- the tokens make this tree, as an expression of a precedence
abbrev pub Exp : Words → ℕ → Tree → List (List ℕ) → Type 0
Exp ws level tree tokens = (p : Parse) × IsExp ws p × (level ≤ level_of p) × (tokens_of p ≡ tokens) × (tree_of p ≡ tree)

-- ---- which tokens are known

abbrev pub IsNamed : Words → List ℕ → Type 0
IsNamed ws w = (a : TermName) × Contains ws.names a × (a.name ≡ w)

abbrev pub IsSomeConstant : Words → List ℕ → Type 0
IsSomeConstant ws w = (q : ℕ) × (HasConstant ws.leading w q ⊎ HasConstant ws.infixes w q)

-- a variable, a parenthesis, a constant of a notation, or a term's name
abbrev pub IsKnown : Words → List ℕ → Type 0
IsKnown ws w = IsVariable ws w ⊎ (w ≡ codes "(") ⊎ (w ≡ codes ")") ⊎ IsSomeConstant ws w ⊎ IsNamed ws w
