-- The steps of the parser: how far an expression has been read, and the expressions around it.
use Rattle.std.specs.Prelude.{◌≡◌, ◌≤◌, ◌<◌, ◌+◌, ◌-◌, ◌*◌, ◌^◌, ⊤, ℕ, List, [], ◌∷◌, Bool, false, not, drop, codes, Option, option_map, MatchOption, Contains}
use Rattle.mz_logic_theory.specs.Tree.{Tree, Trees, app}
use Rattle.mz_logic_theory.specs.View.{tree}
use Rattle.mz_math_theory.specs.Grammar.{Words, Item, token, expr, items, operands_at_max, last_level, notated_tree, head_level, applied}
use Rattle.mz_math_theory.specs.declared.notation.Notation.{Notation}
use Rattle.mz_math_theory.specs.Clear.{JoinedBy}
use Rattle.mz_math_theory.specs.Lookups.{NoInfix}
use Rattle.mz_math_theory.specs.Reading.{IsRead, NoReading, IsBegun, ArePartsRead, NoParts}
use Rattle.mz_math.specs.declared.form.Form.{Form}
use Rattle.mz_math.specs.declared.form.Form.TheVariants as forms
use Rattle.mz_math.specs.declared.form.Part.{Part}
use Rattle.mz_math.specs.declared.form.Part.TheVariants as parts
use Rattle.mz_math.specs.declared.parser.Ahead.{Ahead}
use Rattle.mz_math.specs.declared.parser.Found.{Found}
use Rattle.mz_math.specs.declared.parser.Pending.{Pending}
use Rattle.mz_math.specs.declared.parser.Outer.{Outer}
use Rattle.mz_math.specs.declared.parser.Outer.TheVariants as outers
use Rattle.mz_math.specs.declared.parser.Step.{Step}
use Rattle.mz_math.specs.declared.parser.Step.TheVariants as steps
use Rattle.mz_math_theory.specs.FormulaAnswers.{IsMaxBefore}

-- ---- forms

-- what a form asks for, from a part on
abbrev pub asked : Form → ℕ → List Item
asked (forms.Term t n) from = operands_at_max (n - from)
asked (forms.Leading k) from = items (drop from k.now.elements) k.now.level
asked (forms.Infix k) from = items (drop from k.now.elements) (last_level k.now)

-- the part stands first, behind so many others
abbrev pub IsNextPart : Part → ℕ → List Item → List Item → Type 0
IsNextPart parts.End from its after = its ≡ []
IsNextPart (parts.Constant c) from its after = (its ≡ token c.now ∷ after) × (from + 1 < 2 ^ 64)
IsNextPart (parts.Operand l) from its after = (its ≡ expr l ∷ after) × IsMaxBefore l after × (from + 1 < 2 ^ 64)

-- what a form makes of operands, its precedence, and whether that's an infix form that groups to the left
abbrev pub tree_made : Form → Trees → Tree
tree_made (forms.Term t n) es = app t es
tree_made (forms.Leading k) es = notated_tree k.now es
tree_made (forms.Infix k) es = notated_tree k.now es

abbrev pub level_made : Form → ℕ
level_made (forms.Term t n) = head_level (applied [] 0 n)
level_made (forms.Leading k) = k.now.level
level_made (forms.Infix k) = k.now.level

abbrev pub is_left_made : Form → Bool
is_left_made (forms.Term t n) = false
is_left_made (forms.Leading k) = false
is_left_made (forms.Infix k) = not k.now.is_right

-- ---- steps

-- with the parts by these items, where they stand next, the tokens from `from` on begin with an expression of the precedence
-- that is made of all operands, if its own precedence is as high; and without them or where it is lower they don't
pub record IsUnderWay (ws : Words) (level : ℕ) (from here : List (List ℕ)) (its : List Item) (es : Trees) (make : Trees → Tree) (own : ℕ) (left : Bool) : Type 0 where
  pub begun : (rest : List (List ℕ)) (fs : Trees) → ArePartsRead ws its here rest es fs → level ≤ own → IsBegun ws level from rest (make fs) own left
  pub low : (rest : List (List ℕ)) (fs : Trees) → ArePartsRead ws its here rest es fs → own < level → NoReading ws level from
  pub never : NoParts ws its here → NoReading ws level from

-- the same, where the items are these
abbrev pub IsFormUnderWay : Words → List (List ℕ) → List (List ℕ) → List Item → Pending → Type 0
IsFormUnderWay ws from here its p = IsUnderWay ws p.level from here its p.operands (tree_made p.form) (level_made p.form) (is_left_made p.form)

abbrev pub IsPending : Words → List (List ℕ) → List (List ℕ) → Pending → Type 0
IsPending ws from here p = IsFormUnderWay ws from here (asked p.form p.part) p

abbrev pub IsBegunAs : Words → ℕ → List (List ℕ) → List (List ℕ) → Found → Type 0
IsBegunAs ws level from here f = IsBegun ws level from here (tree f.tree) f.level f.is_left

-- where a token stands next, this is the infix notation that it joins, if there is one
abbrev pub JoinsNext : Words → List (List ℕ) → Option Notation → Type 0
JoinsNext ws here o = (w : List ℕ) (rest : List (List ℕ)) → here ≡ w ∷ rest → MatchOption o (NoInfix ws w) (λ k. Contains ws.infixes k × JoinedBy k w)

abbrev pub IsAhead : Words → List (List ℕ) → Ahead → Type 0
IsAhead ws tokens a = JoinsNext ws (drop a.at tokens) (option_map (λ k. k.now) a.joining)

-- the precedence of the expression around
abbrev pub outer_level : Outer → ℕ
outer_level (outers.Parens level) = level
outer_level (outers.Operand p) = p.level

-- an expression that begins at `from` has been read up to one of a precedence that begins here
abbrev pub Waits : Words → List (List ℕ) → List (List ℕ) → ℕ → Outer → Type 0
Waits ws from here l (outers.Parens level) = (from ≡ codes "(" ∷ here) × (l ≡ 0)
Waits ws from here l (outers.Operand p) = IsMaxBefore l (asked p.form p.part) × IsFormUnderWay ws from here (expr l ∷ asked p.form p.part) p

-- what a step says of the expression of a precedence that begins at `from`
abbrev pub Says : Words → List (List ℕ) → List (List ℕ) → ℕ → Step → Type 0
Says ws tokens from level (steps.Inner o l at) = (outer_level o ≡ level) × Waits ws from (drop at tokens) l o
Says ws tokens from level (steps.Parts p at) = (p.level ≡ level) × IsPending ws from (drop at tokens) p
Says ws tokens from level (steps.Begun f l) = (l ≡ level) × IsBegunAs ws l from (drop f.next tokens) f
Says ws tokens from level (steps.Whole f) = IsRead ws level from (drop f.next tokens) (tree f.tree)
Says ws tokens from level steps.No = NoReading ws level from
Says ws tokens from level steps.Mem = ⊤

-- more than the turns that are left, of so many tokens, but for those behind the expressions around
abbrev pub turns : ℕ → Step → ℕ
turns many (steps.Inner o l at) = 8 * (many - at) + 4
turns many (steps.Parts p at) = 8 * (many - at) + 5
turns many (steps.Begun f l) = 8 * (many - f.next) + 4
turns many (steps.Whole f) = 8 * (many - f.next) + 3
turns many steps.No = 0
turns many steps.Mem = 0
