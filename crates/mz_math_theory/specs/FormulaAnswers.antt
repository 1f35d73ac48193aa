-- What the calls within the crate answer.
use Rattle.std.specs.Prelude.{◌≡◌, ◌≤◌, ◌<◌, ◌⊎◌, true, false, ⊤, ℕ, List, Bool, Some, None, Option, length, [], ◌∷◌}
use Rattle.mz_base.specs.Checks.{AllHold, FailsFirst}
use Rattle.mz_lex.specs.declared.rule.S.TheVariants as rules
use Rattle.mz_logic_theory.specs.Tree.{Tree, Trees, none, more, followed_by}
use Rattle.mz_logic_theory.specs.View.{tree}
use Rattle.mz_logic_theory.specs.Signature.{Signature}
use Rattle.mz_logic_theory.specs.Declaration.{Declaration}
use Rattle.mz_logic_theory.specs.Sorts.{IsBoundVar}
use Rattle.mz_logic_theory.specs.declared.binder.Binder.{Binder}
use Rattle.mz_lex.specs.declared.tokens.MathToken.{MathToken}
use Rattle.mz_math_theory.specs.Notation.{above, max_level}
use Rattle.mz_math_theory.specs.declared.notation.Notation.{Notation}
use Rattle.mz_math_theory.specs.declared.coercion.Coercion.{Coercion}
use Rattle.mz_math_theory.specs.Coercions.{IsPath, wrapped}
use Rattle.mz_math_theory.specs.Grammar.{Words, Exp, Item, token, expr}
use Rattle.mz_math_theory.specs.Meaning.{Wanted, provable, of_sort, Coerced, CoercedAll, IsClaimed, height, trees_height}
use Rattle.mz_math_theory.specs.Formula.{Reader, words, known_checks, token_checks, Means, most}
use Rattle.mz_math_theory.specs.declared.built.Built.{Built}
use Rattle.mz_math_theory.specs.declared.built.Built.TheVariants as built
use Rattle.mz_math_theory.specs.declared.built.Added.{Added}
use Rattle.mz_math_theory.specs.declared.built.Added.TheVariants as added
use Rattle.mz_math_theory.specs.declared.wanted.Parsed.{Parsed}
use Rattle.mz_math_theory.specs.declared.wanted.Parsed.TheVariants as parsed
use Rattle.mz_math_theory.specs.declared.syntax.Syntax.{Syntax}
use Rattle.mz_math_theory.specs.declared.syntax.Syntax.TheVariants as syntax

-- ---- meaning

-- g is the operand e wrapped to its parameter's sort
abbrev pub FitsParam : List Signature → List Coercion → List Binder → Tree → Binder → Tree → Type 0
FitsParam sigs cs ctx e b g = (f : Tree) × (s : ℕ) × (path : List ℕ) × Coerced sigs cs ctx e f s × IsPath cs s path b.sort
    × (b.bound ≡ true → IsBoundVar ctx (wrapped cs path f)) × (g ≡ wrapped cs path f)

-- what a tree stands for, where that is at most so high
abbrev pub IsBuilt : List Signature → List Coercion → List Binder → Tree → ℕ → Built → Type 0
IsBuilt sigs cs ctx t high (built.Tree e) = (s : ℕ) × Coerced sigs cs ctx t (tree e) s × (height (tree e) ≤ high)
IsBuilt sigs cs ctx t high built.High = (e : Tree) (s : ℕ) → Coerced sigs cs ctx t e s → high < height e
IsBuilt sigs cs ctx t high built.Mem = ⊤

-- it's added to a list as an operand of the parameter
abbrev pub IsAdded : List Signature → List Coercion → List Binder → Tree → Binder → ℕ → Trees → Trees → Added → Type 0
IsAdded sigs cs ctx t b high before after added.Done = (f : Tree) × FitsParam sigs cs ctx t b f × (height f ≤ high) × (after ≡ followed_by before (more f none))
IsAdded sigs cs ctx t b high before after added.High = (f : Tree) → FitsParam sigs cs ctx t b f → high < height f
IsAdded sigs cs ctx t b high before after added.Mem = ⊤

-- and these to an empty one
abbrev pub AreAdded : List Signature → List Coercion → List Binder → Trees → List Binder → ℕ → Trees → Added → Type 0
AreAdded sigs cs ctx es bs high fs added.Done = CoercedAll sigs cs ctx es bs fs × (trees_height fs ≤ high)
AreAdded sigs cs ctx es bs high fs added.High = (gs : Trees) → CoercedAll sigs cs ctx es bs gs → high < trees_height gs
AreAdded sigs cs ctx es bs high fs added.Mem = ⊤

-- an expression is added, wrapped from a sort to another
abbrev pub AddsWrapped : List Coercion → ℕ → ℕ → Tree → Trees → Trees → Added → Type 0
AddsWrapped cs s goal e before after added.Done = (path : List ℕ) × IsPath cs s path goal × (after ≡ followed_by before (more (wrapped cs path e) none))
AddsWrapped cs s goal e before after added.High = ⊥
AddsWrapped cs s goal e before after added.Mem = ⊤

-- ---- formulas

abbrev pub IsFirstUnknown : Words → List ℕ → List MathToken → Option ℕ → Type 0
IsFirstUnknown ws text ps None = AllHold (known_checks ws text ps)
IsFirstUnknown ws text ps (Some at) = FailsFirst (known_checks ws text ps) (record { at = at; rule = rules.MathToken })

abbrev pub settled : Wanted → ℕ → ℕ
settled provable s = s
settled (of_sort goal) s = goal

-- an expression of the sort s, wrapped to a provable sort where that is wanted
abbrev pub IsClaimRead : List Declaration → List Coercion → Wanted → Tree → ℕ → Parsed → Type 0
IsClaimRead env cs wanted e s (parsed.Tree f) = IsClaimed env cs wanted e s (tree f)
IsClaimRead env cs wanted e s (parsed.Refused at rule) = ((f : Tree) → IsClaimed env cs wanted e s f → ⊥) × (at ≡ 0) × (rule ≡ rules.NotProvable)
IsClaimRead env cs wanted e s parsed.Mem = ⊤

abbrev pub IsMeant : Reader → Wanted → List (List ℕ) → Parsed → Type 0
IsMeant r wanted tokens (parsed.Tree e) = AllHold (token_checks r wanted tokens) × Means r wanted tokens (tree e)
IsMeant r wanted tokens (parsed.Refused at rule) = FailsFirst (token_checks r wanted tokens) (record { at = at; rule = rule })
IsMeant r wanted tokens parsed.Mem = ⊤

-- of whatever tokens t is the tree
abbrev pub IsJudged : Reader → Wanted → Tree → Parsed → Type 0
IsJudged r wanted t answer = (tokens : List (List ℕ)) → length tokens ≤ most → Exp (words r) 0 t tokens → IsMeant r wanted tokens answer

-- ---- the parser

abbrev pub IfParsed : Words → List (List ℕ) → Syntax → Type 0
IfParsed ws tokens (syntax.Tree e) = Exp ws 0 (tree e) tokens
IfParsed ws tokens syntax.No = ⊤
IfParsed ws tokens syntax.Mem = ⊤

abbrev pub IfNotParsed : Words → List (List ℕ) → Syntax → Type 0
IfNotParsed ws tokens (syntax.Tree e) = ⊤
IfNotParsed ws tokens syntax.No = (t : Tree) → Exp ws 0 t tokens → ⊥
IfNotParsed ws tokens syntax.Mem = ⊤

-- the tokens aren't too many and have this tree; or they are, or have none
abbrev pub IsTreeOfFew : Words → List (List ℕ) → Syntax → Type 0
IsTreeOfFew ws tokens (syntax.Tree e) = (length tokens ≤ most) × Exp ws 0 (tree e) tokens
IsTreeOfFew ws tokens syntax.No = length tokens ≤ most → (t : Tree) → Exp ws 0 t tokens → ⊥
IsTreeOfFew ws tokens syntax.Mem = ⊤

-- what a first operand of a precedence, of a form that groups to the left or not, must be
abbrev pub MayLead : Notation → ℕ → Bool → Type 0
MayLead k level is_left = (above k.level ≤ level) ⊎ ((k.is_right ≡ false) × (is_left ≡ true) × (level ≡ k.level))

-- before an operand stands one at max
abbrev pub IsMaxBefore : ℕ → List Item → Type 0
IsMaxBefore l [] = ⊤
IsMaxBefore l (token c ∷ its) = ⊤
IsMaxBefore l (expr m ∷ its) = l ≡ max_level
