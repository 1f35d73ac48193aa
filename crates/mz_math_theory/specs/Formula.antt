-- What a math string stands for, and the first rule that it breaks (mm0.md, sections on math strings, notations and
-- coercions; the order of rules and the limits are this project's own).
use Rattle.std.specs.Prelude.{◌≤◌, ⊤, ℕ, List, length}
use Rattle.mz_base.specs.Checks.{Checks, demand, ◌>>◌, each_in_order, AllHold, FailsFirst}
use Rattle.mz_lex.specs.declared.rule.S.{S}
use Rattle.mz_lex.specs.declared.rule.S.TheVariants as rules
use Rattle.mz_logic_theory.specs.Tree.{Tree}
use Rattle.mz_logic_theory.specs.View.{tree}
use Rattle.mz_logic_theory.specs.Declaration.{Declaration, signatures}
use Rattle.mz_math_theory.specs.Notation.{Table, Variables}
use Rattle.mz_lex.specs.MathTokens.{MathTokens, token_text, token_texts}
use Rattle.mz_lex.specs.declared.tokens.MathToken.{MathToken}
use Rattle.mz_math_theory.specs.Grammar.{Words, words_of, Exp, IsKnown}
use Rattle.mz_math_theory.specs.Meaning.{Wanted, Coerced, IsSettled, IsClaimed, height}
use Rattle.mz_math_theory.specs.declared.wanted.Parsed.{Parsed}
use Rattle.mz_math_theory.specs.declared.wanted.Parsed.TheVariants as parsed

-- at most so many tokens, and at most so high
abbrev pub most : ℕ
most = 4096

-- what a math string is read over: the declarations so far, the table, and the statement's variables
pub record Reader : Type 0 where
  pub env : List Declaration
  pub table : Table
  pub scope : Variables

abbrev pub words : Reader → Words
words r = words_of r.table (signatures r.env) r.scope.names

-- ---- the tree of the tokens, and what it stands for

abbrev pub HasTree : Reader → List (List ℕ) → Type 0
HasTree r tokens = (t : Tree) × Exp (words r) 0 t tokens

-- e stands for the tokens' tree, its operands wrapped, and the whole to a sort that is wanted; s is
-- the sort of the tree itself
abbrev pub StandsFor : Reader → Wanted → List (List ℕ) → Tree → ℕ → Type 0
StandsFor r wanted tokens e s = (t : Tree) × (f : Tree) × Exp (words r) 0 t tokens
    × Coerced (signatures r.env) r.table.coercions r.scope.binders t f s × IsSettled r.table.coercions wanted f s e

-- and e is this with the coercion to a provable sort, where that is wanted
abbrev pub Means : Reader → Wanted → List (List ℕ) → Tree → Type 0
Means r wanted tokens e = (f : Tree) × (s : ℕ) × StandsFor r wanted tokens f s × IsClaimed r.env r.table.coercions wanted f s e

-- ---- the rules in order

-- a rule, and the byte of the math string at which it is reported
pub record Misreading : Type 0 where
  pub at : ℕ
  pub rule : S

abbrev pub breaks : S → Misreading
breaks rule = record { at = 0; rule = rule }

abbrev pub is_known : Words → List ℕ → MathToken → Checks Misreading
is_known ws text p = demand (record { at = p.from; rule = rules.MathToken }) (IsKnown ws (token_text text p))

abbrev pub known_checks : Words → List ℕ → List MathToken → Checks Misreading
known_checks ws text ps = each_in_order (is_known ws text) ps

-- what is asked of tokens: there aren't too many, they have a tree, its operands can be wrapped and
-- the whole to a sort that is wanted, it isn't too high, and it has one provable sort where that is wanted
abbrev pub token_checks : Reader → Wanted → List (List ℕ) → Checks Misreading
token_checks r wanted tokens =
    demand (breaks rules.Depth) (length tokens ≤ most)
    >> demand (breaks rules.MathSyntax) (HasTree r tokens)
    >> demand (breaks rules.NoCoercion) ((e : Tree) × (s : ℕ) × StandsFor r wanted tokens e s)
    >> demand (breaks rules.Depth) ((e : Tree) × (s : ℕ) × StandsFor r wanted tokens e s × (height e ≤ most))
    >> demand (breaks rules.NotProvable) ((e : Tree) × Means r wanted tokens e)

abbrev pub formula_checks : Reader → Wanted → List ℕ → List MathToken → Checks Misreading
formula_checks r wanted text ps = known_checks (words r) text ps >> token_checks r wanted (token_texts text ps)

-- ---- answers

-- the text between the `$` of a math string is right, and means the expression
abbrev pub IsFormula : Reader → Wanted → List ℕ → Tree → Type 0
IsFormula r wanted text e = (ps : List MathToken) × MathTokens r.table.delimiters text ps × AllHold (formula_checks r wanted text ps) × Means r wanted (token_texts text ps) e

-- or this is the first rule that it breaks
abbrev pub Misreads : Reader → Wanted → List ℕ → Misreading → Type 0
Misreads r wanted text m = (ps : List MathToken) × MathTokens r.table.delimiters text ps × FailsFirst (formula_checks r wanted text ps) m

abbrev pub IsParsed : Reader → Wanted → List ℕ → Parsed → Type 0
IsParsed r wanted text (parsed.Tree e) = IsFormula r wanted text (tree e)
IsParsed r wanted text (parsed.Refused at rule) = Misreads r wanted text (record { at = at; rule = rule })
IsParsed r wanted text parsed.Mem = ⊤
