-- The statements of a specification, and which lexemes spell them (mm0.md, section on the grammar).
use Rattle.std.specs.Prelude.{◌≡◌, ◌⊎◌, ◌++◌, ⊤, ℕ, List, [], ◌∷◌, Bool, true, false, not, Option, Some, None, if◌then◌else◌, codes}
use Rattle.mz_lex.specs.declared.token.TokenKind.TheVariants as kinds
use Rattle.mz_lex.specs.Lexemes.{Lexeme}
use Rattle.mz_spec_theory.specs.declared.kind.AssertKind.{AssertKind}
use Rattle.mz_spec_theory.specs.declared.kind.AssertKind.TheVariants.{Axiom, Theorem}
use Rattle.mz_spec_theory.specs.declared.kind.Kind.{Kind}
use Rattle.mz_spec_theory.specs.declared.kind.Kind.TheVariants.{Term, Assert, Definition, Notation}
use Rattle.mz_spec_theory.specs.declared.kind.Fixity.{Fixity}
use Rattle.mz_spec_theory.specs.declared.kind.Fixity.TheVariants.{InfixLeft, InfixRight, Prefix}

-- ---- statements, whose leaves are lexemes with their places

-- the modifiers that may stand before `sort`
pub record Modifiers : Type 0 where
  pub is_pure : Bool
  pub is_strict : Bool
  pub is_provable : Bool
  pub is_free : Bool

-- a sort, and the names on which something depends
pub record TypeText : Type 0 where
  pub sort : Lexeme
  pub deps : List Lexeme

-- what stands behind the colon of a group or before a `>`
pub data Source : Type 0 where
  type_source : TypeText → Source
  formula_source : Lexeme → Source

-- a name of a group, or `_`; a dot before it makes a dummy
pub record NameText : Type 0 where
  pub is_dummy : Bool
  pub name : Lexeme

-- names in braces or round brackets, and their type or formula; braces bind variables
pub record Group : Type 0 where
  pub is_bound : Bool
  pub names : List NameText
  pub source : Source

-- the name of a statement, and the groups behind it
pub record Head : Type 0 where
  pub name : Lexeme
  pub groups : List Group

-- how tightly a constant binds
pub data Level : Type 0 where
  number_level : Lexeme → Level
  level_max : Level

-- a part of a notation: a constant with its precedence, or the name of a parameter
pub data LiteralText : Type 0 where
  constant_literal : Lexeme → Level → LiteralText
  name_literal : Lexeme → LiteralText

-- the precedence of a notation that begins with a parameter, and whether it groups to the right
pub record TailText : Type 0 where
  pub level : Level
  pub is_right : Bool

-- a term has types before each `>`, and that of its result; an axiom or a theorem has types and
-- hypotheses before each `>`, and a conclusion; of a notation's literals the last one stands apart
pub data SpecStatement : Type 0 where
  sort_statement : Modifiers → (name : Lexeme) → SpecStatement
  term_statement : Head → (arguments : List TypeText) → (result : TypeText) → SpecStatement
  assert_statement : AssertKind → Head → (premises : List Source) → (conclusion : Lexeme) → SpecStatement
  definition_statement : Head → (result : TypeText) → (body : Option Lexeme) → SpecStatement
  operator_statement : Fixity → (name constant : Lexeme) → Level → SpecStatement
  coercion_statement : (name from to : Lexeme) → SpecStatement
  delimiter_statement : (left : Lexeme) → (right : Option Lexeme) → SpecStatement
  notation_statement : Head → (result : TypeText) → (literals : List LiteralText) → (last : LiteralText) → Option TailText → SpecStatement

-- ---- the grammar: a statement as a list of signs

-- a keyword; a symbol; a name, a name or `_`, a math string, a number, which is this lexeme; a sign
-- that may stand only under a condition
pub data Sign : Type 0 where
  keyword : List ℕ → Sign
  symbol : List ℕ → Sign
  name : Lexeme → Sign
  name_or_blank : Lexeme → Sign
  formula : Lexeme → Sign
  number : Lexeme → Sign
  only_if : Bool → Sign → Sign

abbrev pub IsSign : Sign → Lexeme → Type 0
IsSign (keyword text) l = (l.kind ≡ kinds.Name) × (l.text ≡ text)
IsSign (symbol text) l = (l.kind ≡ kinds.Symbol) × (l.text ≡ text)
IsSign (name u) l = (l.kind ≡ kinds.Name) × (l ≡ u)
IsSign (name_or_blank u) l = ((l.kind ≡ kinds.Name) ⊎ ((l.kind ≡ kinds.Symbol) × (l.text ≡ codes "_"))) × (l ≡ u)
IsSign (formula u) l = (l.kind ≡ kinds.Math) × (l ≡ u)
IsSign (number u) l = (l.kind ≡ kinds.Number) × (l ≡ u)
IsSign (only_if b s) l = (b ≡ true) × IsSign s l

-- one lexeme for each sign
abbrev pub AreSigns : List Sign → List Lexeme → Type 0
AreSigns [] [] = ⊤
AreSigns [] (l ∷ ls) = ⊥
AreSigns (s ∷ ss) [] = ⊥
AreSigns (s ∷ ss) (l ∷ ls) = IsSign s l × AreSigns ss ls

abbrev pub optional : Bool → List ℕ → List Sign
optional present text = if present then keyword text ∷ [] else []

-- the signs of each, one after the other
abbrev pub each : {A : Type 0} → (A → List Sign) → List A → List Sign
each f [] = []
each f (x ∷ xs) = f x ++ each f xs

-- `;`
abbrev pub end_signs : List Sign
end_signs = symbol (codes ";") ∷ []

-- 'pure'? 'strict'? 'provable'? 'free'?
abbrev pub modifier_signs : Modifiers → List Sign
modifier_signs m = optional m.is_pure (codes "pure") ++ (optional m.is_strict (codes "strict") ++ (optional m.is_provable (codes "provable") ++ optional m.is_free (codes "free")))

abbrev pub type_signs : TypeText → List Sign
type_signs t = name t.sort ∷ each (λ d. name d ∷ []) t.deps

-- ---- groups

-- only definitions have dummies
abbrev pub takes_dummies : Kind → Bool
takes_dummies Term = false
takes_dummies (Assert a) = false
takes_dummies Definition = true
takes_dummies Notation = false

-- hypotheses stand in axioms and theorems, in round brackets
abbrev pub takes_formulas : Kind → (is_bound : Bool) → Bool
takes_formulas Term is_bound = false
takes_formulas (Assert a) is_bound = not is_bound
takes_formulas Definition is_bound = false
takes_formulas Notation is_bound = false

abbrev pub opening_of : Bool → List ℕ
opening_of is_bound = if is_bound then codes "{" else codes "("

abbrev pub closing_of : Bool → List ℕ
closing_of is_bound = if is_bound then codes "}" else codes ")"

abbrev pub dot_signs : Kind → Bool → List Sign
dot_signs kind is_dummy = if is_dummy then only_if (takes_dummies kind) (symbol (codes ".")) ∷ [] else []

abbrev pub name_signs : Kind → NameText → List Sign
name_signs kind n = dot_signs kind n.is_dummy ++ name_or_blank n.name ∷ []

abbrev pub group_source_signs : Kind → Bool → Source → List Sign
group_source_signs kind is_bound (type_source t) = type_signs t
group_source_signs kind is_bound (formula_source f) = only_if (takes_formulas kind is_bound) (formula f) ∷ []

abbrev pub group_signs : Kind → Group → List Sign
group_signs kind g =
    symbol (opening_of g.is_bound) ∷ (each (name_signs kind) g.names ++ (symbol (codes ":") ∷ (group_source_signs kind g.is_bound g.source ++ symbol (closing_of g.is_bound) ∷ [])))

-- the keyword with which a statement begins
abbrev pub keyword_of : Kind → List ℕ
keyword_of Term = codes "term"
keyword_of (Assert Axiom) = codes "axiom"
keyword_of (Assert Theorem) = codes "theorem"
keyword_of Definition = codes "def"
keyword_of Notation = codes "notation"

abbrev pub head_signs : Kind → Head → List Sign
head_signs kind h = keyword (keyword_of kind) ∷ name h.name ∷ each (group_signs kind) h.groups

-- ---- what stands behind the colon

abbrev pub argument_signs : TypeText → List Sign
argument_signs t = type_signs t ++ symbol (codes ">") ∷ []

abbrev pub source_signs : Source → List Sign
source_signs (type_source t) = type_signs t
source_signs (formula_source f) = formula f ∷ []

abbrev pub premise_signs : Source → List Sign
premise_signs s = source_signs s ++ symbol (codes ">") ∷ []

abbrev pub body_signs : Option Lexeme → List Sign
body_signs None = []
body_signs (Some f) = symbol (codes "=") ∷ formula f ∷ []

-- ---- notations

abbrev pub fixity_keyword : Fixity → List ℕ
fixity_keyword InfixLeft = codes "infixl"
fixity_keyword InfixRight = codes "infixr"
fixity_keyword Prefix = codes "prefix"

abbrev pub level_sign : Level → Sign
level_sign (number_level l) = number l
level_sign level_max = keyword (codes "max")

abbrev pub literal_signs : LiteralText → List Sign
literal_signs (constant_literal c level) = symbol (codes "(") ∷ formula c ∷ symbol (codes ":") ∷ level_sign level ∷ symbol (codes ")") ∷ []
literal_signs (name_literal n) = name n ∷ []

abbrev pub side_of : Bool → List ℕ
side_of is_right = if is_right then codes "rassoc" else codes "lassoc"

abbrev pub tail_signs : Option TailText → List Sign
tail_signs None = []
tail_signs (Some tail) = symbol (codes ":") ∷ level_sign tail.level ∷ keyword (side_of tail.is_right) ∷ []

abbrev pub second_signs : Option Lexeme → List Sign
second_signs None = []
second_signs (Some right) = formula right ∷ []

-- ---- statements

abbrev pub statement_signs : SpecStatement → List Sign
statement_signs (sort_statement m n) = modifier_signs m ++ keyword (codes "sort") ∷ name n ∷ end_signs
statement_signs (term_statement h arguments result) = head_signs Term h ++ (symbol (codes ":") ∷ (each argument_signs arguments ++ (type_signs result ++ end_signs)))
statement_signs (assert_statement a h premises conclusion) = head_signs (Assert a) h ++ (symbol (codes ":") ∷ (each premise_signs premises ++ (formula conclusion ∷ end_signs)))
statement_signs (definition_statement h result body) = head_signs Definition h ++ (symbol (codes ":") ∷ (type_signs result ++ (body_signs body ++ end_signs)))
statement_signs (operator_statement f n c level) =
    keyword (fixity_keyword f) ∷ name n ∷ symbol (codes ":") ∷ formula c ∷ keyword (codes "prec") ∷ level_sign level ∷ end_signs
statement_signs (coercion_statement n from to) = keyword (codes "coercion") ∷ name n ∷ symbol (codes ":") ∷ name from ∷ symbol (codes ">") ∷ name to ∷ end_signs
statement_signs (delimiter_statement left right) = keyword (codes "delimiter") ∷ formula left ∷ (second_signs right ++ end_signs)
statement_signs (notation_statement h result literals last tail) =
    head_signs Notation h ++ (symbol (codes ":") ∷ (type_signs result ++ (symbol (codes "=") ∷ (each literal_signs literals ++ (literal_signs last ++ (tail_signs tail ++ end_signs))))))

-- the lexemes are the statement
abbrev pub Spells : SpecStatement → List Lexeme → Type 0
Spells s ls = AreSigns (statement_signs s) ls

abbrev pub IsStatement : List Lexeme → Type 0
IsStatement ls = (s : SpecStatement) × Spells s ls

-- a statement begins with the lexemes
abbrev pub IsPrefix : List Lexeme → Type 0
IsPrefix ls = (rest : List Lexeme) × IsStatement (ls ++ rest)
