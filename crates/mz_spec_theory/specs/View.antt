-- What the rules see of a statement, whatever its kind (mm0.md, section on the grammar).
use Rattle.std.specs.Prelude.{◌++◌, ◌||◌, ℕ, List, [], ◌∷◌, map, length, Bool, false, Option, Some, None, if◌then◌else◌, bytes_eq, codes}
use Rattle.std.specs.List.{list_any}
use Rattle.mz_lex.specs.Lexemes.{Lexeme}
use Rattle.mz_spec_theory.specs.Statement.{TypeText, Source, type_source, formula_source, NameText, Group, Level, LiteralText, constant_literal, name_literal, TailText, SpecStatement, sort_statement, term_statement, assert_statement, definition_statement, operator_statement, coercion_statement, delimiter_statement, notation_statement}

-- the spaces in which names are distinct
pub data Space : Type 0 where
  sorts : Space
  terms : Space
  assertions : Space

-- a name, in its space
pub record Named : Type 0 where
  pub space : Space
  pub name : Lexeme

-- a variable of a statement; one that is written `_`, or not at all, has no name
pub record Variable : Type 0 where
  pub name : Option Lexeme
  pub is_dummy : Bool
  pub is_bound : Bool
  pub type : TypeText

-- a math string that is to be an expression: of a provable sort, or a body, of the sort of a type
pub data Formula : Type 0 where
  claim : (math : Lexeme) → Formula
  body : (math : Lexeme) → TypeText → Formula

pub record View : Type 0 where
  -- its precedences, in order
  pub levels : List Level
  -- the names that it declares
  pub declares : List Named
  -- its variables, in order, dummies included
  pub variables : List Variable
  -- the term of which it speaks
  pub mentions : List Lexeme
  -- its types, in order, also those of groups without names
  pub types : List TypeText
  -- the type of its result, where it has one
  pub result : List TypeText
  -- its formulas, in order, also those of groups without names
  pub formulas : List Formula

-- ---- variables

abbrev pub name_of : Lexeme → Option Lexeme
name_of l = if bytes_eq l.text (codes "_") then None else Some l

-- a dummy is bound in either bracket
abbrev pub variable_of : Bool → TypeText → NameText → Variable
variable_of is_bound t n = record { name = name_of n.name; is_dummy = n.is_dummy; is_bound = is_bound || n.is_dummy; type = t }

-- a formula's names are no variables
abbrev pub source_variables : Bool → List NameText → Source → List Variable
source_variables is_bound ns (type_source t) = map (variable_of is_bound t) ns
source_variables is_bound ns (formula_source f) = []

abbrev pub group_variables : Group → List Variable
group_variables g = source_variables g.is_bound g.names g.source

abbrev pub variables_of : List Group → List Variable
variables_of [] = []
variables_of (g ∷ gs) = group_variables g ++ variables_of gs

-- a type before a `>` is a regular parameter without a name
abbrev pub unnamed : TypeText → Variable
unnamed t = record { name = None; is_dummy = false; is_bound = false; type = t }

-- ---- types and formulas

abbrev pub source_types : Source → List TypeText
source_types (type_source t) = t ∷ []
source_types (formula_source f) = []

-- a formula with the number of hypotheses that it makes
pub record Stated : Type 0 where
  pub math : Lexeme
  pub times : ℕ

abbrev pub source_stated : ℕ → Source → List Stated
source_stated times (type_source t) = []
source_stated times (formula_source f) = record { math = f; times = times } ∷ []

abbrev pub types_of : List Source → List TypeText
types_of [] = []
types_of (s ∷ ss) = source_types s ++ types_of ss

abbrev pub group_types : List Group → List TypeText
group_types [] = []
group_types (g ∷ gs) = source_types g.source ++ group_types gs

-- a group's formula is a hypothesis for each of its names
abbrev pub group_stated : List Group → List Stated
group_stated [] = []
group_stated (g ∷ gs) = source_stated (length g.names) g.source ++ group_stated gs

abbrev pub premise_stated : List Source → List Stated
premise_stated [] = []
premise_stated (s ∷ ss) = source_stated 1 s ++ premise_stated ss

-- the formulas before a conclusion
abbrev pub stated_of : List Group → List Source → List Stated
stated_of gs premises = group_stated gs ++ premise_stated premises

abbrev pub stated_claim : Stated → Formula
stated_claim h = claim h.math

abbrev pub body_formulas : TypeText → Option Lexeme → List Formula
body_formulas t None = []
body_formulas t (Some l) = body l t ∷ []

-- ---- precedences

abbrev pub literal_levels : List LiteralText → List Level
literal_levels [] = []
literal_levels (constant_literal c level ∷ ls) = level ∷ literal_levels ls
literal_levels (name_literal n ∷ ls) = literal_levels ls

abbrev pub tail_levels : Option TailText → List Level
tail_levels None = []
tail_levels (Some tail) = tail.level ∷ []

-- a sort alone is a type without dependencies
abbrev pub alone : Lexeme → TypeText
alone l = record { sort = l; deps = [] }

-- ---- the view

abbrev pub blank_view : View
blank_view = record { levels = []; declares = []; variables = []; mentions = []; types = []; result = []; formulas = [] }

abbrev pub view : SpecStatement → View
view (sort_statement m name) = record blank_view { declares = record { space = sorts; name = name } ∷ [] }
view (term_statement h arguments result) = record blank_view {
  declares = record { space = terms; name = h.name } ∷ [];
  variables = variables_of h.groups ++ map unnamed arguments;
  types = group_types h.groups ++ (arguments ++ result ∷ []);
  result = result ∷ [];
}
view (assert_statement kind h premises conclusion) = record blank_view {
  declares = record { space = assertions; name = h.name } ∷ [];
  variables = variables_of h.groups ++ map unnamed (types_of premises);
  types = group_types h.groups ++ types_of premises;
  formulas = map stated_claim (stated_of h.groups premises) ++ claim conclusion ∷ [];
}
view (definition_statement h result b) = record blank_view {
  declares = record { space = terms; name = h.name } ∷ [];
  variables = variables_of h.groups;
  types = group_types h.groups ++ result ∷ [];
  result = result ∷ [];
  formulas = body_formulas result b;
}
view (operator_statement fixity name constant level) = record blank_view { levels = level ∷ []; mentions = name ∷ [] }
view (coercion_statement name from to) = record blank_view { mentions = name ∷ []; types = alone from ∷ alone to ∷ [] }
view (delimiter_statement left right) = blank_view
view (notation_statement h result literals last tail) = record blank_view {
  levels = literal_levels (literals ++ last ∷ []) ++ tail_levels tail;
  variables = variables_of h.groups;
  mentions = h.name ∷ [];
  types = group_types h.groups ++ result ∷ [];
  result = result ∷ [];
}

-- ---- parameters and dummies, each in order

abbrev pub params_of : List Variable → List Variable
params_of [] = []
params_of (v ∷ vs) = if v.is_dummy then params_of vs else v ∷ params_of vs

abbrev pub dummies_of : List Variable → List Variable
dummies_of [] = []
dummies_of (v ∷ vs) = if v.is_dummy then v ∷ dummies_of vs else dummies_of vs

-- ---- the names of variables

abbrev pub name_texts : Option Lexeme → List (List ℕ)
name_texts None = []
name_texts (Some l) = l.text ∷ []

abbrev pub names_of : List Variable → List (List ℕ)
names_of [] = []
names_of (v ∷ vs) = name_texts v.name ++ names_of vs

-- the variable is one of these dependencies
abbrev pub is_among : List Lexeme → Option Lexeme → Bool
is_among deps None = false
is_among deps (Some l) = list_any (λ d. bytes_eq d.text l.text) deps
