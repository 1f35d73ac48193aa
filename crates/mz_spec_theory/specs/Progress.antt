-- How far a statement has been read: what the reader keeps of its first lexemes.
use Rattle.std.specs.Prelude.{◌≡◌, ◌||◌, ◌++◌, not, ℕ, List, [], ◌∷◌, Bool, true, false, Option, Some, None, if◌then◌else◌, codes}
use Rattle.mz_lex.specs.declared.token.TokenKind.{TokenKind}
use Rattle.mz_lex.specs.Lexemes.{Lexeme}
use Rattle.mz_spec_theory.specs.declared.kind.AssertKind.{AssertKind}
use Rattle.mz_spec_theory.specs.declared.kind.AssertKind.TheVariants.{Axiom, Theorem}
use Rattle.mz_spec_theory.specs.declared.kind.Kind.{Kind}
use Rattle.mz_spec_theory.specs.declared.kind.Kind.TheVariants.{Term, Assert, Definition, Notation}
use Rattle.mz_spec_theory.specs.declared.kind.Fixity.{Fixity}
use Rattle.mz_spec_theory.specs.declared.kind.Fixity.TheVariants.{InfixLeft, InfixRight, Prefix}
use Rattle.mz_spec_theory.specs.Statement.{Modifiers, TypeText, Source, type_source, formula_source, NameText, Group, Head, Level, number_level, level_max, LiteralText, constant_literal, name_literal, TailText, SpecStatement, sort_statement, term_statement, assert_statement, definition_statement, operator_statement, coercion_statement, delimiter_statement, notation_statement, takes_dummies, takes_formulas, closing_of}
use Rattle.mz_spec_theory.specs.Tests.{Test, the_keyword, the_symbol, a_name, a_name_or_blank, a_formula, a_number, only, fits}

-- ---- how far

-- a group without its type or formula
pub record OpenGroup : Type 0 where
  pub kind : Kind
  pub head : Head
  pub is_bound : Bool
  pub names : List NameText

-- a notation without its further literals
pub record OpenNotation : Type 0 where
  pub head : Head
  pub result : TypeText
  pub literals : List LiteralText

-- where a type or a formula is wanted: in a group; behind the colon or a `>` of a term, of an axiom
-- or theorem; behind the colon of a definition, of a notation
pub data Slot : Type 0 where
  group_slot : OpenGroup → Slot
  argument_slot : Head → List TypeText → Slot
  premise_slot : AssertKind → Head → List Source → Slot
  definition_slot : Head → Slot
  notation_slot : Head → Slot

pub data Progress : Type 0 where
  -- at the start or behind modifiers; behind `sort`; behind its name
  opening : Modifiers → Progress
  sort_opened : Modifiers → Progress
  sort_named : Modifiers → Lexeme → Progress
  -- behind the keyword; behind the name or a group
  head_opened : Kind → Progress
  headed : Kind → Head → Progress
  -- behind the bracket of a group or a name; behind a dot
  group_opened : OpenGroup → Progress
  group_dotted : OpenGroup → Progress
  -- before a type or formula; behind a sort or a dependency; behind the formula of a group
  wanted : Slot → Progress
  typed : Slot → TypeText → Progress
  hypothesis : OpenGroup → Lexeme → Progress
  -- behind a formula of an axiom or a theorem
  claimed : AssertKind → Head → List Source → Lexeme → Progress
  -- behind the `=` of a definition; behind its body
  body_opened : Head → TypeText → Progress
  defined : Head → TypeText → Lexeme → Progress
  -- of an infix or prefix notation: behind each of its lexemes
  operator_opened : Fixity → Progress
  operator_named : Fixity → Lexeme → Progress
  constant_wanted : Fixity → Lexeme → Progress
  constant_read : Fixity → Lexeme → Lexeme → Progress
  level_wanted : Fixity → Lexeme → Lexeme → Progress
  level_read : Fixity → Lexeme → Lexeme → Level → Progress
  -- of a coercion: behind each of its lexemes
  coercion_opened : Progress
  coercion_named : Lexeme → Progress
  from_wanted : Lexeme → Progress
  from_read : Lexeme → Lexeme → Progress
  to_wanted : Lexeme → Lexeme → Progress
  to_read : Lexeme → Lexeme → Lexeme → Progress
  -- of delimiters: behind each of their lexemes
  delimiter_opened : Progress
  left_read : Lexeme → Progress
  right_read : Lexeme → Lexeme → Progress
  -- behind the `=` of a notation; behind a literal; in a constant: behind each of its lexemes
  literal_wanted : OpenNotation → Progress
  literal_read : OpenNotation → LiteralText → Progress
  literal_opened : OpenNotation → Progress
  literal_constant : OpenNotation → Lexeme → Progress
  literal_colon : OpenNotation → Lexeme → Progress
  literal_level : OpenNotation → Lexeme → Level → Progress
  -- of a tail: behind each of its lexemes
  tail_opened : OpenNotation → LiteralText → Progress
  tail_level : OpenNotation → LiteralText → Level → Progress
  tail_read : OpenNotation → LiteralText → TailText → Progress
  -- at the end of a statement
  whole : SpecStatement → Progress

abbrev pub no_modifiers : Modifiers
no_modifiers = record { is_pure = false; is_strict = false; is_provable = false; is_free = false }

abbrev pub start : Progress
start = opening no_modifiers

-- ---- parts that grow

abbrev pub bare : Lexeme → Head
bare n = record { name = n; groups = [] }

abbrev pub without_deps : Lexeme → TypeText
without_deps sort = record { sort = sort; deps = [] }

abbrev pub with_dep : TypeText → Lexeme → TypeText
with_dep t l = record { sort = t.sort; deps = t.deps ++ l ∷ [] }

abbrev pub open_group : Kind → Head → Bool → OpenGroup
open_group kind h is_bound = record { kind = kind; head = h; is_bound = is_bound; names = [] }

abbrev pub with_name : OpenGroup → Bool → Lexeme → OpenGroup
with_name g is_dummy l = record { kind = g.kind; head = g.head; is_bound = g.is_bound; names = g.names ++ record { is_dummy = is_dummy; name = l } ∷ [] }

abbrev pub group_of : OpenGroup → Source → Group
group_of g s = record { is_bound = g.is_bound; names = g.names; source = s }

abbrev pub with_group : Head → Group → Head
with_group h g = record { name = h.name; groups = h.groups ++ g ∷ [] }

abbrev pub closed : OpenGroup → Source → Progress
closed g s = headed g.kind (with_group g.head (group_of g s))

abbrev pub open_notation : Head → TypeText → OpenNotation
open_notation h t = record { head = h; result = t; literals = [] }

abbrev pub with_literal : OpenNotation → LiteralText → OpenNotation
with_literal n x = record { head = n.head; result = n.result; literals = n.literals ++ x ∷ [] }

abbrev pub notation_of : OpenNotation → LiteralText → Option TailText → Progress
notation_of n x tail = whole (notation_statement n.head n.result n.literals x tail)

-- ---- which lexemes lead on, and where to

abbrev pub Row : Type 0
Row = Test × (Lexeme → Progress)

abbrev pub is_bare : Modifiers → Bool
is_bare m = not (m.is_pure || m.is_strict || m.is_provable || m.is_free)

-- the first lexeme of a statement without modifiers
abbrev pub beginnings : List Row
beginnings =
    (the_keyword (codes "term"), λ l. head_opened Term)
    ∷ (the_keyword (codes "axiom"), λ l. head_opened (Assert Axiom))
    ∷ (the_keyword (codes "theorem"), λ l. head_opened (Assert Theorem))
    ∷ (the_keyword (codes "def"), λ l. head_opened Definition)
    ∷ (the_keyword (codes "notation"), λ l. head_opened Notation)
    ∷ (the_keyword (codes "infixl"), λ l. operator_opened InfixLeft)
    ∷ (the_keyword (codes "infixr"), λ l. operator_opened InfixRight)
    ∷ (the_keyword (codes "prefix"), λ l. operator_opened Prefix)
    ∷ (the_keyword (codes "coercion"), λ l. coercion_opened)
    ∷ (the_keyword (codes "delimiter"), λ l. delimiter_opened)
    ∷ []

-- a modifier stands behind those before it in the grammar
abbrev pub opening_rows : Modifiers → List Row
opening_rows m =
    (only (not (m.is_pure || m.is_strict || m.is_provable || m.is_free)) (the_keyword (codes "pure")), λ l. opening (record m { is_pure = true }))
    ∷ (only (not (m.is_strict || m.is_provable || m.is_free)) (the_keyword (codes "strict")), λ l. opening (record m { is_strict = true }))
    ∷ (only (not (m.is_provable || m.is_free)) (the_keyword (codes "provable")), λ l. opening (record m { is_provable = true }))
    ∷ (only (not m.is_free) (the_keyword (codes "free")), λ l. opening (record m { is_free = true }))
    ∷ (the_keyword (codes "sort"), λ l. sort_opened m)
    ∷ (if is_bare m then beginnings else [])

abbrev pub slot_of : Kind → Head → Slot
slot_of Term h = argument_slot h []
slot_of (Assert a) h = premise_slot a h []
slot_of Definition h = definition_slot h
slot_of Notation h = notation_slot h

-- a formula, where one may stand
abbrev pub formula_rows : Slot → List Row
formula_rows (group_slot g) = (only (takes_formulas g.kind g.is_bound) a_formula, λ l. hypothesis g l) ∷ []
formula_rows (argument_slot h ts) = []
formula_rows (premise_slot a h ss) = (a_formula, λ l. claimed a h ss l) ∷ []
formula_rows (definition_slot h) = []
formula_rows (notation_slot h) = []

-- what ends a type
abbrev pub type_rows : Slot → TypeText → List Row
type_rows (group_slot g) t = (the_symbol (closing_of g.is_bound), λ l. closed g (type_source t)) ∷ []
type_rows (argument_slot h ts) t =
    (the_symbol (codes ">"), λ l. wanted (argument_slot h (ts ++ t ∷ []))) ∷ (the_symbol (codes ";"), λ l. whole (term_statement h ts t)) ∷ []
type_rows (premise_slot a h ss) t = (the_symbol (codes ">"), λ l. wanted (premise_slot a h (ss ++ type_source t ∷ []))) ∷ []
type_rows (definition_slot h) t =
    (the_symbol (codes "="), λ l. body_opened h t) ∷ (the_symbol (codes ";"), λ l. whole (definition_statement h t None)) ∷ []
type_rows (notation_slot h) t = (the_symbol (codes "="), λ l. literal_wanted (open_notation h t)) ∷ []

abbrev pub level_rows : (Level → Progress) → List Row
level_rows f = (a_number, λ l. f (number_level l)) ∷ (the_keyword (codes "max"), λ l. f level_max) ∷ []

abbrev pub literal_rows : OpenNotation → List Row → List Row
literal_rows n rows = (a_name, λ l. literal_read n (name_literal l)) ∷ (the_symbol (codes "("), λ l. literal_opened n) ∷ rows

abbrev pub moves : Progress → List Row
moves (opening m) = opening_rows m
moves (sort_opened m) = (a_name, λ l. sort_named m l) ∷ []
moves (sort_named m n) = (the_symbol (codes ";"), λ l. whole (sort_statement m n)) ∷ []
moves (head_opened kind) = (a_name, λ l. headed kind (bare l)) ∷ []
moves (headed kind h) =
    (the_symbol (codes "{"), λ l. group_opened (open_group kind h true)) ∷ (the_symbol (codes "("), λ l. group_opened (open_group kind h false))
    ∷ (the_symbol (codes ":"), λ l. wanted (slot_of kind h)) ∷ []
moves (group_opened g) =
    (a_name_or_blank, λ l. group_opened (with_name g false l)) ∷ (only (takes_dummies g.kind) (the_symbol (codes ".")), λ l. group_dotted g)
    ∷ (the_symbol (codes ":"), λ l. wanted (group_slot g)) ∷ []
moves (group_dotted g) = (a_name_or_blank, λ l. group_opened (with_name g true l)) ∷ []
moves (wanted slot) = (a_name, λ l. typed slot (without_deps l)) ∷ formula_rows slot
moves (typed slot t) = (a_name, λ l. typed slot (with_dep t l)) ∷ type_rows slot t
moves (hypothesis g f) = (the_symbol (closing_of g.is_bound), λ l. closed g (formula_source f)) ∷ []
moves (claimed a h ss f) =
    (the_symbol (codes ">"), λ l. wanted (premise_slot a h (ss ++ formula_source f ∷ []))) ∷ (the_symbol (codes ";"), λ l. whole (assert_statement a h ss f)) ∷ []
moves (body_opened h t) = (a_formula, λ l. defined h t l) ∷ []
moves (defined h t f) = (the_symbol (codes ";"), λ l. whole (definition_statement h t (Some f))) ∷ []
moves (operator_opened f) = (a_name, λ l. operator_named f l) ∷ []
moves (operator_named f n) = (the_symbol (codes ":"), λ l. constant_wanted f n) ∷ []
moves (constant_wanted f n) = (a_formula, λ l. constant_read f n l) ∷ []
moves (constant_read f n c) = (the_keyword (codes "prec"), λ l. level_wanted f n c) ∷ []
moves (level_wanted f n c) = level_rows (level_read f n c)
moves (level_read f n c level) = (the_symbol (codes ";"), λ l. whole (operator_statement f n c level)) ∷ []
moves coercion_opened = (a_name, λ l. coercion_named l) ∷ []
moves (coercion_named n) = (the_symbol (codes ":"), λ l. from_wanted n) ∷ []
moves (from_wanted n) = (a_name, λ l. from_read n l) ∷ []
moves (from_read n from) = (the_symbol (codes ">"), λ l. to_wanted n from) ∷ []
moves (to_wanted n from) = (a_name, λ l. to_read n from l) ∷ []
moves (to_read n from to) = (the_symbol (codes ";"), λ l. whole (coercion_statement n from to)) ∷ []
moves delimiter_opened = (a_formula, λ l. left_read l) ∷ []
moves (left_read left) = (a_formula, λ l. right_read left l) ∷ (the_symbol (codes ";"), λ l. whole (delimiter_statement left None)) ∷ []
moves (right_read left right) = (the_symbol (codes ";"), λ l. whole (delimiter_statement left (Some right))) ∷ []
moves (literal_wanted n) = literal_rows n []
moves (literal_read n x) =
    literal_rows (with_literal n x) ((the_symbol (codes ":"), λ l. tail_opened n x) ∷ (the_symbol (codes ";"), λ l. notation_of n x None) ∷ [])
moves (literal_opened n) = (a_formula, λ l. literal_constant n l) ∷ []
moves (literal_constant n c) = (the_symbol (codes ":"), λ l. literal_colon n c) ∷ []
moves (literal_colon n c) = level_rows (literal_level n c)
moves (literal_level n c level) = (the_symbol (codes ")"), λ l. literal_read n (constant_literal c level)) ∷ []
moves (tail_opened n x) = level_rows (tail_level n x)
moves (tail_level n x level) =
    (the_keyword (codes "lassoc"), λ l. tail_read n x (record { level = level; is_right = false })) ∷ (the_keyword (codes "rassoc"), λ l. tail_read n x (record { level = level; is_right = true })) ∷ []
moves (tail_read n x tail) = (the_symbol (codes ";"), λ l. notation_of n x (Some tail)) ∷ []
moves (whole s) = []

-- the first row whose test the lexeme passes
abbrev pub choose : List Row → TokenKind → List ℕ → Lexeme → Option Progress
choose [] kind bytes l = None
choose (row ∷ rows) kind bytes l = if fits row.0 kind bytes then Some (row.1 l) else choose rows kind bytes l

-- how far it is with one more lexeme, where that fits
abbrev pub next : Progress → Lexeme → Option Progress
next p l = choose (moves p) l.kind l.text l

-- the lexemes lead from there to there
abbrev pub Leads : Progress → List Lexeme → Progress → Type 0
Leads p [] q = q ≡ p
Leads p (l ∷ ls) q = (r : Progress) × (next p l ≡ Some r) × Leads r ls q
