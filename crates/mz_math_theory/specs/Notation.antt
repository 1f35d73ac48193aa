-- Notations, names of terms and coercions, and a statement's variables (mm0.md, section on notations).
use Rattle.std.specs.Prelude.{◌+◌, ◌++◌, ◌==◌, ℕ, List, [], ◌∷◌, Bool, true, false, Option, Some, None, if◌then◌else◌}
use Rattle.mz_logic_theory.specs.declared.binder.Binder.{Binder}
use Rattle.mz_lex.specs.MathTokens.{no_delimiters, both}
use Rattle.mz_lex.specs.declared.tokens.Delimiters.{Delimiters}
pub use Rattle.mz_math_theory.specs.declared.notation.Element.{Element}
pub use Rattle.mz_math_theory.specs.declared.notation.Element.TheVariants.{Fixed as fixed, Slot as slot}
pub use Rattle.mz_math_theory.specs.declared.notation.Notation.{Notation}
pub use Rattle.mz_math_theory.specs.Listed.{slots}
pub use Rattle.mz_math_theory.specs.declared.coercion.Coercion.{Coercion}

-- ---- precedences

-- the precedence above all precedences that are numbers
abbrev pub max_level : ℕ
max_level = 4294967295

-- the next precedence; none is above max
abbrev pub above : ℕ → ℕ
above q = if q == max_level then max_level else q + 1

-- a precedence as it is written: a number, or max
abbrev pub level_of : Option ℕ → ℕ
level_of None = max_level
level_of (Some q) = q

-- ---- the elements of a notation: constants with their precedences, and places of parameters

-- the places of the parameters, in the order of the elements
abbrev pub places : List Element → List ℕ
places [] = []
places (fixed w q ∷ es) = places es
places (slot i ∷ es) = i ∷ places es

-- `prefix`, for a term of n parameters
abbrev pub prefixed : ℕ → ℕ → List ℕ → ℕ → Notation
prefixed t n w level = record { term = t; level = level; is_right = true; elements = fixed w level ∷ slots 0 n }

-- `infixl` and `infixr`
abbrev pub infixed : ℕ → List ℕ → ℕ → Bool → Notation
infixed t w level is_right = record { term = t; level = level; is_right = is_right; elements = slot 0 ∷ fixed w level ∷ slot 1 ∷ [] }

-- ---- what has been declared

-- the name of a term
pub record TermName : Type 0 where
  pub name : List ℕ
  pub term : ℕ

-- notations that begin with a constant are leading, those that begin with a parameter are infix
pub record Table : Type 0 where
  pub delimiters : Delimiters
  pub leading : List Notation
  pub infixes : List Notation
  pub names : List TermName
  pub coercions : List Coercion

abbrev pub empty_table : Table
empty_table = record { delimiters = no_delimiters; leading = []; infixes = []; names = []; coercions = [] }

abbrev pub begins_with_slot : List Element → Bool
begins_with_slot [] = false
begins_with_slot (fixed w q ∷ es) = false
begins_with_slot (slot i ∷ es) = true

-- the table with one more of each
abbrev pub with_delimiters : Table → Delimiters → Table
with_delimiters t d = record t { delimiters = both t.delimiters d }

abbrev pub with_leading : Table → Notation → Table
with_leading t k = record t { leading = t.leading ++ k ∷ [] }

abbrev pub with_infix : Table → Notation → Table
with_infix t k = record t { infixes = t.infixes ++ k ∷ [] }

abbrev pub with_notation : Table → Notation → Table
with_notation t k = if begins_with_slot k.elements then with_infix t k else with_leading t k

abbrev pub with_name : Table → TermName → Table
with_name t n = record t { names = t.names ++ n ∷ [] }

abbrev pub with_coercion : Table → Coercion → Table
with_coercion t c = record t { coercions = t.coercions ++ c ∷ [] }

-- ---- the variables of a statement

-- the variables of a statement, dummies included: their names and their binders, by place
pub record Variables : Type 0 where
  pub names : List (List ℕ)
  pub binders : List Binder

-- with one more
abbrev pub with_variable : Variables → List ℕ → Binder → Variables
with_variable vs name b = record { names = vs.names ++ name ∷ []; binders = vs.binders ++ b ∷ [] }
