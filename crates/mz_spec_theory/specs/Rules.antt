-- The rules of a statement, in their order, each with the place at which it is reported (mm0.md, sections on
-- sorts, terms, definitions, axioms and theorems, notations and coercions).
use Rattle.std.specs.Prelude.{◌≡◌, ◌⊎◌, ◌≤◌, ⊤, ℕ, List, [], ◌∷◌, ◌++◌, true, Option, Some, None, option_and_then, slice_get}
use Rattle.mz_lex.specs.Lexemes.{Lexeme}
use Rattle.mz_lex.specs.declared.rule.S.TheVariants as rules
use Rattle.mz_base.specs.Checks.{Checks, nothing, demand, each_in_order, ◌>>◌}
use Rattle.mz_logic_theory.specs.Declaration.{sorts as sorts_in}
use Rattle.mz_logic_theory.specs.Modifiers.{IsPure, IsStrict, IsFree}
use Rattle.mz_logic_theory.specs.declared.binder.SortMods.{SortMods}
use Rattle.mz_lex.specs.declared.tokens.MathToken.{MathToken}
use Rattle.mz_spec_theory.specs.declared.refusal.Fault.{Fault}
use Rattle.mz_base.specs.Names.{number_of, IsNew, IsKnown}
use Rattle.mz_spec_theory.specs.Dependencies.{Every, IsBoundAmong}
use Rattle.mz_spec_theory.specs.Statement.{TypeText, Level, number_level, level_max, SpecStatement}
use Rattle.mz_spec_theory.specs.View.{Named, Variable, Formula, View, view, params_of, dummies_of, names_of, name_texts}
use Rattle.mz_spec_theory.specs.State.{State, names_in}
use Rattle.mz_spec_theory.specs.Formulas.{strings_checks, free_checks}
use Rattle.mz_spec_theory.specs.Forms.{number_in, highest_level, form_checks}

-- ---- precedences and names

abbrev pub is_level : Level → Checks Fault
is_level (number_level l) = demand (record { at = l.from; rule = rules.Number }) (number_in l ≤ highest_level)
is_level level_max = nothing

-- the name is none of these
abbrev pub new_name : List (List ℕ) → Lexeme → Checks Fault
new_name names l = demand (record { at = l.from; rule = rules.NameTwice }) (IsNew names l.text)

-- a declared name is none of its space
abbrev pub is_new : State → Named → Checks Fault
is_new σ d = new_name (names_in σ d.space) d.name

-- a variable's name is none of those before it; one without a name clashes with none
abbrev pub is_other : List (List ℕ) → Option Lexeme → Checks Fault
is_other seen None = nothing
is_other seen (Some l) = new_name seen l

-- no two variables share a name; these names stand before
abbrev pub are_others : List (List ℕ) → List Variable → Checks Fault
are_others seen [] = nothing
are_others seen (v ∷ vs) = is_other seen v.name >> are_others (seen ++ name_texts v.name) vs

-- the name is one of these
abbrev pub is_known : List (List ℕ) → Lexeme → Checks Fault
is_known names l = demand (record { at = l.from; rule = rules.UnknownName }) (IsKnown names l.text)

-- a type's sort, and the variables on which it depends
abbrev pub type_checks : State → List (List ℕ) → TypeText → Checks Fault
type_checks σ names t = is_known σ.sort_names t.sort >> each_in_order (is_known names) t.deps

-- ---- binders

-- the modifiers of a type's sort, where it is there
abbrev pub mods_of : State → TypeText → Option SortMods
mods_of σ t = option_and_then (λ n. slice_get (sorts_in σ.env) n) (number_of σ.sort_names t.sort.text)

-- the sort is there, and has the property
abbrev pub HasSortThat : State → (SortMods → Type 0) → TypeText → Type 0
HasSortThat σ P t = (m : SortMods) × (mods_of σ t ≡ Some m) × P m

-- a bound parameter depends on nothing, and its sort isn't strict; what a parameter depends on is a
-- bound one that stands before it
abbrev pub IsBinder : State → List Variable → Variable → Type 0
IsBinder σ before v = (v.is_bound ≡ true → (v.type.deps ≡ []) × (HasSortThat σ IsStrict v.type → ⊥)) × Every (IsBoundAmong before) v.type.deps

-- each parameter, behind those before it
abbrev pub AreBinders : State → List Variable → List Variable → Type 0
AreBinders σ before [] = ⊤
AreBinders σ before (v ∷ vs) = IsBinder σ before v × AreBinders σ (before ++ v ∷ []) vs

abbrev pub DependsOnNothing : Variable → Type 0
DependsOnNothing v = v.type.deps ≡ []

-- a result depends on bound parameters
abbrev pub IsResult : List Variable → TypeText → Type 0
IsResult ps t = Every (IsBoundAmong ps) t.deps

-- a dummy's sort is neither strict nor free
abbrev pub IsDummySort : State → Variable → Type 0
IsDummySort σ v = HasSortThat σ (λ m. IsStrict m ⊎ IsFree m) v.type → ⊥

-- no result has a pure sort
abbrev pub IsNotPure : State → TypeText → Type 0
IsNotPure σ t = HasSortThat σ IsPure t → ⊥

-- ---- all of them, in order

-- names that are taken, of what is declared and of variables
abbrev pub name_rules : State → View → Checks Fault
name_rules σ v = each_in_order (is_new σ) v.declares >> are_others [] v.variables

-- names that aren't known, of terms, sorts and dependencies
abbrev pub use_rules : State → View → Checks Fault
use_rules σ v = each_in_order (is_known σ.term_names) v.mentions >> each_in_order (type_checks σ (names_of v.variables)) v.types

abbrev pub HaveBinders : State → List Variable → List TypeText → Type 0
HaveBinders σ vs result = AreBinders σ [] (params_of vs) × Every DependsOnNothing (dummies_of vs) × Every (IsResult (params_of vs)) result

-- binders, then dummies, then a pure result
abbrev pub binder_rules : State → ℕ → List Variable → List TypeText → Checks Fault
binder_rules σ place vs result =
    demand (record { at = place; rule = rules.Binder }) (HaveBinders σ vs result)
    >> demand (record { at = place; rule = rules.DummySort }) (Every (IsDummySort σ) (dummies_of vs))
    >> demand (record { at = place; rule = rules.Pure }) (Every (IsNotPure σ) result)

-- the names of variables, and the names in types
abbrev pub variable_rules : State → List Variable → List TypeText → Checks Fault
variable_rules σ vs types = are_others [] vs >> each_in_order (type_checks σ (names_of vs)) types

-- and then binders
abbrev pub parts_rules : State → ℕ → List Variable → List TypeText → List TypeText → Checks Fault
parts_rules σ place vs types results = variable_rules σ vs types >> binder_rules σ place vs results

-- formulas, string by string, then the free variables of a body
abbrev pub body_rules : State → ℕ → List Variable → List Formula → List (List MathToken) → Checks Fault
body_rules σ place vs formulas tokens = strings_checks σ vs formulas tokens >> each_in_order (free_checks σ place vs) formulas

-- what is asked of the statement at a place, whose formulas have these tokens, over what was declared before
abbrev pub statement_checks : State → ℕ → SpecStatement → List (List MathToken) → Checks Fault
statement_checks σ place s tokens =
    each_in_order is_level (view s).levels
    >> name_rules σ (view s)
    >> use_rules σ (view s)
    >> binder_rules σ place (view s).variables (view s).result
    >> body_rules σ place (view s).variables (view s).formulas tokens
    >> form_checks σ place s
