-- When a specification bars dummies (mm0.md, section on sorts: strict sorts have no variables, and free ones none that a
-- definition or a proof may bring). A definition can be unfolded; all that one with a dummy adds is that a bound variable can be
-- renamed. Where no sort may be a dummy's, theorems need no definition that isn't the specification's own.
use Rattle.std.specs.Prelude.{⊤, ℕ, List}
use Rattle.mz_logic_theory.specs.Declaration.{Declaration, sort_decl, term_decl, assertion_decl, Form, plain_form, abstract_form, defined, sorts}
use Rattle.mz_logic_theory.specs.Modifiers.{MayBeDummySort}

-- no sort may be a dummy's: each is strict or free
abbrev pub BarsDummies : List Declaration → Type 0
BarsDummies ds = (s : ℕ) → MayBeDummySort (sorts ds) s → ⊥

-- a definition isn't left without a body, as a specification may leave it
abbrev pub IsConcreteForm : Form → Type 0
IsConcreteForm plain_form = ⊤
IsConcreteForm abstract_form = ⊥
IsConcreteForm (defined dummies body) = ⊤

abbrev pub IsConcrete : Declaration → Type 0
IsConcrete (sort_decl modifiers) = ⊤
IsConcrete (term_decl t) = IsConcreteForm t.form
IsConcrete (assertion_decl a) = ⊤
