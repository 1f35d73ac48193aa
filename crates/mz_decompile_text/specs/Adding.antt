-- The names of a binary's statements, gathered one after another.
use Rattle.std.specs.Prelude.{◌≡◌, ◌++◌, ℕ, Bool, List, [], ◌∷◌, get_or, if◌then◌else◌, codes, decimal}
use Rattle.mz_cmd.specs.declared.code.StatementCode.{StatementCode}
use Rattle.mz_cmd.specs.declared.code.StatementCode.TheVariants as kinds
use Rattle.mz_logic_theory.specs.LegalLists.{Statement}
use Rattle.mz_binary_theory.specs.Good.{Good}
use Rattle.mz_binary_theory.specs.Standards.{strict_standard}
use Rattle.mz_decompile_text.specs.Naming.{Naming}
use Rattle.mz_decompile_text.specs.Accepted.{naming_by}

abbrev pub local_name : List ℕ → ℕ → List ℕ
local_name prefix number = prefix ++ (codes "l" ++ decimal number)

-- of the statement of this number, before which so many public ones stand
abbrev pub next_name : List (List ℕ) → List ℕ → Bool → (publics number : ℕ) → List ℕ
next_name names prefix local publics number = if local then local_name prefix number else get_or names publics []

-- the name, by the code of its statement
abbrev pub as_sort : StatementCode → List ℕ → List (List ℕ)
as_sort kinds.Sort name = name ∷ []
as_sort c name = []

abbrev pub as_term : StatementCode → List ℕ → List (List ℕ)
as_term kinds.Term name = name ∷ []
as_term kinds.LocalDefinition name = name ∷ []
as_term c name = []

abbrev pub as_assertion : StatementCode → List ℕ → List (List ℕ)
as_assertion kinds.Axiom name = name ∷ []
as_assertion kinds.Theorem name = name ∷ []
as_assertion kinds.LocalTheorem name = name ∷ []
as_assertion c name = []

-- the name of a statement with this code was added
pub record IsAdded (code : StatementCode) (name : List ℕ) (old new : Naming) : Type 0 where
  pub sorts : new.sorts ≡ old.sorts ++ as_sort code name
  pub terms : new.terms ≡ old.terms ++ as_term code name
  pub assertions : new.assertions ≡ old.assertions ++ as_assertion code name
  pub prefix : new.prefix ≡ old.prefix

-- the names of the statements of a good binary, the public ones of which have these names
abbrev pub AreGathered : List (List ℕ) → List ℕ → Naming → Type 0
AreGathered names bin naming = (ss : List Statement) × Good strict_standard bin ss × (naming ≡ naming_by names ss)
