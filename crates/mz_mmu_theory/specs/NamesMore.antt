-- What is asked of a name before it is put to those before.
use Rattle.std.specs.Prelude.{ℕ, ◌<◌, ◌+◌, Bool, true, false, List, [], ◌∷◌, ◌++◌, length}
use Rattle.mz_logic_theory.specs.Declaration.{Declaration, sort_decl, term_decl, assertion_decl}
use Rattle.mz_base.specs.Names.{IsNew}
use Rattle.mz_mmu_theory.specs.Name.{Names}

-- it is new among those of the declaration's kind
abbrev pub IsUnused : Names → List ℕ → Declaration → Type 0
IsUnused names w (sort_decl _) = IsNew names.sorts w
IsUnused names w (term_decl _) = IsNew names.terms w × IsNew names.constants w
IsUnused names w (assertion_decl _) = IsNew names.assertions w

abbrev pub constant_or : Bool → List ℕ → List ℕ
constant_or true w = w
constant_or false w = []

-- with a term more, which has no parameters or some
abbrev pub with_term : Names → Bool → List ℕ → Names
with_term names is_constant w = record names { terms = names.terms ++ w ∷ []; constants = names.constants ++ constant_or is_constant w ∷ [] }

-- there are at most so many of each kind
pub record AreFew (names : Names) (count : ℕ) : Type 0 where
  pub sorts : length names.sorts < count + 1
  pub terms : length names.terms < count + 1
  pub constants : length names.constants < count + 1
  pub assertions : length names.assertions < count + 1
