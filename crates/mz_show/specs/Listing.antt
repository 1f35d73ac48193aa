-- The listing of a binary (this project's own form of the .mmb format's parts).
use Rattle.std.specs.Prelude.{◌≡◌, ◌⊎◌, ℕ, ◌++◌, List, [], ◌∷◌, codes}
use Rattle.mz_base.specs.Checks.{AllHold, FailsFirst}
use Rattle.mz_cmd.specs.declared.rule.Refusal.{Refusal}
use Rattle.mz_layout_tables.specs.Layout.{Layout, layout_checks}
use Rattle.mz_layout_tables.specs.Heads.{StandsAt}
use Rattle.mz_layout_tables.specs.declared.head.HeadOrEnd.TheVariants.{End}
use Rattle.mz_show.specs.declared.place.Place.{Place}
use Rattle.mz_show.specs.Statements.{Statement, Stands, first_place, after, place_checks, statement_checks, statement_text}

-- the statements stand one after another between two places, and nothing that is asked of them fails
abbrev pub Chain : List ℕ → Place → List Statement → Place → Type 0
Chain file from [] to = to ≡ from
Chain file from (s ∷ ss) to = Stands file from s × AllHold (statement_checks file from s) × Chain file (after from s) ss to

-- their lines
abbrev pub chain_text : List ℕ → Place → List Statement → List ℕ
chain_text file from [] = []
chain_text file from (s ∷ ss) = statement_text file from s ++ chain_text file (after from s) ss

-- the list ends there, and no row is left
abbrev pub EndsAt : List ℕ → Place → Type 0
EndsAt file place = StandsAt file place.rows place.at End

-- the refusal's rule is the first that fails there
abbrev pub StopsAt : List ℕ → Place → Refusal → Type 0
StopsAt file place refusal =
    FailsFirst (place_checks file place) refusal
    ⊎ ((s : Statement) × Stands file place s × FailsFirst (statement_checks file place s) refusal)

-- the listing of a file is whole: each statement's lines up to the list's end, and a last line
pub record IsListing (file text : List ℕ) : Type 0 where
  pub layout : Layout file
  pub statements : List Statement
  pub last : Place
  pub chain : Chain file (first_place file) statements last
  pub ends : EndsAt file last
  pub text_is : text ≡ chain_text file (first_place file) statements ++ codes "end\n"

-- the listing stops at a statement: the lines of those before it, and the rule that fails first
pub record StopsAfter (file text : List ℕ) (refusal : Refusal) : Type 0 where
  pub layout : Layout file
  pub statements : List Statement
  pub last : Place
  pub chain : Chain file (first_place file) statements last
  pub stops : StopsAt file last refusal
  pub text_is : text ≡ chain_text file (first_place file) statements

-- header or tables are refused, as statement 0, and nothing is listed
pub record IsNoBinary (file text : List ℕ) (refusal : Refusal) : Type 0 where
  pub number : refusal.statement ≡ 0
  pub fails : FailsFirst (layout_checks file) (refusal.at, refusal.rule)
  pub text_is : text ≡ []

abbrev pub IsListedUpTo : List ℕ → List ℕ → Refusal → Type 0
IsListedUpTo file text refusal = IsNoBinary file text refusal ⊎ StopsAfter file text refusal

-- what is listed of a file, the whole or up to the first rule that fails
abbrev pub IsListed : List ℕ → List ℕ → Type 0
IsListed file text = IsListing file text ⊎ ((refusal : Refusal) × IsListedUpTo file text refusal)
