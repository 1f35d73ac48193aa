-- What follows of rows whose words are right: the statements of laws that `laws.rt` proves.
use Rattle.std.specs.Prelude.{◌≡◌, ◌<◌, ℕ, List, length}
use Rattle.mz_logic_theory.specs.Declaration.{Declaration, sort_decl, term_decl, assertion_decl, Term, Assertion, sorts, terms, assertions, is_defined}
use Rattle.mz_logic_theory.specs.LegalLists.{Statement}
use Rattle.mz_logic_theory.specs.Words.{binders_of, signature_of}
use Rattle.mz_logic_theory.specs.declared.binder.SortMods.{SortMods}
use Rattle.mz_layout_tables.specs.Tables.{TermRow, ThmRow, sort_count, term_count, thm_count, mods_of, term_row, thm_row}
use Rattle.mz_layout_tables.specs.RowWords.{IsResultWord, AreParamWords}
use Rattle.mz_binary_theory.specs.Chains.{IsGoodStatement}
use Rattle.mz_binary_theory.specs.Standards.{Standard}

-- The row says the term, by words that are right over these sorts: its parameters, its result, and whether it has a
-- body. The body is what its stream spells.
pub record SaysTerm (ss : List SortMods) (row : TermRow) (d : Term) : Type 0 where
  pub signature : d.signature ≡ signature_of row.words
  pub form : row.words.has_body ≡ is_defined d.form
  pub params : AreParamWords ss row.words.params
  pub result : IsResultWord ss row

-- the row says the parameters of the axiom or theorem, by words that are right over these sorts
pub record SaysAssertion (ss : List SortMods) (row : ThmRow) (a : Assertion) : Type 0 where
  pub signature : a.params ≡ binders_of row.params
  pub params : AreParamWords ss row.params

-- the row of the declaration's kind that follows those of env is there, and says it
abbrev pub HasRow : List ℕ → List Declaration → Declaration → Type 0
HasRow file env (sort_decl m) = (length (sorts env) < sort_count file) × (m ≡ mods_of file (length (sorts env)))
HasRow file env (term_decl d) = (length (terms env) < term_count file) × SaysTerm (sorts env) (term_row file (length (terms env))) d
HasRow file env (assertion_decl a) = (length (assertions env) < thm_count file) × SaysAssertion (sorts env) (thm_row file (length (assertions env))) a

-- a good statement's row is there
abbrev pub GoodStatementsHaveRows : Type 0
GoodStatementsHaveRows = (standard : Standard) (file : List ℕ) (env : List Declaration) (at : ℕ) (s : Statement) (next : ℕ) → IsGoodStatement standard file env at s next → HasRow file env s.decl
