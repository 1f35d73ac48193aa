-- The names of a text that is written by a program: those that its statements have, and for what is numbered in a statement
-- a prefix, a letter and the number (this project's own).
use Rattle.std.specs.Prelude.{ℕ, ◌++◌, List, [], get_or, codes, decimal}
use Rattle.mz_decompile_text.specs.Phrasing.{Vocabulary}

-- the names of sorts, of terms, and of axioms and theorems, in order; and the prefix
pub record Naming : Type 0 where
  pub sorts : List (List ℕ)
  pub terms : List (List ℕ)
  pub assertions : List (List ℕ)
  pub prefix : List ℕ

-- `v` for variables, `h` for hypotheses, `p` for lets
abbrev pub vocabulary_by : Naming → Vocabulary
vocabulary_by names = record {
  sort = λ i. get_or names.sorts i [];
  term = λ t. get_or names.terms t [];
  assertion = λ T. get_or names.assertions T [];
  variable = λ x. names.prefix ++ (codes "v" ++ decimal x);
  hypothesis = λ i. names.prefix ++ (codes "h" ++ decimal i);
  let_name = λ k. names.prefix ++ (codes "p" ++ decimal k);
}
