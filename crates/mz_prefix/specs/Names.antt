-- The names of a text as the code keeps them.
use Rattle.std.specs.Prelude.{◌≡◌, ℕ, List, map}
use Rattle.std.specs.Borrow.{Bor}
use Rattle.mz_mmu_theory.specs.Statements.{Statement}
use Rattle.mz_prefix.specs.NamedDeclarations.{Vocabulary}
use Rattle.mz_mmu_theory.specs.DeclaredNames.{sort_names, term_names}
use Rattle.mz_prefix.specs.Wording.{local_terms, variable_prefix, vocabulary_from}
use Rattle.mz_prefix.specs.declared.names.Names.{Names}

abbrev pub texts : List (Bor (List ℕ)) → List (List ℕ)
texts names = map (λ name. name.now) names

abbrev pub spoken : Names → Vocabulary
spoken names = vocabulary_from (texts names.sorts.items) (texts names.terms.items) names.prefix.items

-- they are those of the statements
pub record AreNamesOf (ss : List Statement) (names : Names) : Type 0 where
  pub sorts : texts names.sorts.items ≡ sort_names ss
  pub terms : texts names.terms.items ≡ term_names ss
  pub locals : names.locals.items ≡ local_terms ss
  pub prefix : names.prefix.items ≡ variable_prefix ss
