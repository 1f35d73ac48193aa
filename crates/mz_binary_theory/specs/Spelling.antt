-- What a statement of the list declares: its command's code says its kind and its visibility, and its row, the next of its
-- kind, spells its declaration (the .mmb format, its list of statements).
use Rattle.std.specs.Prelude.{◌≡◌, ◌<◌, ◌⊎◌, ℕ, Bool, ◌==◌, ◌||◌, List, length, slice_get, Some, Ok, MatchBool}
use Rattle.mz_cmd.specs.declared.statement.StmtAt.TheVariants.{Head}
use Rattle.mz_cmd.specs.StatementList.{statement_at}
use Rattle.mz_logic_theory.specs.Declaration.{Declaration, sort_decl, term_decl, assertion_decl, sorts, terms, signatures, assertions}
use Rattle.mz_logic_theory.specs.LegalLists.{Statement}
use Rattle.mz_layout_tables.specs.Tables.{tables_of, term_count, thm_count}
use Rattle.mz_machine_theory.specs.Spells.{SpellsTerm, SpellsThm}
use Rattle.mz_machine_theory.specs.FileRows.{term_of_file, thm_of_file}

-- ---- kinds

-- 04 a sort, 05 a term or definition, 02 an axiom, 06 a theorem; 0D and 0E are 05 and 06 of a local statement
abbrev pub IsKindOf : ℕ → Declaration → Type 0
IsKindOf code (sort_decl _) = code ≡ 0x04
IsKindOf code (term_decl _) = (code ≡ 0x05) ⊎ (code ≡ 0x0D)
IsKindOf code (assertion_decl a) = MatchBool a.is_axiom (code ≡ 0x02) ((code ≡ 0x06) ⊎ (code ≡ 0x0E))

abbrev pub is_local_code : ℕ → Bool
is_local_code code = code == 0x0D || code == 0x0E

abbrev pub HasKind : ℕ → Statement → Type 0
HasKind code s = IsKindOf code s.decl × (s.is_local ≡ is_local_code code)

-- ---- rows

-- the row of the declaration's kind that follows those of env spells it
abbrev pub SpellsRow : List ℕ → List Declaration → Declaration → Type 0
SpellsRow file env (sort_decl m) = slice_get (tables_of file).sorts (length (sorts env)) ≡ Some m
SpellsRow file env (term_decl d) = (length (terms env) < term_count file) × SpellsTerm (signatures env) (term_of_file file (length (terms env))) d
SpellsRow file env (assertion_decl a) = (length (assertions env) < thm_count file) × SpellsThm (signatures env) (thm_of_file file (length (assertions env))) a

-- after env, the statement stands at a place, and the next one at another
pub record IsSpelled (file : List ℕ) (env : List Declaration) (at : ℕ) (s : Statement) (next : ℕ) : Type 0 where
  pub code : ℕ
  pub body : ℕ
  pub stands : statement_at file at ≡ Ok (Head code body next)
  pub kind : HasKind code s
  pub row : SpellsRow file env s.decl
