-- How parts that say a text grow by a statement.
use Rattle.std.specs.Prelude.{◌≡◌, ℕ, Bool, List, [], ◌∷◌, ◌++◌, length, slice_get, Some}
use Rattle.mz_logic_theory.specs.Declaration.{Declaration, sort_decl, term_decl, assertion_decl, sorts, terms, assertions}
use Rattle.mz_logic_theory.specs.LegalLists.{Statement, declarations}
use Rattle.mz_layout_tables.specs.Normal.{Row, Written, Parts, no_parts}
use Rattle.mz_emit_theory.specs.FileWriting.{IsWrittenStatement, HaveNoMore, IsWrittenAs}

-- one row more, of the declaration's kind, and one statement
abbrev pub HasOneMore : Parts → Parts → Declaration → Written → Type 0
HasOneMore p p' (sort_decl _) w = (m : ℕ) × (p' ≡ record p { sorts = p.sorts ++ m ∷ []; statements = p.statements ++ w ∷ [] })
HasOneMore p p' (term_decl _) w = (r : Row) × (p' ≡ record p { terms = p.terms ++ r ∷ []; statements = p.statements ++ w ∷ [] })
HasOneMore p p' (assertion_decl _) w = (r : Row) × (p' ≡ record p { thms = p.thms ++ r ∷ []; statements = p.statements ++ w ∷ [] })

-- no parts say the empty text
abbrev pub NothingIsWritten : Type 0
NothingIsWritten = (gaps : Bool) → IsWrittenAs gaps no_parts [] []

-- parts that say a text say one more statement where they grow by what says it
abbrev pub WritingGrows : Type 0
WritingGrows = (gaps : Bool) (p p' : Parts) (text made : List Statement) (t s : Statement) (w : Written) → IsWrittenAs gaps p text made
    → HasOneMore p p' t.decl w → IsWrittenStatement gaps p' (declarations text) t s w → IsWrittenAs gaps p' (text ++ t ∷ []) (made ++ s ∷ [])

-- their rows are the text's
abbrev pub RowsAreCounted : Type 0
RowsAreCounted = (gaps : Bool) (p : Parts) (text made : List Statement) → IsWrittenAs gaps p text made → HaveNoMore p (declarations text)

-- so a row that is appended is the next of its kind
abbrev pub AppendedIsNext : Type 0
AppendedIsNext = (p : Parts) (env : List Declaration) → HaveNoMore p env
    → ((m : ℕ) → slice_get (p.sorts ++ m ∷ []) (length (sorts env)) ≡ Some m)
    × ((r : Row) → slice_get (p.terms ++ r ∷ []) (length (terms env)) ≡ Some r)
    × ((r : Row) → slice_get (p.thms ++ r ∷ []) (length (assertions env)) ≡ Some r)
