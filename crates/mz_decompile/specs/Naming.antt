-- The name of a statement, by its place among those of its kind.
use Rattle.std.specs.Prelude.{ℕ, List, length}
use Rattle.mz_logic_theory.specs.Declaration.{Declaration, sort_decl, term_decl, assertion_decl, sorts, terms, assertions}
use Rattle.mz_decompile_text.specs.Phrasing.{Vocabulary}

-- of what is declared next after env
abbrev pub next_name : Vocabulary → List Declaration → Declaration → List ℕ
next_name v env (sort_decl m) = v.sort (length (sorts env))
next_name v env (term_decl d) = v.term (length (terms env))
next_name v env (assertion_decl a) = v.assertion (length (assertions env))
