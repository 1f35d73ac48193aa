-- The text of lines, part by part.
use Rattle.std.specs.Prelude.{◌++◌, ℕ, List, [], Bool, true, false, if◌then◌else◌, codes}
use Rattle.mz_logic_theory.specs.Signature.{Signature}
use Rattle.mz_logic_theory.specs.Declaration.{Declaration}
use Rattle.mz_mmu_theory.specs.Statements.{Statement}
use Rattle.mz_prefix.specs.Tokens.{written}
use Rattle.mz_prefix.specs.Lines.{PlainBinder, binders_words, type_words, line_text}
use Rattle.mz_prefix.specs.PublicPart.{public_decl}
use Rattle.mz_prefix.specs.NamedDeclarations.{Vocabulary, plain_type, plain_binders, line_of_decl}
use Rattle.mz_prefix.specs.Wording.{is_hidden}
use Rattle.mz_prefix.specs.declared.names.Names.{Names}
use Rattle.mz_prefix.specs.Names.{spoken}

-- a keyword and a space, where a sort has the modifier
abbrev pub modifier_text : Bool → List ℕ → List ℕ
modifier_text true keyword = keyword ++ codes " "
modifier_text false keyword = []

-- a keyword, a name and binders
abbrev pub head_text : List ℕ → List ℕ → List PlainBinder → List ℕ
head_text keyword name binders = keyword ++ (codes " " ++ (name ++ written (binders_words binders)))

-- the line of a term, or of a definition without dummies and body
abbrev pub bare_text : Vocabulary → List ℕ → List ℕ → Signature → List ℕ
bare_text v keyword name sig =
    head_text keyword name (plain_binders v 0 sig.params []) ++ (codes ":" ++ (written (type_words (plain_type v sig.result.sort sig.result.deps)) ++ codes ";\n"))

-- the line of a declaration, hidden bodies left out
abbrev pub told : Names → List ℕ → Declaration → List ℕ
told names name d = line_text (line_of_decl (spoken names) name (public_decl (is_hidden names.locals.items (spoken names)) (λ t. t) d))

-- that of a statement; nothing where it is local
abbrev pub statement_text : Names → Statement → List ℕ
statement_text names s = if s.is_local then [] else told names s.name s.decl
