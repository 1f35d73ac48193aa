-- Statements of a specification as a printer writes them: each binder with a name of its own, each math string as tokens
-- (mm0.md, section on the grammar; where spaces stand is this project's own).
use Rattle.std.specs.Prelude.{◌≡◌, ◌+◌, ◌++◌, ⊤, ℕ, List, [], ◌∷◌, Bool, true, false, Option, Some, None, codes}
use Rattle.mz_lex.specs.declared.token.TokenKind.TheVariants as kinds
use Rattle.mz_spec_theory.specs.declared.kind.AssertKind.{AssertKind}
use Rattle.mz_spec_theory.specs.declared.kind.Kind.{Kind}
use Rattle.mz_spec_theory.specs.declared.kind.Kind.TheVariants.{Term, Assert, Definition}
use Rattle.mz_spec_theory.specs.Statement.{Modifiers, TypeText, Source, type_source, formula_source, Group, Head, SpecStatement, sort_statement, term_statement, assert_statement, definition_statement, keyword_of, opening_of, closing_of}
use Rattle.mz_lex.specs.Lexemes.{Lexeme}
use Rattle.mz_prefix.specs.Tokens.{Word, written, lexeme_at, lexemes_at, stop}

-- the name of a sort, and those of the variables on which something depends
pub record PlainType : Type 0 where
  pub sort : List ℕ
  pub deps : List (List ℕ)

-- a parameter, in braces or round brackets; or a dummy, behind a dot
pub record PlainBinder : Type 0 where
  pub is_dummy : Bool
  pub is_bound : Bool
  pub name : List ℕ
  pub type : PlainType

-- the math tokens of a math string
abbrev pub Tokens : Type 0
Tokens = List (List ℕ)

pub data Line : Type 0 where
  sort_line : Modifiers → (name : List ℕ) → Line
  term_line : (name : List ℕ) → List PlainBinder → PlainType → Line
  assert_line : AssertKind → (name : List ℕ) → List PlainBinder → (hyps : List Tokens) → (conclusion : Tokens) → Line
  definition_line : (name : List ℕ) → List PlainBinder → PlainType → (body : Option Tokens) → Line

-- ---- tokens, behind nothing or behind a space

abbrev pub mark : List ℕ → Word
mark text = record { gap = []; kind = kinds.Symbol; text = text }

abbrev pub spaced_mark : List ℕ → Word
spaced_mark text = record { gap = codes " "; kind = kinds.Symbol; text = text }

abbrev pub name_word : List ℕ → Word
name_word text = record { gap = []; kind = kinds.Name; text = text }

abbrev pub spaced_name : List ℕ → Word
spaced_name text = record { gap = codes " "; kind = kinds.Name; text = text }

-- math tokens, each with a space behind it
abbrev pub spaced : Tokens → List ℕ
spaced [] = []
spaced (t ∷ ts) = t ++ (codes " " ++ spaced ts)

-- `$`, the math tokens and `$`, with a space between each two of them
abbrev pub math_text : Tokens → List ℕ
math_text ts = codes "$ " ++ (spaced ts ++ codes "$")

abbrev pub math_word : Tokens → Word
math_word ts = record { gap = codes " "; kind = kinds.Math; text = math_text ts }

-- ---- the tokens of each part, and the part itself where they begin at a place

abbrev pub dep_words : List (List ℕ) → List Word
dep_words [] = []
dep_words (d ∷ ds) = spaced_name d ∷ dep_words ds

abbrev pub type_words : PlainType → List Word
type_words t = spaced_name t.sort ∷ dep_words t.deps

abbrev pub type_at : ℕ → PlainType → TypeText
type_at p t = record { sort = lexeme_at p (spaced_name t.sort); deps = lexemes_at (stop p (spaced_name t.sort ∷ [])) (dep_words t.deps) }

abbrev pub dot_words : Bool → List Word
dot_words true = mark (codes ".") ∷ []
dot_words false = []

-- what stands before the name of a binder, and from there to its type
abbrev pub opening_words : PlainBinder → List Word
opening_words b = spaced_mark (opening_of b.is_bound) ∷ dot_words b.is_dummy

abbrev pub naming_words : PlainBinder → List Word
naming_words b = name_word b.name ∷ mark (codes ":") ∷ []

abbrev pub binder_words : PlainBinder → List Word
binder_words b = opening_words b ++ (naming_words b ++ (type_words b.type ++ mark (closing_of b.is_bound) ∷ []))

abbrev pub binder_at : ℕ → PlainBinder → Group
binder_at p b = record {
  is_bound = b.is_bound;
  names = record { is_dummy = b.is_dummy; name = lexeme_at (stop p (opening_words b)) (name_word b.name) } ∷ [];
  source = type_source (type_at (stop (stop p (opening_words b)) (naming_words b)) b.type);
}

abbrev pub binders_words : List PlainBinder → List Word
binders_words [] = []
binders_words (b ∷ bs) = binder_words b ++ binders_words bs

abbrev pub binders_at : ℕ → List PlainBinder → List Group
binders_at p [] = []
binders_at p (b ∷ bs) = binder_at p b ∷ binders_at (stop p (binder_words b)) bs

-- the keyword and the name
abbrev pub title_words : Kind → List ℕ → List Word
title_words kind name = name_word (keyword_of kind) ∷ spaced_name name ∷ []

abbrev pub head_words : Kind → List ℕ → List PlainBinder → List Word
head_words kind name bs = title_words kind name ++ binders_words bs

abbrev pub head_at : ℕ → Kind → List ℕ → List PlainBinder → Head
head_at p kind name bs = record { name = lexeme_at (stop p (name_word (keyword_of kind) ∷ [])) (spaced_name name); groups = binders_at (stop p (title_words kind name)) bs }

abbrev pub colon_words : List Word
colon_words = mark (codes ":") ∷ []

abbrev pub end_words : List Word
end_words = mark (codes ";") ∷ []

-- each hypothesis with a `>` behind it
abbrev pub hyp_words : Tokens → List Word
hyp_words h = math_word h ∷ spaced_mark (codes ">") ∷ []

abbrev pub hyps_words : List Tokens → List Word
hyps_words [] = []
hyps_words (h ∷ hs) = hyp_words h ++ hyps_words hs

abbrev pub hyps_at : ℕ → List Tokens → List Source
hyps_at p [] = []
hyps_at p (h ∷ hs) = formula_source (lexeme_at p (math_word h)) ∷ hyps_at (stop p (hyp_words h)) hs

abbrev pub body_words : Option Tokens → List Word
body_words None = []
body_words (Some ts) = spaced_mark (codes "=") ∷ math_word ts ∷ []

abbrev pub body_at : ℕ → Option Tokens → Option Lexeme
body_at p None = None
body_at p (Some ts) = Some (lexeme_at (stop p (spaced_mark (codes "=") ∷ [])) (math_word ts))

-- ---- sorts

abbrev pub modifier_names : Bool → List ℕ → List (List ℕ)
modifier_names true name = name ∷ []
modifier_names false name = []

abbrev pub sort_keywords : Modifiers → List (List ℕ)
sort_keywords m = modifier_names m.is_pure (codes "pure") ++ (modifier_names m.is_strict (codes "strict")
    ++ (modifier_names m.is_provable (codes "provable") ++ (modifier_names m.is_free (codes "free") ++ codes "sort" ∷ [])))

-- keywords behind a first gap, and a space between each two of them
abbrev pub keyword_words : List ℕ → List (List ℕ) → List Word
keyword_words gap [] = []
keyword_words gap (k ∷ ks) = record { gap = gap; kind = kinds.Name; text = k } ∷ keyword_words (codes " ") ks

abbrev pub sort_words : Modifiers → List Word
sort_words m = keyword_words [] (sort_keywords m)

-- ---- lines

abbrev pub line_words : Line → List Word
line_words (sort_line m name) = sort_words m ++ (spaced_name name ∷ end_words)
line_words (term_line name bs t) = head_words Term name bs ++ (colon_words ++ (type_words t ++ end_words))
line_words (assert_line kind name bs hyps conclusion) = head_words (Assert kind) name bs ++ (colon_words ++ (hyps_words hyps ++ (math_word conclusion ∷ end_words)))
line_words (definition_line name bs t body) = head_words Definition name bs ++ (colon_words ++ (type_words t ++ (body_words body ++ end_words)))

-- behind the colon of a statement that begins at a place
abbrev pub colon_at : ℕ → Kind → List ℕ → List PlainBinder → ℕ
colon_at p kind name bs = stop (stop p (head_words kind name bs)) colon_words

-- the statement that a line is, which begins at a place
abbrev pub statement_at : ℕ → Line → SpecStatement
statement_at p (sort_line m name) = sort_statement m (lexeme_at (stop p (sort_words m)) (spaced_name name))
statement_at p (term_line name bs t) = term_statement (head_at p Term name bs) [] (type_at (colon_at p Term name bs) t)
statement_at p (assert_line kind name bs hyps conclusion) =
    assert_statement kind (head_at p (Assert kind) name bs) (hyps_at (colon_at p (Assert kind) name bs) hyps)
    (lexeme_at (stop (colon_at p (Assert kind) name bs) (hyps_words hyps)) (math_word conclusion))
statement_at p (definition_line name bs t body) =
    definition_statement (head_at p Definition name bs) (type_at (colon_at p Definition name bs) t)
    (body_at (stop (colon_at p Definition name bs) (type_words t)) body)

-- the tokens and a newline
abbrev pub line_text : Line → List ℕ
line_text l = written (line_words l) ++ codes "\n"

abbrev pub lines_text : List Line → List ℕ
lines_text [] = []
lines_text (l ∷ ls) = line_text l ++ lines_text ls

-- the place behind a line's newline
abbrev pub next_line : ℕ → Line → ℕ
next_line p l = stop p (line_words l) + 1

-- only definitions have dummies
abbrev pub HaveNoDummies : List PlainBinder → Type 0
HaveNoDummies [] = ⊤
HaveNoDummies (b ∷ bs) = (b.is_dummy ≡ false) × HaveNoDummies bs

abbrev pub HasItsDummies : Line → Type 0
HasItsDummies (sort_line m name) = ⊤
HasItsDummies (term_line name bs t) = HaveNoDummies bs
HasItsDummies (assert_line kind name bs hyps conclusion) = HaveNoDummies bs
HasItsDummies (definition_line name bs t body) = ⊤
