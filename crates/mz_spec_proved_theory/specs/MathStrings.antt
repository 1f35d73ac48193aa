-- What a math string stands for (mm0.md, sections on math strings, notations and coercions).
use Rattle.std.specs.Prelude.{◌≡◌, ℕ, List, [], ◌∷◌, Option, Some, None}
use Rattle.mz_lex.specs.Lexemes.{Lexeme}
use Rattle.mz_lex.specs.MathTokens.{MathTokens, token_texts}
use Rattle.mz_lex.specs.declared.tokens.MathToken.{MathToken}
use Rattle.mz_logic_theory.specs.Tree.{Tree, Trees, none, followed_by, copies}
use Rattle.mz_logic_theory.specs.Declaration.{signatures, Form, abstract_form, defined}
use Rattle.mz_logic_theory.specs.declared.binder.Binder.{Binder}
use Rattle.mz_math_theory.specs.Coercions.{IsPath, wrapped}
use Rattle.mz_math_theory.specs.Formula.{Reader, words}
use Rattle.mz_math_theory.specs.Grammar.{Exp}
use Rattle.mz_math_theory.specs.Meaning.{Coerced, IsGoal}
use Rattle.mz_math_theory.specs.declared.wanted.Wanted.{Wanted}
use Rattle.mz_math_theory.specs.declared.wanted.Wanted.TheVariants.{Provable as provable, Sort as of_sort}
use Rattle.mz_spec_theory.specs.Formulas.{inner}
use Rattle.mz_spec_theory.specs.View.{Stated}

-- e of the sort s, wrapped in coercions to the sort that is wanted: a body's, or a provable one
abbrev pub IsWrapped : Reader → Wanted → Tree → ℕ → Tree → Type 0
IsWrapped r (of_sort goal) e s f = (path : List ℕ) × IsPath r.table.coercions s path goal × (f ≡ wrapped r.table.coercions path e)
IsWrapped r provable e s f = (goal : ℕ) × (path : List ℕ) × IsGoal r.env r.table.coercions s goal × IsPath r.table.coercions s path goal
    × (f ≡ wrapped r.table.coercions path e)

-- the math string stands for e: its tokens make the tree t; with its operands wrapped this is f, of the sort s; f wrapped to
-- what is wanted is e
abbrev pub StandsFor : Reader → Wanted → Lexeme → Tree → Type 0
StandsFor r wanted l e = (ps : List MathToken) × (t : Tree) × (f : Tree) × (s : ℕ) × MathTokens r.table.delimiters (inner l) ps
    × Exp (words r) 0 t (token_texts (inner l) ps) × Coerced (signatures r.env) r.table.coercions r.scope.binders t f s × IsWrapped r wanted f s e

-- the hypotheses, in order, each as often as it is named
abbrev pub AreHypotheses : Reader → List Stated → Trees → Type 0
AreHypotheses r [] es = es ≡ none
AreHypotheses r (h ∷ hs) es = (e : Tree) × (rest : Trees) × StandsFor r provable h.math e × AreHypotheses r hs rest × (es ≡ followed_by (copies h.times e) rest)

-- the form of a definition; without a body it is abstract
abbrev pub IsFormText : Reader → ℕ → List Binder → Option Lexeme → Form → Type 0
IsFormText r s dummies None f = f ≡ abstract_form
IsFormText r s dummies (Some l) f = (e : Tree) × StandsFor r (of_sort s) l e × (f ≡ defined dummies e)
