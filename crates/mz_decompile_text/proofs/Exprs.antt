-- Expressions and variables are read of their phrases.
use Rattle.std.proofs.Common.{ℕ, ◌≡◌, ◌<◌, inl, inr, List, [], ◌∷◌, length, map, All, Some, refl}
use Rattle.std.proofs.lemmas.List.Elements.{All-head, All-tail}
use Rattle.mz_logic_theory.specs.Tree.{Tree, Trees, var, app, none, more}
use Rattle.mz_logic_theory.specs.Signature.{Signature}
use Rattle.mz_logic_theory.specs.Legality.{signature_at, InRange, AllInRange}
use Rattle.mz_base.specs.Names.{number_of, IsNew}
use Rattle.mz_mmu_theory.specs.Name.{Names, Scope, IsName, HasNumber, IsNewName, scope_of}
use Rattle.mz_mmu_theory.specs.Expressions.{IsExpr, AreExprs, IsExprList, AreVariables, IsVariableList}
use Rattle.mz_decompile_text.specs.Phrases.{a_word, a_list}
use Rattle.mz_decompile_text.specs.Phrasing.{Vocabulary, expression, expressions, word_list, variable_names}
use Rattle.mz_decompile_text.proofs.Saying.{Says, AllSay, a-word, a-list, take, done, all-so}
use Rattle.mz_decompile_text.proofs.Numbers.{Numbered}
use Rattle.mz_decompile_text.proofs.Atoms.{name-atom}

-- the token is the name that has this number
pub a-number : (f : ℕ → List ℕ) (k : ℕ) (xs : List (List ℕ)) → Numbered f k xs → (i : ℕ) → i < k → Says (a_word (f i)) (λ n. HasNumber xs n i)
a-number f k xs are i less = a-word (f i) _ (name-atom (f i) (are.named i less)) (λ at. (are.named i less, are.found i less))

pub a-new-name : (xs : List (List ℕ)) (w : List ℕ) → IsName w → IsNew xs w → Says (a_word w) (λ n. IsNewName xs n w)
a-new-name xs w name new = a-word w _ (name-atom w name) (λ at. (refl, name, new))

pub some-variables : (v : Vocabulary) (k : ℕ) (vars : List (List ℕ)) → Numbered v.variable k vars → (xs : List ℕ) → All (λ x. x < k) xs
    → AllSay (word_list (map v.variable xs)) (λ ns. AreVariables vars ns xs)
some-variables v k vars are [] below = done refl
some-variables v k vars are (x ∷ xs) below =
    take (a-number v.variable k vars are x (All-head (λ x. x < k) x xs below))
    (all-so (some-variables v k vars are xs (All-tail (λ x. x < k) x xs below)) (λ ns others n is. (x, xs, is, others, refl)))

pub variable-list : (v : Vocabulary) (k : ℕ) (vars : List (List ℕ)) → Numbered v.variable k vars → (xs : List ℕ) → All (λ x. x < k) xs
    → Says (variable_names v xs) (λ n. IsVariableList vars n xs)
variable-list v k vars are xs below = a-list (all-so (some-variables v k vars are xs below) (λ ns is at. is))

-- what an expression knows of the names before: those of variables and terms have numbers, and a term without
-- parameters is no variable, and has its number among constants
pub record Known (v : Vocabulary) (names : Names) (sigs : List Signature) (k : ℕ) (vars : List (List ℕ)) : Type 0 where
  pub variables : Numbered v.variable k vars
  pub terms : Numbered v.term (length sigs) names.terms
  pub apart : (t : ℕ) → t < length sigs → IsNew vars (v.term t)
  pub constants : (t : ℕ) → t < length sigs → 0 ≡ length (signature_at sigs t).params → number_of names.constants (v.term t) ≡ Some t

module _ (v : Vocabulary) (names : Names) (sigs : List Signature) (k : ℕ) (vars : List (List ℕ)) (known : Known v names sigs k vars) where
  abbrev sc : Scope
  sc = scope_of names vars

  pub a-term : (t : ℕ) → t < length sigs → Says (a_word (v.term t)) (λ n. HasNumber names.terms n t)
  a-term t there = a-number v.term (length sigs) names.terms known.terms t there

  mutual
    pub expr-said : (e : Tree) → InRange sigs k e → Says (expression v e) (λ n. IsExpr sc n e)
    expr-said (var x) less =
        a-word (v.variable x) _ (name-atom (v.variable x) (known.variables.named x less)) (λ at. (known.variables.named x less, inl (x, known.variables.found x less, refl)))
    expr-said (app t none) (there, many, _) =
        a-word (v.term t) _ (name-atom (v.term t) (known.terms.named t there)) (λ at. (known.terms.named t there, inr (known.apart t there, (t, known.constants t there many, refl))))
    expr-said (app t (more e es)) (there, many, ranges) =
        a-list (take (a-term t there) (all-so (exprs-said (more e es) ranges) (λ ns are n is at. (t, more e es, is, are, refl))))

    pub exprs-said : (es : Trees) → AllInRange sigs k es → AllSay (expressions v es) (λ ns. AreExprs sc ns es)
    exprs-said none ranges = done refl
    exprs-said (more e es) (range, ranges) = take (expr-said e range) (all-so (exprs-said es ranges) (λ ns are n is. (e, es, is, are, refl)))

  pub expr-list-said : (es : Trees) → AllInRange sigs k es → Says (a_list (expressions v es)) (λ n. IsExprList sc n es)
  expr-list-said es ranges = a-list (all-so (exprs-said es ranges) (λ ns are at. are))
