-- What a good statement makes of the state is one.
use Rattle.std.proofs.Common.{◌≡◌, ◌∙◌, ℕ, List, [], ◌∷◌, map, Option, Some, None, ap, ap₂, sym, refl}
use Rattle.mz_lex.specs.Lexemes.{Lexeme}
use Rattle.mz_logic_theory.specs.Tree.{Tree, Trees, followed_by}
use Rattle.mz_logic_theory.specs.Declaration.{assertion_decl, term_decl, Form, defined}
use Rattle.mz_lex.specs.declared.tokens.Delimiters.{Delimiters}
use Rattle.mz_lex.specs.MathTokens.{no_delimiters, token_texts, AreCharacters, AreDelimiters}
use Rattle.mz_math_theory.specs.Notation.{with_notation, with_delimiters}
use Rattle.mz_math_theory.specs.Kept.{AreVariables}
use Rattle.mz_math_theory.proofs.Offered.{one-meaning}
use Rattle.mz_lex.proofs.Offered.{math_tokens-one}
use Rattle.mz_spec_theory.specs.Statement.{TypeText, SpecStatement, sort_statement, term_statement, assert_statement, definition_statement, operator_statement, coercion_statement, delimiter_statement, notation_statement}
use Rattle.mz_spec_theory.specs.View.{Variable, Formula, claim, body, Stated, view, stated_of}
use Rattle.mz_spec_theory.specs.State.{State, with_sort, with_term, with_assertion, with_table, param_binders, dummy_binders, signature_of, scope_of, reader_of}
use Rattle.mz_spec_theory.specs.Formulas.{IsMeant, AreHyps, copies, inner, math_of, wanted_of}
use Rattle.mz_spec_theory.specs.Declaring.{IsForm, is_axiom, After}
use Rattle.mz_spec_theory.specs.Kept.{IsKept}
use Rattle.mz_spec_theory.specs.Spec.{IsGood}
use Rattle.mz_spec_theory.proofs.Naming.{IsWritten, variables-written}
use Rattle.mz_spec_theory.proofs.Places.{split-variables}
use Rattle.mz_spec_theory.proofs.Good.{good-others}
use Rattle.mz_spec_theory.proofs.Keeping.{makes-one}

-- ---- delimiters

one-character : (cs ds : List ℕ) → map (λ c. c ∷ []) cs ≡ map (λ c. c ∷ []) ds → cs ≡ ds
one-character [] [] same = refl
one-character [] (d ∷ ds) same = absurd cc
one-character (c ∷ cs) [] same = absurd cc
one-character (c ∷ cs) (d ∷ ds) same = ap₂ ◌∷◌ (let e : c ≡ d = cc in e) (one-character cs ds (let e : map (λ x. x ∷ []) cs ≡ map (λ x. x ∷ []) ds = cc in e))

characters-one : (text cs ds : List ℕ) → AreCharacters text cs → AreCharacters text ds → cs ≡ ds
characters-one text cs ds (ps, cut, are) (qs, cut_q, are_q) = one-character cs ds (sym are ∙ ap (token_texts text) (math_tokens-one no_delimiters text 0 ps qs cut cut_q) ∙ are_q)

abbrev sides : List ℕ → List ℕ → Delimiters
sides left right = record { left = left; right = right }

pub delimiters-one : (left : List ℕ) (right : Option (List ℕ)) (d e : Delimiters) → AreDelimiters left right d → AreDelimiters left right e → d ≡ e
delimiters-one left None d e (a, b) (x, y) = ap₂ sides (characters-one left d.left e.left a x) (characters-one left d.right e.right b y)
delimiters-one left (Some right) d e (a, b) (x, y) = ap₂ sides (characters-one left d.left e.left a x) (characters-one right d.right e.right b y)

-- ---- formulas

module _ (σ : State) (kept : IsKept σ) (vs : List Variable) (vars : AreVariables (scope_of σ vs).names) where
  meant-one : (f : Formula) (e g : Tree) → IsMeant σ vs f e → IsMeant σ vs f g → e ≡ g
  meant-one f e g a b = one-meaning (reader_of σ vs) (wanted_of σ f) (inner (math_of f)) kept.table vars e g a b

  hyps-one : (hs : List Stated) (es fs : Trees) → AreHyps σ vs hs es → AreHyps σ vs hs fs → es ≡ fs
  hyps-one [] es fs a b = a ∙ sym b
  hyps-one (h ∷ hs) es fs (e, rest, meant, are, is) (g, left, meant_g, are_g, is_g) =
      is ∙ ap₂ (λ x y. followed_by (copies h.times x) y) (meant-one (claim h.math) e g meant meant_g) (hyps-one hs rest left are are_g) ∙ sym is_g

  form-one : (t : TypeText) (b : Option Lexeme) (f g : Form) → IsForm σ vs t b f → IsForm σ vs t b g → f ≡ g
  form-one t None f g a b = a ∙ sym b
  form-one t (Some l) f g (e, meant, is) (d, meant_d, is_d) = is ∙ ap (λ x. defined (dummy_binders σ vs) x) (meant-one (body l t) e d meant meant_d) ∙ sym is_d

-- ---- statements

good-variables : (σ : State) (place : ℕ) (s : SpecStatement) → IsWritten s → IsGood σ place s → AreVariables (scope_of σ (view s).variables).names
good-variables σ place s written (tokens, cut, good) = split-variables (view s).variables (good-others σ place s tokens good) (variables-written s written)

pub after-one : (σ τ ρ : State) (place : ℕ) (s : SpecStatement) → IsKept σ → IsWritten s → IsGood σ place s → After σ place s τ → After σ place s ρ → τ ≡ ρ
after-one σ τ ρ place (sort_statement m n) kept written good (d, is, same) (e, is_e, same_e) = same ∙ ap (with_sort σ place n) (is ∙ sym is_e) ∙ sym same_e
after-one σ τ ρ place (term_statement h ts t) kept written good (d, is, same) (e, is_e, same_e) = same ∙ ap (with_term σ place h.name) (is ∙ sym is_e) ∙ sym same_e
after-one σ τ ρ place (assert_statement k h ps c) kept written good (d, (hyps, x, are, meant, is), same) (e, (others, y, are_e, meant_e, is_e), same_e) =
    let s = assert_statement k h ps c in
    let vs = (view s).variables in
    let vars = good-variables σ place s written good in
    let decls : d ≡ e = is
    ∙ ap₂ (λ hs z. assertion_decl (record { is_axiom = is_axiom k; params = param_binders σ vs; hyps = hs; conclusion = z }))
    (hyps-one σ kept vs vars (stated_of h.groups ps) hyps others are are_e) (meant-one σ kept vs vars (claim c) x y meant meant_e) ∙ sym is_e in
    same ∙ ap (with_assertion σ place h.name) decls ∙ sym same_e
after-one σ τ ρ place (definition_statement h t b) kept written good (d, (f, form, is), same) (e, (g, form_e, is_e), same_e) =
    let s = definition_statement h t b in
    let vs = (view s).variables in
    let vars = good-variables σ place s written good in
    let decls : d ≡ e = is ∙ ap (λ x. term_decl (record { signature = signature_of σ vs t; form = x })) (form-one σ kept vs vars t b f g form form_e) ∙ sym is_e in
    same ∙ ap (with_term σ place h.name) decls ∙ sym same_e
after-one σ τ ρ place (operator_statement f n c l) kept written good (u, (k, makes, is), same) (v, (j, makes_j, is_v), same_v) =
    let s = operator_statement f n c l in
    let one = makes-one σ s (good-variables σ place s written good) k j makes makes_j in
    same ∙ ap (with_table σ) (is ∙ ap (with_notation σ.table) one ∙ sym is_v) ∙ sym same_v
after-one σ τ ρ place (coercion_statement n from to) kept written good (u, is, same) (v, is_v, same_v) = same ∙ ap (with_table σ) (is ∙ sym is_v) ∙ sym same_v
after-one σ τ ρ place (delimiter_statement left right) kept written good (u, (d, are, is), same) (v, (e, are_e, is_v), same_v) =
    same ∙ ap (with_table σ) (is ∙ ap (with_delimiters σ.table) (delimiters-one _ _ d e are are_e) ∙ sym is_v) ∙ sym same_v
after-one σ τ ρ place (notation_statement h t ls last tail) kept written good (u, (k, makes, is), same) (v, (j, makes_j, is_v), same_v) =
    let s = notation_statement h t ls last tail in
    let one = makes-one σ s (good-variables σ place s written good) k j makes makes_j in
    same ∙ ap (with_table σ) (is ∙ ap (with_notation σ.table) one ∙ sym is_v) ∙ sym same_v
