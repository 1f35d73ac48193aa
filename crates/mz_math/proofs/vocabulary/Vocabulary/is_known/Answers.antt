use Rattle.std.proofs.Common.{◌≡◌, ◌∙◌, ◌⊎◌, ℕ, List, ap, sym, subst, refl, Contains, inl}
use Rattle.std.proofs.lemmas.Bool.{true≢false}
use Rattle.mz_math_theory.specs.Notation.{TermName}
use Rattle.mz_math_theory.specs.Clear.{HasConstant}
use Rattle.mz_math_theory.specs.Grammar.{Words}
use Rattle.mz_math_theory.proofs.Offered.{known-last, known-parenthesis, known-constant, known-name}
use Rattle.mz_math.proofs.vocabulary.Vocabulary.is_known.Goals as goal

pub returns-then-names_variable : goal.returns-then-names_variable
returns-then-names_variable c =
    let here = c.names_variable.ensures.0 c.if-names_variable.true in
    (λ t. inl (here.0, subst (λ (ns : List (List ℕ)). Contains ns c.args.token.now) (ap (λ (w : Words). w.variables) c.self.view_is) here.1), λ h. refl)

pub returns-then-is_parenthesis : goal.returns-then-is_parenthesis
returns-then-is_parenthesis c = (λ t. known-parenthesis c.args.self.now c.args.token.now (c.is_parenthesis.ensures.0 c.if-is_parenthesis.true), λ h. refl)

pub returns-then-has_constant : goal.returns-then-has_constant
returns-then-has_constant c = (
  λ t. known-constant c.args.self.now c.args.token.now
      (subst (λ (ws : Words). (q : ℕ) × (HasConstant ws.leading c.args.token.now q ⊎ HasConstant ws.infixes c.args.token.now q)) c.self.view_is (c.has_constant.ensures.0 c.if-has_constant.true)),
  λ h. refl,
)

pub returns : goal.returns
returns c =
    let names = ap (λ (w : Words). w.names) c.self.view_is in
    let variables = ap (λ (w : Words). w.variables) c.self.view_is in (
      λ t. known-name c.args.self.now c.args.token.now
          (subst (λ (ns : List TermName). (n : TermName) × Contains ns n × (n.name ≡ c.args.token.now)) names (c.names_term.ensures.0 t)),
      λ h. c.names_term.ensures.1 (subst (λ (ns : List TermName). (n : TermName) × Contains ns n × (n.name ≡ c.args.token.now)) (sym names)
          (known-last c.args.self.now c.args.token.now
          (λ v. true≢false (sym (c.names_variable.ensures.1 (v.0, subst (λ (ns : List (List ℕ)). Contains ns c.args.token.now) (sym variables) v.1)) ∙ c.if-names_variable.false))
          (λ p. true≢false (sym (c.is_parenthesis.ensures.1 p) ∙ c.if-is_parenthesis.false))
          (λ has. true≢false (sym (c.has_constant.ensures.1 (subst (λ (ws : Words). (q : ℕ) × (HasConstant ws.leading c.args.token.now q ⊎ HasConstant ws.infixes c.args.token.now q)) (sym c.self.view_is) has)) ∙ c.if-has_constant.false))
          h)),
    )
