-- The body of a definition, and its free variables.
use Rattle.std.proofs.Common.{◌≡◌, ◌++◌, ℕ, List, [], ◌∷◌, map, Option, Some, None, Contains, sym, refl, subst, inl}
use Rattle.mz_lex.specs.Lexemes.{Lexeme}
use Rattle.mz_lex.specs.declared.rule.S.TheVariants as rules
use Rattle.mz_base.specs.Checks.{AllHold, FailsFirst, each_in_order}
use Rattle.mz_base.proofs.Offered.{all_hold-both, fails-after}
use Rattle.mz_logic_theory.specs.Tree.{Tree}
use Rattle.mz_logic_theory.specs.Declaration.{signatures}
use Rattle.mz_logic_theory.specs.Variables.{InFV}
use Rattle.mz_logic_theory.specs.declared.binder.ResultType.{ResultType}
use Rattle.mz_lex.specs.declared.tokens.MathToken.{MathToken}
use Rattle.mz_math_theory.specs.declared.wanted.Wanted.TheVariants.{Sort as of_sort}
use Rattle.mz_math_theory.specs.Notation.{Variables}
use Rattle.mz_lex.specs.MathTokens.{MathTokens}
use Rattle.mz_math_theory.specs.Kept.{IsTable, AreVariables}
use Rattle.mz_math_theory.proofs.Offered.{one-meaning}
use Rattle.mz_spec_theory.specs.Reading.{OnFault}
use Rattle.mz_spec_theory.specs.Statement.{TypeText, Head, definition_statement}
use Rattle.mz_spec_theory.specs.declared.refusal.Halt.{Halt}
use Rattle.mz_spec_variables.specs.Code.{AreParts, all_of, variable}
use Rattle.mz_spec_theory.specs.SpecCode.{EndsSmall}
use Rattle.mz_spec_theory.specs.Formulas.{AreTokens, IsMeant, CoversFreeVariables, inner, string_checks, strings_checks, free_checks}
use Rattle.mz_spec_theory.specs.Kept.{IsSpelled}
use Rattle.mz_spec_theory.specs.Dependencies.{Every}
use Rattle.mz_spec_theory.specs.Rules.{body_rules}
use Rattle.mz_spec_theory.specs.State.{State, result_of, scope_of, reader_of, sort_number, variable_bytes}
use Rattle.mz_spec_theory.specs.View.{Variable, body, params_of}
use Rattle.mz_spec_variables.specs.declared.parts.Parts.{Parts}
use Rattle.mz_spec_theory.proofs.Offered.{mem-before, body-small, last-halt, all-strings}

-- ---- its rules

module _ (σ : State) (place : ℕ) (vs : List Variable) (l : Lexeme) (t : TypeText) (tokens : List (List MathToken)) (are : AreTokens σ (body l t ∷ []) tokens) where
  -- the string breaks a rule, or it is out of memory there
  pub body-halt : (halt : Halt) → ((ps : List MathToken) → MathTokens σ.table.delimiters (inner l) ps → OnFault halt (FailsFirst (string_checks σ vs (body l t) ps)))
      → OnFault halt (FailsFirst (body_rules σ place vs (body l t ∷ []) tokens))
  body-halt halt fails =
      mem-before (strings_checks σ vs (body l t ∷ []) tokens) (each_in_order (free_checks σ place vs) (body l t ∷ [])) halt
      (last-halt σ vs [] (body l t) tokens halt are (λ before cut. tt) fails)

  module _ (holds : (ps : List MathToken) → MathTokens σ.table.delimiters (inner l) ps → AllHold (string_checks σ vs (body l t) ps)) (e : Tree) (meant : IsMeant σ vs (body l t) e) where
    strings-hold : AllHold (strings_checks σ vs (body l t ∷ []) tokens)
    strings-hold = all-strings σ vs [] (body l t) tokens are (λ before cut. tt) holds

    -- the result depends on each free variable
    pub body-holds : CoversFreeVariables σ vs t e → AllHold (body_rules σ place vs (body l t ∷ []) tokens)
    body-holds free =
        all_hold-both (strings_checks σ vs (body l t ∷ []) tokens) (each_in_order (free_checks σ place vs) (body l t ∷ [])) strings-hold ((e, meant, free), tt)

    -- or not
    pub body-fails : IsTable σ.table → AreVariables (scope_of σ vs).names → (CoversFreeVariables σ vs t e → ⊥)
        → FailsFirst (body_rules σ place vs (body l t ∷ []) tokens) (record { at = place; rule = rules.DefinitionDependencies })
    body-fails table names out =
        fails-after (strings_checks σ vs (body l t ∷ []) tokens) (each_in_order (free_checks σ place vs) (body l t ∷ [])) (record { at = place; rule = rules.DefinitionDependencies }) strings-hold
        (inl ((λ q. out (subst (CoversFreeVariables σ vs t) (one-meaning (reader_of σ vs) (of_sort (sort_number σ t)) (inner l) table names q.0 e q.1 meant) q.2)), refl))

-- ---- what the code's scope and result say of free variables

module _ (σ : State) (vs : List Variable) (t : TypeText) (e : Tree) (scope : Variables) (result : ResultType) (is_scope : scope ≡ scope_of σ vs) (is_result : result ≡ result_of σ vs t) where
  abbrev pub Covers : Type 0
  Covers = (x : ℕ) → InFV (signatures σ.env) scope.binders x e → Contains result.deps x

  pub covers-all : Covers → CoversFreeVariables σ vs t e
  covers-all all x free = subst (λ r. Contains r.deps x) is_result (all x (subst (λ s. InFV (signatures σ.env) s.binders x e) (sym is_scope) free))

  pub all-covers : CoversFreeVariables σ vs t e → Covers
  all-covers all x free = subst (λ r. Contains r.deps x) (sym is_result) (all x (subst (λ s. InFV (signatures σ.env) s.binders x e) is_scope free))

-- ---- its names are those of the parts

pub scope-names : (σ : State) (p : Parts) (vs : List Variable) (ts rs : List TypeText) → AreParts p vs ts rs
    → AreVariables (map variable_bytes (map variable p.params.items) ++ map variable_bytes (map variable p.dummies.items)) → AreVariables (scope_of σ vs).names
scope-names σ p vs ts rs parts names =
    subst (λ xs. AreVariables (map variable_bytes (params_of vs) ++ map variable_bytes xs)) parts.dummies
    (subst (λ xs. AreVariables (map variable_bytes xs ++ map variable_bytes (map variable p.dummies.items))) parts.params names)

-- a body ends before 2 ^ 32
pub bodies-small : (h : Head) (t : TypeText) (b : Option Lexeme) → IsSpelled (definition_statement h t b) → Every EndsSmall (all_of b)
bodies-small h t None is = tt
bodies-small h t (Some l) is = (body-small h t l is, tt)
