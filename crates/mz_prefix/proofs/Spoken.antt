-- Expressions whose terms have other numbers and the same names are printed alike.
use Rattle.std.proofs.Common.{◌≡◌, ◌≤◌, ◌++◌, ℕ, suc, List, [], ◌∷◌, length, ap, ap₂, sym, refl, subst, codes}
use Rattle.std.specs.Prelude.{max}
use Rattle.mz_logic_theory.specs.Tree.{Tree, Trees, var, app, none, more}
use Rattle.mz_math_theory.specs.Meaning.{height, trees_height}
use Rattle.mz_math_theory.specs.Formula.{most}
use Rattle.mz_prefix.specs.Prefix.{tokens_of, operand_tokens, enclosed, IsShort}
use Rattle.mz_prefix.specs.PublicPart.{renamed, all_renamed}
use Rattle.mz_prefix.proofs.Renaming.{AllTerms, AllTermsIn}

module _ (f : ℕ → ℕ) (term term' variable : ℕ → List ℕ) where
  abbrev pub KeepsName : ℕ → Type 0
  KeepsName t = term' (f t) ≡ term t

  mutual
    pub same-tokens : (e : Tree) → AllTerms KeepsName e → tokens_of term' variable (renamed f e) ≡ tokens_of term variable e
    same-tokens (var x) kept = refl
    same-tokens (app t es) kept = ap₂ ◌∷◌ kept.0 (same-operands es kept.1)

    same-operands : (es : Trees) → AllTermsIn KeepsName es → operand_tokens term' variable (all_renamed f es) ≡ operand_tokens term variable es
    same-operands none kept = refl
    same-operands (more e es) kept = ap₂ ◌++◌ (same-enclosed e kept.0) (same-operands es kept.1)

    same-enclosed : (e : Tree) → AllTerms KeepsName e → enclosed term' variable (renamed f e) ≡ enclosed term variable e
    same-enclosed (var x) kept = refl
    same-enclosed (app t none) kept = ap (λ w. w ∷ []) kept.0
    same-enclosed (app t (more e es)) kept =
        ap₂ (λ w ts. codes "(" ∷ (w ∷ ts ++ codes ")" ∷ [])) kept.0 (ap₂ ◌++◌ (same-enclosed e kept.1.0) (same-operands es kept.1.1))

  mutual
    same-height : (e : Tree) → height (renamed f e) ≡ height e
    same-height (var x) = refl
    same-height (app t es) = ap suc (same-heights es)

    same-heights : (es : Trees) → trees_height (all_renamed f es) ≡ trees_height es
    same-heights none = refl
    same-heights (more e es) = ap₂ max (same-height e) (same-heights es)

  pub same-short : (e : Tree) → AllTerms KeepsName e → IsShort (tokens_of term variable e) e → IsShort (tokens_of term' variable (renamed f e)) (renamed f e)
  same-short e kept short = record {
    few = subst (λ (ts : List (List ℕ)). length ts ≤ most) (sym (same-tokens e kept)) short.few;
    low = subst (λ (n : ℕ). n ≤ most) (sym (same-height e)) short.low;
  }
