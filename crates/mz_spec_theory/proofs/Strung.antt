-- The formulas of an axiom or a theorem: those before the conclusion, then the conclusion.
use Rattle.std.proofs.Common.{◌≡◌, ◌++◌, ℕ, List, [], ◌∷◌, map, refl, sym, subst}
use Rattle.mz_base.specs.Checks.{Checks, nothing, ◌>>◌, AllHold, FailsFirst, each_in_order}
use Rattle.mz_base.proofs.Offered.{all_hold-both}
use Rattle.mz_lex.specs.declared.tokens.MathToken.{MathToken}
use Rattle.mz_lex.specs.MathTokens.{MathTokens}
use Rattle.mz_spec_theory.specs.Reading.{OnFault}
use Rattle.mz_spec_theory.specs.declared.refusal.Fault.{Fault}
use Rattle.mz_spec_theory.specs.declared.refusal.Halt.{Halt}
use Rattle.mz_lex.specs.Lexemes.{Lexeme}
use Rattle.mz_spec_theory.specs.SpecCode.{EndsSmall}
use Rattle.mz_spec_theory.specs.Formulas.{AreTokens, inner, math_of, string_checks, strings_checks, free_checks}
use Rattle.mz_spec_theory.specs.Dependencies.{Every}
use Rattle.mz_spec_theory.specs.State.{State}
use Rattle.mz_spec_theory.specs.View.{Variable, Formula, claim, Stated, stated_claim}
use Rattle.mz_spec_theory.proofs.Loops.{assoc, mem-before, mem-after}

module _ (σ : State) (vs : List Variable) where
  -- the tokens of formulas and of one more
  pub split-tokens : (fs : List Formula) (f : Formula) (tokens : List (List MathToken)) → AreTokens σ (fs ++ f ∷ []) tokens
      → (before : List (List MathToken)) × (ps : List MathToken) × AreTokens σ fs before × MathTokens σ.table.delimiters (inner (math_of f)) ps
      × (strings_checks σ vs (fs ++ f ∷ []) tokens ≡ (strings_checks σ vs fs before >> (string_checks σ vs f ps >> nothing)))
  split-tokens [] f [] are = absurd are
  split-tokens [] f (ps ∷ []) (cut, none) = ([], ps, tt, cut, refl)
  split-tokens [] f (ps ∷ qs ∷ pss) (cut, none) = absurd none
  split-tokens (g ∷ fs) f [] are = absurd are
  split-tokens (g ∷ fs) f (ps ∷ pss) (cut, are) =
      let rest = split-tokens fs f pss are in
      (ps ∷ rest.0, rest.1, (cut, rest.2), rest.3, go (strings_checks σ vs (fs ++ f ∷ []) pss) (strings_checks σ vs fs rest.0) (string_checks σ vs f rest.1 >> nothing) rest.4)
    where
      go : (cs before last : Checks Fault) → cs ≡ (before >> last) → (string_checks σ vs g ps >> cs) ≡ ((string_checks σ vs g ps >> before) >> last)
      go cs before last is = subst (λ x. (string_checks σ vs g ps >> x) ≡ ((string_checks σ vs g ps >> before) >> last)) (sym is) (sym (assoc (string_checks σ vs g ps) before last))

  pub before-halt : (fs : List Formula) (f : Formula) (tokens : List (List MathToken)) (halt : Halt) → AreTokens σ (fs ++ f ∷ []) tokens
      → ((before : List (List MathToken)) → AreTokens σ fs before → OnFault halt (FailsFirst (strings_checks σ vs fs before))) → OnFault halt (FailsFirst (strings_checks σ vs (fs ++ f ∷ []) tokens))
  before-halt fs f tokens halt are fails =
      let parts = split-tokens fs f tokens are in
      subst (λ cs. OnFault halt (FailsFirst cs)) (sym parts.4) (mem-before (strings_checks σ vs fs parts.0) (string_checks σ vs f parts.1 >> nothing) halt (fails parts.0 parts.2))

  pub last-halt : (fs : List Formula) (f : Formula) (tokens : List (List MathToken)) (halt : Halt) → AreTokens σ (fs ++ f ∷ []) tokens
      → ((before : List (List MathToken)) → AreTokens σ fs before → AllHold (strings_checks σ vs fs before))
      → ((ps : List MathToken) → MathTokens σ.table.delimiters (inner (math_of f)) ps → OnFault halt (FailsFirst (string_checks σ vs f ps))) → OnFault halt (FailsFirst (strings_checks σ vs (fs ++ f ∷ []) tokens))
  last-halt fs f tokens halt are holds fails =
      let parts = split-tokens fs f tokens are in
      subst (λ cs. OnFault halt (FailsFirst cs)) (sym parts.4)
      (mem-after (strings_checks σ vs fs parts.0) (string_checks σ vs f parts.1 >> nothing) halt (holds parts.0 parts.2) (mem-before (string_checks σ vs f parts.1) nothing halt (fails parts.1 parts.3)))

  pub all-strings : (fs : List Formula) (f : Formula) (tokens : List (List MathToken)) → AreTokens σ (fs ++ f ∷ []) tokens
      → ((before : List (List MathToken)) → AreTokens σ fs before → AllHold (strings_checks σ vs fs before))
      → ((ps : List MathToken) → MathTokens σ.table.delimiters (inner (math_of f)) ps → AllHold (string_checks σ vs f ps)) → AllHold (strings_checks σ vs (fs ++ f ∷ []) tokens)
  all-strings fs f tokens are holds last =
      let parts = split-tokens fs f tokens are in
      subst AllHold (sym parts.4) (all_hold-both (strings_checks σ vs fs parts.0) (string_checks σ vs f parts.1 >> nothing) (holds parts.0 parts.2) (all_hold-both (string_checks σ vs f parts.1) nothing (last parts.1 parts.3) tt))

-- ---- how far they go

pub stated-of_formulas : (hs : List Stated) (c : Lexeme) → Every (λ f. EndsSmall (math_of f)) (map stated_claim hs ++ claim c ∷ []) → Every (λ h. EndsSmall h.math) hs × EndsSmall c
stated-of_formulas [] c (last, _) = (tt, last)
stated-of_formulas (h ∷ hs) c (here, all) = let rest = stated-of_formulas hs c all in ((here, rest.0), rest.1)

pub stated-to_formulas : (hs : List Stated) (c : Lexeme) → Every (λ h. EndsSmall h.math) hs → EndsSmall c → Every (λ f. EndsSmall (math_of f)) (map stated_claim hs ++ claim c ∷ [])
stated-to_formulas [] c all last = (last, tt)
stated-to_formulas (h ∷ hs) c (here, all) last = (here, stated-to_formulas hs c all last)

-- nothing is asked of the free variables of formulas that are no bodies
pub free-none : (σ : State) (place : ℕ) (vs : List Variable) (hs : List Stated) (c : Lexeme) → AllHold (each_in_order (free_checks σ place vs) (map stated_claim hs ++ claim c ∷ []))
free-none σ place vs [] c = tt
free-none σ place vs (h ∷ hs) c = free-none σ place vs hs c
