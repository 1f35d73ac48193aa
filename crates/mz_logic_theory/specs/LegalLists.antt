-- Legal lists of statements: each is a legal declaration over those before it, and each theorem has
-- a proof over those before it (mm0.md, section on theorems; Carneiro, the rules of environments).
use Rattle.std.specs.Prelude.{◌≡◌, ◌≢◌, ⊤, Bool, true, false, List, [], ◌∷◌, ◌++◌, map}
use Rattle.mz_logic_theory.specs.Tree.{none}
use Rattle.mz_logic_theory.specs.Declaration.{Assertion, Declaration, sort_decl, term_decl, assertion_decl, body_of, sorts}
use Rattle.mz_logic_theory.specs.Modifiers.{MayBeDummySort}
use Rattle.mz_logic_theory.specs.Legality.{IsLegalDecl, IsDummy, Each}
use Rattle.mz_logic_theory.specs.Derivations.{Derivation, Derives, IsGapFree}
use Rattle.mz_logic_theory.specs.declared.binder.Binder.{Binder}
use Rattle.mz_logic_theory.specs.declared.binder.SortMods.{SortMods}

-- a declaration with its visibility: local, or public
pub record Statement : Type 0 where
  pub is_local : Bool
  pub decl : Declaration

abbrev pub declarations : List Statement → List Declaration
declarations list = map (λ s. s.decl) list

-- local are only definitions with a body, and theorems
abbrev pub MayBeLocal : Declaration → Type 0
MayBeLocal (sort_decl _) = ⊥
MayBeLocal (term_decl d) = body_of d.form ≢ none
MayBeLocal (assertion_decl a) = a.is_axiom ≡ false

-- a theorem's dummies: bound variables without dependencies, whose sorts are there and neither strict
-- nor free
abbrev pub AreDummies : List SortMods → List Binder → Type 0
AreDummies ss dummies = Each dummies (λ _ b. IsDummy b × MayBeDummySort ss b.sort)

-- over env the conclusion has a derivation from the hypotheses, which Q allows there, in the context
-- of the parameters and of some dummies
abbrev pub IsProvedBy : (List Declaration → Derivation → Type 0) → List Declaration → Assertion → Type 0
IsProvedBy Q env a = (dummies : List Binder) × AreDummies (sorts env) dummies
    × ((d : Derivation) × Q env d × Derives env (a.params ++ dummies) a.hyps d a.conclusion)

abbrev pub IsProvedIfTheorem : (List Declaration → Derivation → Type 0) → List Declaration → Declaration → Type 0
IsProvedIfTheorem Q env (sort_decl _) = ⊤
IsProvedIfTheorem Q env (term_decl _) = ⊤
IsProvedIfTheorem Q env (assertion_decl a) = a.is_axiom ≡ false → IsProvedBy Q env a

-- the statement may follow those of env
abbrev pub IsLegalStatement : (List Declaration → Derivation → Type 0) → List Declaration → Statement → Type 0
IsLegalStatement Q env s = IsLegalDecl env s.decl × (s.is_local ≡ true → MayBeLocal s.decl) × IsProvedIfTheorem Q env s.decl

-- each statement may follow those before it; `env` holds what was declared before the list
abbrev pub LegalAfter : (List Declaration → Derivation → Type 0) → List Declaration → List Statement → Type 0
LegalAfter Q env [] = ⊤
LegalAfter Q env (s ∷ ss) = IsLegalStatement Q env s × LegalAfter Q (env ++ s.decl ∷ []) ss

-- a list that is legal by derivations that Q allows
abbrev pub LegalBy : (List Declaration → Derivation → Type 0) → List Statement → Type 0
LegalBy Q list = LegalAfter Q [] list

-- every derivation is allowed
abbrev pub any_derivation : List Declaration → Derivation → Type 0
any_derivation env d = ⊤

-- the gap-free ones are
abbrev pub gap_free : List Declaration → Derivation → Type 0
gap_free env d = IsGapFree d

abbrev pub Legal : List Statement → Type 0
Legal list = LegalBy gap_free list

-- a legal list, but that gaps may stand in its derivations
abbrev pub DraftLegal : List Statement → Type 0
DraftLegal list = LegalBy any_derivation list

-- what is allowed by whether gaps are
abbrev pub allowed_with : Bool → List Declaration → Derivation → Type 0
allowed_with false = gap_free
allowed_with true = any_derivation
