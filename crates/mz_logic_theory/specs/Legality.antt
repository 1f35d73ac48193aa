-- Legal declarations: eight rules in order (mm0.md, sections on sorts, terms, definitions and
-- theorems; Carneiro, the rules of well-formed declarations).
use Rattle.std.specs.Prelude.{ℕ, ◌≡◌, ◌<◌, ⊤, true, false, List, [], ◌∷◌, ◌++◌, length, get_or, slice_get, Contains, All, Some}
use Rattle.mz_base.specs.Checks.{Checks, demand, ◌>>◌, AllHold}
use Rattle.mz_logic_theory.specs.Tree.{Tree, Trees, var, app, none, more, listed}
use Rattle.mz_logic_theory.specs.Signature.{Signature}
use Rattle.mz_logic_theory.specs.Declaration.{Declaration, sort_decl, term_decl, assertion_decl, dummies_of, body_of, context_of, sorts, signatures}
use Rattle.mz_logic_theory.specs.Modifiers.{MayBeResultSort, MayBeBoundSort, MayBeDummySort, MayBeClaimSort}
use Rattle.mz_logic_theory.specs.Sorts.{IsBoundVar}
use Rattle.mz_logic_theory.specs.Variables.{InFV, IsBoundAt}
use Rattle.mz_logic_theory.specs.declared.binder.Binder.{Binder}
use Rattle.mz_logic_theory.specs.declared.binder.SortMods.{SortMods}
use Rattle.mz_logic_theory.specs.declared.decl.DeclFault.{DeclFault}

-- P holds of each element and its place
abbrev pub Each : {A : Type 0} → List A → (ℕ → A → Type 0) → Type 0
Each {A} xs P = (i : ℕ) (x : A) → slice_get xs i ≡ Some x → P i x

-- P holds of each of the expressions
abbrev pub EachTree : (Tree → Type 0) → Trees → Type 0
EachTree P none = ⊤
EachTree P (more e es) = P e × EachTree P es

-- ---- the sort of an expression whose names are in range; past the end, where no rule looks, 0

abbrev pub binder_at : List Binder → ℕ → Binder
binder_at ctx x = get_or ctx x (record { sort = 0; bound = false; deps = [] })

abbrev pub signature_at : List Signature → ℕ → Signature
signature_at sigs t = get_or sigs t (record { params = []; result = record { sort = 0; deps = [] } })

abbrev pub sort_of : List Signature → List Binder → Tree → ℕ
sort_of sigs ctx (var x) = (binder_at ctx x).sort
sort_of sigs ctx (app t es) = (signature_at sigs t).result.sort

-- ---- what the rules ask of a tree

-- each term and variable is there, and each term has as many operands as parameters
abbrev mutual
  pub InRange : List Signature → ℕ → Tree → Type 0
  InRange sigs n (var x) = x < n
  InRange sigs n (app t es) = (t < length sigs) × (length (listed es) ≡ length (signature_at sigs t).params) × AllInRange sigs n es

  pub AllInRange : List Signature → ℕ → Trees → Type 0
  AllInRange sigs n none = ⊤
  AllInRange sigs n (more e es) = InRange sigs n e × AllInRange sigs n es

-- P holds between each operand, at any depth, and its parameter
abbrev mutual
  pub Operands : List Signature → (Tree → Binder → Type 0) → Tree → Type 0
  Operands sigs P (var x) = ⊤
  Operands sigs P (app t es) = OperandsOf sigs P es (signature_at sigs t).params

  pub OperandsOf : List Signature → (Tree → Binder → Type 0) → Trees → List Binder → Type 0
  OperandsOf sigs P none ps = ⊤
  OperandsOf sigs P (more e es) [] = ⊤
  OperandsOf sigs P (more e es) (p ∷ ps) = P e p × Operands sigs P e × OperandsOf sigs P es ps

-- an operand has its parameter's sort; an operand of a bound parameter is a bound variable
abbrev pub SortsFit : List Signature → List Binder → Tree → Binder → Type 0
SortsFit sigs ctx o p = sort_of sigs ctx o ≡ p.sort

abbrev pub BoundFit : List Binder → Tree → Binder → Type 0
BoundFit ctx o p = p.bound ≡ true → IsBoundVar ctx o

abbrev pub HasOperandSorts : List Signature → List Binder → Tree → Type 0
HasOperandSorts sigs ctx e = Operands sigs (SortsFit sigs ctx) e

abbrev pub HasBoundOperands : List Signature → List Binder → Tree → Type 0
HasBoundOperands sigs ctx e = Operands sigs (BoundFit ctx) e

-- ---- the eight rules

-- 1: all names are in range: the sorts, the terms with their numbers of operands, the variables, and
-- the dependencies, which are variables of the statement
abbrev pub IsBinderThere : List SortMods → ℕ → Binder → Type 0
IsBinderThere ss n b = (b.sort < length ss) × All (λ j. j < n) b.deps

abbrev pub AreBindersThere : List SortMods → ℕ → List Binder → Type 0
AreBindersThere ss n bs = All (IsBinderThere ss n) bs

abbrev pub NamesThere : List Declaration → Declaration → Type 0
NamesThere env (sort_decl _) = ⊤
NamesThere env (term_decl d) =
    AreBindersThere (sorts env) (length (context_of d)) d.signature.params
    × AreBindersThere (sorts env) (length (context_of d)) (dummies_of d.form)
    × (d.signature.result.sort < length (sorts env)) × All (λ j. j < length (context_of d)) d.signature.result.deps
    × AllInRange (signatures env) (length (context_of d)) (body_of d.form)
NamesThere env (assertion_decl a) =
    AreBindersThere (sorts env) (length a.params) a.params
    × AllInRange (signatures env) (length a.params) a.hyps × InRange (signatures env) (length a.params) a.conclusion

-- 2: a bound parameter has no dependencies and no strict sort, and a regular one depends on earlier
-- bound ones; a dummy is bound and has no dependencies; a result depends on bound parameters
abbrev pub IsParam : List SortMods → List Binder → ℕ → Binder → Type 0
IsParam ss params i b =
    (b.bound ≡ true → (b.deps ≡ []) × MayBeBoundSort ss b.sort)
    × (b.bound ≡ false → All (λ j. (j < i) × IsBoundAt params j) b.deps)

abbrev pub AreParams : List SortMods → List Binder → Type 0
AreParams ss params = Each params (IsParam ss params)

-- regular variables depend on bound ones alone
abbrev pub DependOnBound : List Binder → Type 0
DependOnBound ctx = Each ctx (λ _ b. b.bound ≡ false → (x : ℕ) → Contains b.deps x → IsBoundAt ctx x)

abbrev pub IsDummy : Binder → Type 0
IsDummy b = (b.bound ≡ true) × (b.deps ≡ [])

abbrev pub BindersRight : List Declaration → Declaration → Type 0
BindersRight env (sort_decl _) = ⊤
BindersRight env (term_decl d) = AreParams (sorts env) d.signature.params × All IsDummy (dummies_of d.form)
    × All (IsBoundAt d.signature.params) d.signature.result.deps
BindersRight env (assertion_decl a) = AreParams (sorts env) a.params

-- 3: no result has a pure sort
abbrev pub NoResultPure : List Declaration → Declaration → Type 0
NoResultPure env (sort_decl _) = ⊤
NoResultPure env (term_decl d) = MayBeResultSort (sorts env) d.signature.result.sort
NoResultPure env (assertion_decl _) = ⊤

-- 4: each operand has its parameter's sort, and a body has the result's
abbrev pub SortsRight : List Declaration → Declaration → Type 0
SortsRight env (sort_decl _) = ⊤
SortsRight env (term_decl d) = EachTree (HasOperandSorts (signatures env) (context_of d)) (body_of d.form)
    × EachTree (λ e. sort_of (signatures env) (context_of d) e ≡ d.signature.result.sort) (body_of d.form)
SortsRight env (assertion_decl a) = EachTree (HasOperandSorts (signatures env) a.params) a.hyps × HasOperandSorts (signatures env) a.params a.conclusion

-- 5: each operand of a bound parameter is a bound variable
abbrev pub BoundRight : List Declaration → Declaration → Type 0
BoundRight env (sort_decl _) = ⊤
BoundRight env (term_decl d) = EachTree (HasBoundOperands (signatures env) (context_of d)) (body_of d.form)
BoundRight env (assertion_decl a) = EachTree (HasBoundOperands (signatures env) a.params) a.hyps × HasBoundOperands (signatures env) a.params a.conclusion

-- 6: hypotheses and conclusion have provable sorts
abbrev pub IsClaim : List Declaration → List Binder → Tree → Type 0
IsClaim env ctx e = MayBeClaimSort (sorts env) (sort_of (signatures env) ctx e)

abbrev pub ClaimsProvable : List Declaration → Declaration → Type 0
ClaimsProvable env (sort_decl _) = ⊤
ClaimsProvable env (term_decl _) = ⊤
ClaimsProvable env (assertion_decl a) = EachTree (IsClaim env a.params) a.hyps × IsClaim env a.params a.conclusion

-- 7: no dummy has a strict or free sort
abbrev pub DummySortsRight : List Declaration → Declaration → Type 0
DummySortsRight env (sort_decl _) = ⊤
DummySortsRight env (term_decl d) = All (λ b. MayBeDummySort (sorts env) b.sort) (dummies_of d.form)
DummySortsRight env (assertion_decl _) = ⊤

-- 8: the result depends on each variable of FV of a body
abbrev pub DepsRight : List Declaration → Declaration → Type 0
DepsRight env (sort_decl _) = ⊤
DepsRight env (term_decl d) = EachTree (λ e. (x : ℕ) → InFV (signatures env) (context_of d) x e → Contains d.signature.result.deps x) (body_of d.form)
DepsRight env (assertion_decl _) = ⊤

-- the rules in order, each with the fault of a declaration that fails it first
abbrev pub decl_checks : List Declaration → Declaration → Checks DeclFault
decl_checks env d =
    demand DeclFault.Index (NamesThere env d)
    >> demand DeclFault.Binder (BindersRight env d)
    >> demand DeclFault.Pure (NoResultPure env d)
    >> demand DeclFault.Sort (SortsRight env d)
    >> demand DeclFault.BoundOperand (BoundRight env d)
    >> demand DeclFault.NotProvable (ClaimsProvable env d)
    >> demand DeclFault.DummySort (DummySortsRight env d)
    >> demand DeclFault.DefDeps (DepsRight env d)

abbrev pub IsLegalDecl : List Declaration → Declaration → Type 0
IsLegalDecl env d = AllHold (decl_checks env d)

-- each declaration is legal over those before it; `env` holds what was declared before the list
abbrev pub LegalEnvAfter : List Declaration → List Declaration → Type 0
LegalEnvAfter env [] = ⊤
LegalEnvAfter env (d ∷ ds) = IsLegalDecl env d × LegalEnvAfter (env ++ d ∷ []) ds

abbrev pub IsLegalEnv : List Declaration → Type 0
IsLegalEnv ds = LegalEnvAfter [] ds
