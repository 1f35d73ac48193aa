-- A declaration is well formed just where it breaks none of the rules in order, and so it is with a list of statements.
use Rattle.std.proofs.Common.{◌≡◌, ◌≢◌, ◌++◌, ℕ, Bool, true, false, List, [], ◌∷◌, All, Contains, refl, subst}
use Rattle.std.proofs.lemmas.List.Elements.{All-nil, All-cons, All-head, All-tail}
use Rattle.mz_logic_theory.specs.Tree.{Tree, none}
use Rattle.mz_logic_theory.specs.Signature.{Signature}
use Rattle.mz_logic_theory.specs.Declaration.{Declaration, sort_decl, term_decl, assertion_decl, Assertion, Form, plain_form, abstract_form, defined, dummies_of, body_of, sorts, signatures}
use Rattle.mz_logic_theory.specs.Legality.{IsLegalDecl, IsDummy, EachTree}
use Rattle.mz_logic_theory.specs.LegalLists.{Statement, MayBeLocal, IsProvedBy, IsProvedIfTheorem, LegalAfter, gap_free}
use Rattle.mz_logic_theory.specs.Modifiers.{MayBeDummySort}
use Rattle.mz_logic_theory.specs.Sorts.{HasSort}
use Rattle.mz_logic_theory.specs.Variables.{InFV}
use Rattle.mz_logic_theory.specs.declared.binder.Binder.{Binder}
use Rattle.mz_logic_theory.specs.declared.binder.SortMods.{SortMods}
use Rattle.mz_logic_theory.proofs.Offered.{all_from_each, each_from_all, terms_are_sorted, assertions_are_sorted}
use Rattle.mz_spec_proved_theory.specs.ByItself.{IsConcreteForm, IsConcrete}
use Rattle.mz_spec_proved_theory.specs.WellFormed.{BodyIsRight, IsWellFormed, MayHaveForm, MayStand, IsLegalAfter}

-- ---- declarations

abbrev IsRightDummy : List SortMods → Binder → Type 0
IsRightDummy ss b = IsDummy b × MayBeDummySort ss b.sort

-- what is asked of a body, by the rules
abbrev IsBody : List Declaration → Signature → List Binder → Tree → Type 0
IsBody env g ds e = HasSort (signatures env) (g.params ++ ds) e g.result.sort × ((x : ℕ) → InFV (signatures env) (g.params ++ ds) x e → Contains g.result.deps x)

has-body : (env : List Declaration) (g : Signature) (f : Form) → All (IsRightDummy (sorts env)) (dummies_of f) → EachTree (IsBody env g (dummies_of f)) (body_of f) → BodyIsRight env g f
has-body env g plain_form dummies each = tt
has-body env g abstract_form dummies each = tt
has-body env g (defined ds e) dummies each = (each_from_all (IsRightDummy (sorts env)) ds dummies, each.0.0, each.0.1)

body-dummies : (env : List Declaration) (g : Signature) (f : Form) → BodyIsRight env g f → All (IsRightDummy (sorts env)) (dummies_of f)
body-dummies env g plain_form has = All-nil (IsRightDummy (sorts env))
body-dummies env g abstract_form has = All-nil (IsRightDummy (sorts env))
body-dummies env g (defined ds e) has = all_from_each (IsRightDummy (sorts env)) ds has.0

body-each : (env : List Declaration) (g : Signature) (f : Form) → BodyIsRight env g f → EachTree (IsBody env g (dummies_of f)) (body_of f)
body-each env g plain_form has = tt
body-each env g abstract_form has = tt
body-each env g (defined ds e) has = ((has.1, has.2), tt)

pub formed-decl : (env : List Declaration) (d : Declaration) → IsLegalDecl env d → IsWellFormed env d
formed-decl env (sort_decl m) legal = tt
formed-decl env (term_decl t) legal = let p = (terms_are_sorted env t).0 legal in ((p.0, p.1), p.3, p.4, has-body env t.signature t.form p.2 p.5)
formed-decl env (assertion_decl a) legal = let p = (assertions_are_sorted env a).0 legal in ((p.0, p.1), p.2, p.3)

pub legal-decl : (env : List Declaration) (d : Declaration) → IsWellFormed env d → IsLegalDecl env d
legal-decl env (sort_decl m) is = (tt, (tt, (tt, (tt, (tt, (tt, (tt, (tt, tt))))))))
legal-decl env (term_decl t) is = (terms_are_sorted env t).1 (is.0.0, is.0.1, body-dummies env t.signature t.form is.3, is.1, is.2, body-each env t.signature t.form is.3)
legal-decl env (assertion_decl a) is = (assertions_are_sorted env a).1 (is.0.0, is.0.1, is.1, is.2)

-- ---- local statements, and definitions with their bodies

not-local : (b : Bool) → (b ≡ true → ⊥) → b ≡ false
not-local true never = absurd (never refl)
not-local false never = refl

may-have : (b : Bool) (f : Form) → (b ≡ true → body_of f ≢ none) → IsConcreteForm f → MayHaveForm b f
may-have b plain_form local concrete = not-local b (λ is. local is refl)
may-have b abstract_form local concrete = concrete
may-have b (defined ds e) local concrete = tt

may-stand : (b : Bool) (d : Declaration) → (b ≡ true → MayBeLocal d) → IsConcrete d → MayStand b d
may-stand b (sort_decl m) local concrete = not-local b local
may-stand b (term_decl t) local concrete = may-have b t.form local concrete
may-stand b (assertion_decl a) local concrete = local

form-local : (b : Bool) (f : Form) → MayHaveForm b f → b ≡ true → body_of f ≢ none
form-local b plain_form stands is = absurd cc
form-local b abstract_form stands is = absurd stands
form-local b (defined ds e) stands is = λ none. cc

may-local : (b : Bool) (d : Declaration) → MayStand b d → b ≡ true → MayBeLocal d
may-local b (sort_decl m) stands is = absurd cc
may-local b (term_decl t) stands is = form-local b t.form stands is
may-local b (assertion_decl a) stands is = stands is

form-concrete : (b : Bool) (f : Form) → MayHaveForm b f → IsConcreteForm f
form-concrete b plain_form stands = tt
form-concrete b abstract_form stands = stands
form-concrete b (defined ds e) stands = tt

stands-concrete : (b : Bool) (d : Declaration) → MayStand b d → IsConcrete d
stands-concrete b (sort_decl m) stands = tt
stands-concrete b (term_decl t) stands = form-concrete b t.form stands
stands-concrete b (assertion_decl a) stands = tt

-- ---- lists

proved-if : (env : List Declaration) (d : Declaration) → ((a : Assertion) → d ≡ assertion_decl a → a.is_axiom ≡ false → IsProvedBy gap_free env a) → IsProvedIfTheorem gap_free env d
proved-if env (sort_decl m) proved = tt
proved-if env (term_decl t) proved = tt
proved-if env (assertion_decl a) proved = proved a refl

pub formed-list : (env : List Declaration) (ss : List Statement) → LegalAfter gap_free env ss → All (λ s. IsConcrete s.decl) ss → IsLegalAfter env ss
formed-list env [] legal concrete = tt
formed-list env (s ∷ ss) legal concrete = (
  may-stand s.is_local s.decl legal.0.1 (All-head (λ s. IsConcrete s.decl) s ss concrete),
  formed-decl env s.decl legal.0.0,
  (λ a is theorem. subst (IsProvedIfTheorem gap_free env) is legal.0.2 theorem),
  formed-list (env ++ s.decl ∷ []) ss legal.1 (All-tail (λ s. IsConcrete s.decl) s ss concrete),
)

pub legal-list : (env : List Declaration) (ss : List Statement) → IsLegalAfter env ss → LegalAfter gap_free env ss
legal-list env [] is = tt
legal-list env (s ∷ ss) is = ((legal-decl env s.decl is.1, may-local s.is_local s.decl is.0, proved-if env s.decl is.2), legal-list (env ++ s.decl ∷ []) ss is.3)

pub concrete-list : (env : List Declaration) (ss : List Statement) → IsLegalAfter env ss → All (λ s. IsConcrete s.decl) ss
concrete-list env [] is = All-nil (λ s. IsConcrete s.decl)
concrete-list env (s ∷ ss) is = All-cons (λ s. IsConcrete s.decl) s ss (stands-concrete s.is_local s.decl is.0) (concrete-list (env ++ s.decl ∷ []) ss is.3)
