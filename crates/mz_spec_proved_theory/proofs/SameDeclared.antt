-- A statement is what the specification declares just where no rule of the match fails.
use Rattle.std.proofs.Common.{◌≡◌, ◌∙◌, ◌++◌, ℕ, Bool, true, false, List, [], ◌∷◌, length, refl, sym, ap, ap₂, subst}
use Rattle.std.specs.Prelude.{MatchBool, if◌then◌else◌}
use Rattle.mz_base.specs.Checks.{AllHold}
use Rattle.mz_logic_theory.specs.Declaration.{Declaration, sort_decl, term_decl, assertion_decl, Form, plain_form, abstract_form, defined}
use Rattle.mz_logic_theory.specs.LegalLists.{Statement}
use Rattle.mz_logic_theory.specs.declared.binder.ResultType.{ResultType}
use Rattle.mz_spec_proved_theory.specs.declared.kind.Kind.{Kind}
use Rattle.mz_spec_proved_theory.specs.declared.kind.Kind.TheVariants as kinds
use Rattle.mz_spec_proved_theory.specs.Match.{partner_of, publics_after, term_rows, kind_of_form, form_checks, match_checks, Agrees}
use Rattle.mz_spec_proved_theory.specs.Declares.{IsFormOf, IsDeclarationOf, DeclareAfter}

-- ---- a declaration and its partner

-- sorts, terms, and assertions
abbrev part_of : Kind → ℕ
part_of kinds.Sort = 0
part_of kinds.Term = 1
part_of kinds.Axiom = 2
part_of kinds.Definition = 1
part_of kinds.Theorem = 2

form-part : (f : Form) → part_of (kind_of_form f) ≡ 1
form-part plain_form = refl
form-part abstract_form = refl
form-part (defined ds e) = refl

assertion-part : (b : Bool) → part_of (if b then kinds.Axiom else kinds.Theorem) ≡ 2
assertion-part true = refl
assertion-part false = refl

same-kind : (a b : Bool) → (if a then kinds.Axiom else kinds.Theorem) ≡ (if b then kinds.Axiom else kinds.Theorem) → b ≡ a
same-kind true true is = refl
same-kind true false is = absurd cc
same-kind false true is = absurd cc
same-kind false false is = refl

form-is : (rows : List ℕ) (n : ℕ) (f g : Form) → kind_of_form f ≡ kind_of_form g → AllHold (form_checks rows n f g) → IsFormOf rows n f g
form-is rows n plain_form plain_form kind checks = refl
form-is rows n plain_form abstract_form kind checks = absurd cc
form-is rows n plain_form (defined es b) kind checks = absurd cc
form-is rows n abstract_form plain_form kind checks = absurd cc
form-is rows n abstract_form abstract_form kind checks = λ is. cc
form-is rows n abstract_form (defined es b) kind checks = λ is. cc
form-is rows n (defined ds a) plain_form kind checks = absurd checks.0
form-is rows n (defined ds a) abstract_form kind checks = absurd checks.0
form-is rows n (defined ds a) (defined es b) kind checks = (es, b, refl, checks.0)

form-holds : (rows : List ℕ) (n : ℕ) (f g : Form) → IsFormOf rows n f g → (kind_of_form f ≡ kind_of_form g) × AllHold (form_checks rows n f g)
form-holds rows n plain_form g is = (ap kind_of_form (sym is), tt)
form-holds rows n abstract_form plain_form is = absurd (is refl)
form-holds rows n abstract_form abstract_form is = (refl, tt)
form-holds rows n abstract_form (defined es b) is = (refl, tt)
form-holds rows n (defined ds a) g (es, b, is, same) = subst (λ h. (kinds.Definition ≡ kind_of_form h) × AllHold (form_checks rows n (defined ds a) h)) (sym is) (refl, (same, tt))

pub declaration-is : (rows : List ℕ) (d e : Declaration) → AllHold (match_checks d (record { rows = rows; decl = e })) → IsDeclarationOf rows d e
declaration-is rows (sort_decl m) (sort_decl n) (kind, checks) = ap sort_decl (sym checks.0)
declaration-is rows (sort_decl m) (term_decl u) (kind, checks) = absurd (let x : 0 ≡ 1 = ap part_of kind ∙ form-part u.form in cc)
declaration-is rows (sort_decl m) (assertion_decl b) (kind, checks) = absurd (let x : 0 ≡ 2 = ap part_of kind ∙ assertion-part b.is_axiom in cc)
declaration-is rows (term_decl t) (sort_decl n) (kind, checks) = absurd (let x : 0 ≡ 1 = sym (ap part_of kind) ∙ form-part t.form in cc)
declaration-is rows (term_decl t) (term_decl u) (kind, checks) =
    (u.form, ap (λ g. term_decl (record { signature = g; form = u.form })) (the-signature (sym checks.0) (sym checks.1.0)), form-is rows (length t.signature.params) t.form u.form kind checks.1.1)
  where
    the-signature : u.signature.params ≡ t.signature.params → u.signature.result ≡ t.signature.result → u.signature ≡ t.signature
    the-signature params result = ap₂ (λ ps (r : ResultType). record { params = ps; result = r }) params result
declaration-is rows (term_decl t) (assertion_decl b) (kind, checks) = absurd (let x : 1 ≡ 2 = sym (form-part t.form) ∙ ap part_of kind ∙ assertion-part b.is_axiom in cc)
declaration-is rows (assertion_decl a) (sort_decl n) (kind, checks) = absurd (let x : 0 ≡ 2 = sym (ap part_of kind) ∙ assertion-part a.is_axiom in cc)
declaration-is rows (assertion_decl a) (term_decl u) (kind, checks) = absurd (let x : 1 ≡ 2 = sym (form-part u.form) ∙ sym (ap part_of kind) ∙ assertion-part a.is_axiom in cc)
declaration-is rows (assertion_decl a) (assertion_decl b) (kind, checks) = (
  b.hyps,
  b.conclusion,
  ap₂ (λ (x : Bool) ps. assertion_decl (record { is_axiom = x; params = ps; hyps = b.hyps; conclusion = b.conclusion })) (same-kind a.is_axiom b.is_axiom kind) (sym checks.0),
  checks.1.0,
  checks.1.1.0,
)

pub declaration-holds : (rows : List ℕ) (d e : Declaration) → IsDeclarationOf rows d e → AllHold (match_checks d (record { rows = rows; decl = e }))
declaration-holds rows (sort_decl m) e is = subst (λ x. AllHold (match_checks (sort_decl m) (record { rows = rows; decl = x }))) (sym is) (refl, (refl, tt))
declaration-holds rows (term_decl t) e (f, is, same) =
    let form = form-holds rows (length t.signature.params) t.form f same in
    subst (λ x. AllHold (match_checks (term_decl t) (record { rows = rows; decl = x }))) (sym is) (form.0, (refl, (refl, form.1)))
declaration-holds rows (assertion_decl a) e (hyps, conclusion, is, same, also) =
    subst (λ x. AllHold (match_checks (assertion_decl a) (record { rows = rows; decl = x }))) (sym is) (refl, (refl, (same, (also, tt))))

-- ---- all of them

abbrev OnePublic : List Statement → List Declaration → Statement → List Statement → Type 0
OnePublic before ds s ss = (d : Declaration) × (rest : List Declaration) × (ds ≡ d ∷ rest) × IsDeclarationOf (term_rows 0 before) d s.decl × DeclareAfter (before ++ s ∷ []) rest ss

declare-public : (before : List Statement) (ds : List Declaration) (s : Statement) (ss : List Statement)
    → ((es : List Declaration) → Agrees es (publics_after (before ++ s ∷ []) ss) → DeclareAfter (before ++ s ∷ []) es ss)
    → Agrees ds (partner_of before s ∷ publics_after (before ++ s ∷ []) ss) → OnePublic before ds s ss
declare-public before [] s ss later agrees = absurd agrees
declare-public before (d ∷ ds) s ss later agrees = (d, ds, refl, declaration-is (term_rows 0 before) d s.decl agrees.0, later ds agrees.1)

declare-by : (before : List Statement) (ds : List Declaration) (s : Statement) (ss : List Statement) (b : Bool)
    → ((es : List Declaration) → Agrees es (publics_after (before ++ s ∷ []) ss) → DeclareAfter (before ++ s ∷ []) es ss)
    → Agrees ds (if b then publics_after (before ++ s ∷ []) ss else partner_of before s ∷ publics_after (before ++ s ∷ []) ss)
    → MatchBool b (DeclareAfter (before ++ s ∷ []) ds ss) (OnePublic before ds s ss)
declare-by before ds s ss true later agrees = later ds agrees
declare-by before ds s ss false later agrees = declare-public before ds s ss later agrees

pub declare : (before : List Statement) (ds : List Declaration) (ss : List Statement) → Agrees ds (publics_after before ss) → DeclareAfter before ds ss
declare before [] [] agrees = refl
declare before (d ∷ ds) [] agrees = absurd agrees
declare before ds (s ∷ ss) agrees = declare-by before ds s ss s.is_local (λ es so_far. declare (before ++ s ∷ []) es ss so_far) agrees

agree-by : (before : List Statement) (ds : List Declaration) (s : Statement) (ss : List Statement) (b : Bool)
    → ((es : List Declaration) → DeclareAfter (before ++ s ∷ []) es ss → Agrees es (publics_after (before ++ s ∷ []) ss))
    → MatchBool b (DeclareAfter (before ++ s ∷ []) ds ss) (OnePublic before ds s ss)
    → Agrees ds (if b then publics_after (before ++ s ∷ []) ss else partner_of before s ∷ publics_after (before ++ s ∷ []) ss)
agree-by before ds s ss true later declares = later ds declares
agree-by before ds s ss false later (d, rest, is, here, more) =
    subst (λ es. Agrees es (partner_of before s ∷ publics_after (before ++ s ∷ []) ss)) (sym is) (declaration-holds (term_rows 0 before) d s.decl here, later rest more)

pub agree : (before : List Statement) (ds : List Declaration) (ss : List Statement) → DeclareAfter before ds ss → Agrees ds (publics_after before ss)
agree before ds [] none = subst (λ es. Agrees es []) (sym none) tt
agree before ds (s ∷ ss) declares = agree-by before ds s ss s.is_local (λ es so_far. agree (before ++ s ∷ []) es ss so_far) declares
