-- The spelled list is the same list.
use Rattle.std.proofs.Common.{List, [], ◌∷◌, ◌++◌, refl}
use Rattle.mz_logic_theory.specs.Declaration.{Form, plain_form, abstract_form, defined, Declaration, sort_decl, term_decl, assertion_decl, sorts, signatures}
use Rattle.mz_logic_theory.specs.Legality.{Each, IsDummy, IsLegalDecl, LegalEnvAfter}
use Rattle.mz_logic_theory.specs.LegalLists.{Statement, declarations}
use Rattle.mz_logic_theory.specs.Modifiers.{MayBeDummySort}
use Rattle.mz_logic_theory.specs.Signature.{Signature}
use Rattle.mz_logic_theory.specs.declared.binder.Binder.{Binder}
use Rattle.mz_logic_theory.proofs.Offered.{terms_are_sorted, each_from_all}
use Rattle.mz_emit_theory.specs.AlphaEquivalence.{IsSameForm}
use Rattle.mz_emit_theory.specs.AlphaLists.{IsSameDeclaration, IsSameList}
use Rattle.mz_emit_theory.specs.SpelledLists.{form_spelled, decl_spelled, list_spelled, SpelledListsAreSame}
use Rattle.mz_emit_theory.proofs.SameForms.{bodies-same}

form-same : (env : List Declaration) (sig : Signature) (form : Form) → IsLegalDecl env (term_decl (record { signature = sig; form = form }))
    → IsSameForm sig.params form (form_spelled sig.params form)
form-same env sig (defined ds body) legal =
    let (_, right, dummies, _, _, ((has, _), _)) = (terms_are_sorted env (record { signature = sig; form = defined ds body })).0 legal in
    let each : Each ds (λ _ b. IsDummy b) = λ i b at. (each_from_all (λ (c : Binder). IsDummy c × MayBeDummySort (sorts env) c.sort) ds dummies i b at).0 in
    bodies-same (sorts env) (signatures env) sig.params ds body right each (sig.result.sort, has)
form-same env sig _ legal = tt

decl-same : (env : List Declaration) (d : Declaration) → IsLegalDecl env d → IsSameDeclaration d (decl_spelled d)
decl-same env (term_decl d) legal = (refl, form-same env d.signature d.form legal)
decl-same env _ legal = refl

all-same : (env : List Declaration) (ss : List Statement) → LegalEnvAfter env (declarations ss) → IsSameList ss (list_spelled ss)
all-same env [] legal = tt
all-same env (s ∷ ss) (one, legal) = ((refl, decl-same env s.decl one), all-same (env ++ s.decl ∷ []) ss legal)

pub spelled-same : SpelledListsAreSame
spelled-same ss legal = all-same [] ss legal
