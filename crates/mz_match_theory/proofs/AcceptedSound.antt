-- What is accepted is sound, and its specification is proved.
use Rattle.std.proofs.Common.{◌≡◌, ℕ, false, List, [], ◌∷◌, ◌++◌, Option, Some, None, slice_get, length, subst}
use Rattle.std.specs.List.{All}
use Rattle.std.proofs.lemmas.List.Elements.{All-nil, All-cons}
use Rattle.mz_logic_theory.specs.Declaration.{Declaration, Assertion, signatures, terms, Form, plain_form, abstract_form, defined, sort_decl, term_decl, assertion_decl}
use Rattle.mz_logic_theory.specs.Signature.{Signature}
use Rattle.mz_logic_theory.specs.declared.binder.Binder.{Binder}
use Rattle.mz_logic_theory.specs.LegalLists.{Statement, Legal}
use Rattle.mz_logic_theory.proofs.Offered.{legal_list_is_closed}
use Rattle.mz_layout_tables.specs.Tables.{list_at}
use Rattle.mz_machine_theory.specs.Spells.{SpellsForm}
use Rattle.mz_machine_theory.specs.FileRows.{term_of_file}
use Rattle.mz_binary_theory.specs.Spelling.{SpellsRow}
use Rattle.mz_binary_theory.specs.Chains.{SpelledTo, Statements}
use Rattle.mz_binary_theory.proofs.Offered.{good-legal, good-spelled}
use Rattle.mz_spec_theory.specs.Spec.{SpecOf}
use Rattle.mz_spec_proved_theory.specs.Match.{publics, Agrees}
use Rattle.mz_spec_proved_theory.specs.ByItself.{IsConcreteForm, IsConcrete}
use Rattle.mz_spec_proved_theory.specs.Headline.{Proves}
use Rattle.mz_spec_proved_theory.specs.Proved.{Follows}
use Rattle.mz_match_theory.specs.Verdict.{Accepts, IsSound}
use Rattle.mz_spec_proved_theory.proofs.Offered.{agree, concrete-list, declare, formed-list, legal-list, specifies, specifies-one, theorems-proved}
use Rattle.mz_binary_theory.specs.Standards.{strict_standard}

-- ---- a row spells no abstract definition

form-concrete : (sigs : List Signature) (params : List Binder) (stream : Option (List ℕ)) (form : Form) → SpellsForm sigs params stream form → IsConcreteForm form
form-concrete sigs params None plain_form spells = tt
form-concrete sigs params None abstract_form spells = spells
form-concrete sigs params None (defined dummies body) spells = tt
form-concrete sigs params (Some stream) plain_form spells = tt
form-concrete sigs params (Some stream) abstract_form spells = spells
form-concrete sigs params (Some stream) (defined dummies body) spells = tt

row-concrete : (file : List ℕ) (env : List Declaration) (d : Declaration) → SpellsRow file env d → IsConcrete d
row-concrete file env (sort_decl m) spells = tt
row-concrete file env (term_decl t) spells =
    let row = term_of_file file (length (terms env)) in form-concrete (signatures env) row.signature.params row.stream t.form spells.1.1
row-concrete file env (assertion_decl a) spells = tt

list-concrete : (file : List ℕ) (env : List Declaration) (from : ℕ) (ss : List Statement) (after : List Declaration) (to : ℕ) → SpelledTo file env from ss after to
    → All (λ s. IsConcrete s.decl) ss
list-concrete file env from [] after to spelled = All-nil (λ s. IsConcrete s.decl)
list-concrete file env from (s ∷ ss) after to (next, here, later) =
    All-cons (λ s. IsConcrete s.decl) s ss (row-concrete file env s.decl here.row) (list-concrete file (env ++ s.decl ∷ []) next ss after to later)

statements-concrete : (bin : List ℕ) (ss : List Statement) → Statements bin ss → All (λ s. IsConcrete s.decl) ss
statements-concrete bin ss is = list-concrete bin [] (list_at bin) ss is.env is.to is.spelled

-- ---- what is accepted

pub accepted-sound : (spec bin : List ℕ) → Accepts spec bin → IsSound spec bin
accepted-sound spec bin a = record {
  declared = a.declared;
  statements = a.statements;
  is_spec = a.is_spec;
  spelled = good-spelled strict_standard bin a.statements a.is_good;
  theorems = theorems-proved a.declared a.statements (good-legal strict_standard bin a.statements a.is_good) a.agrees;
  legal = good-legal strict_standard bin a.statements a.is_good;
  closed = legal_list_is_closed a.statements (good-legal strict_standard bin a.statements a.is_good);
  agrees = a.agrees;
}

pub sound-proves : (spec bin : List ℕ) → IsSound spec bin → Proves spec
sound-proves spec bin s = record {
  declared = s.declared;
  statements = s.statements;
  is_spec = specifies spec s.declared s.is_spec;
  legal = formed-list [] s.statements s.legal (statements-concrete bin s.statements s.spelled);
  agrees = declare [] s.declared s.statements s.agrees;
}

pub accepted-proves : (spec bin : List ℕ) → Accepts spec bin → Proves spec
accepted-proves spec bin a = sound-proves spec bin (accepted-sound spec bin a)

-- each theorem of a specification that is proved follows
pub theorem-follows : (spec : List ℕ) (p : Proves spec) (i : ℕ) (a : Assertion) → slice_get p.declared i ≡ Some (assertion_decl a) → a.is_axiom ≡ false
    → Follows p.declared p.statements i a
theorem-follows spec p i a at theorem =
    (theorems-proved p.declared p.statements (legal-list [] p.statements p.legal) (agree [] p.declared p.statements p.agrees) i a at theorem).follows

-- and by the rules its list is legal, with all bodies, and agrees
pub checked-list : (spec : List ℕ) (ds : List Declaration) → SpecOf spec ds → Proves spec → (ss : List Statement) × Legal ss × All (λ s. IsConcrete s.decl) ss × Agrees ds (publics ss)
checked-list spec ds is p = (
  p.statements,
  legal-list [] p.statements p.legal,
  concrete-list [] p.statements p.legal,
  subst (λ es. Agrees es (publics p.statements)) (specifies-one spec ds p.declared is p.is_spec) (agree [] p.declared p.statements p.agrees),
)
