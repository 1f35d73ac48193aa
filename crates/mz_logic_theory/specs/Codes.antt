-- How declarations are stored.
use Rattle.std.specs.Prelude.{ℕ, Bool, true, false, List, ◌≡◌, ◌⊎◌, refl}
use Rattle.std.specs.Coded.{Coded, code_by, coded×, coded⊎, coded_ℕ, coded_bool, coded_list}
use Rattle.std.proofs.Common.{inl, inr}
use Rattle.mz_logic_theory.specs.Tree.{Tree, Trees, none, more, operand}
use Rattle.mz_logic_theory.specs.TreeCode.{trees_code}
use Rattle.mz_logic_theory.specs.Signature.{Signature}
use Rattle.mz_logic_theory.specs.Declaration.{Form, plain_form, abstract_form, defined, Term, Assertion, Declaration, sort_decl, term_decl, assertion_decl}
use Rattle.mz_logic_theory.specs.declared.binder.Binder.{Binder}
use Rattle.mz_logic_theory.specs.declared.binder.ResultType.{ResultType}
use Rattle.mz_logic_theory.specs.declared.binder.SortMods.{SortMods}

abbrev pub tree_code : Coded Tree
tree_code = code_by Trees trees_code (λ e. more e none) (λ es. operand es 0) (λ _. refl)

abbrev pub binder_code : Coded Binder
binder_code = code_by (ℕ × (Bool × List ℕ)) (coded× coded_ℕ (coded× coded_bool (coded_list coded_ℕ))) (λ b. (b.sort, (b.bound, b.deps))) (λ p. record { sort = p.0; bound = p.1.0; deps = p.1.1 }) (λ _. refl)

abbrev pub result_code : Coded ResultType
result_code = code_by (ℕ × List ℕ) (coded× coded_ℕ (coded_list coded_ℕ)) (λ r. (r.sort, r.deps)) (λ p. record { sort = p.0; deps = p.1 }) (λ _. refl)

abbrev pub signature_code : Coded Signature
signature_code = code_by (List Binder × ResultType) (coded× (coded_list binder_code) result_code) (λ s. (s.params, s.result)) (λ p. record { params = p.0; result = p.1 }) (λ _. refl)

abbrev pub form_to : Form → Bool ⊎ (List Binder × Tree)
form_to plain_form = inl false
form_to abstract_form = inl true
form_to (defined dummies body) = inr (dummies, body)

abbrev pub form_from : Bool ⊎ (List Binder × Tree) → Form
form_from (inl false) = plain_form
form_from (inl true) = abstract_form
form_from (inr p) = defined p.0 p.1

pub form_back : (f : Form) → form_from (form_to f) ≡ f
form_back plain_form = refl
form_back abstract_form = refl
form_back (defined dummies body) = refl

abbrev pub form_code : Coded Form
form_code = code_by (Bool ⊎ (List Binder × Tree)) (coded⊎ coded_bool (coded× (coded_list binder_code) tree_code)) form_to form_from form_back

abbrev pub term_code : Coded Term
term_code = code_by (Signature × Form) (coded× signature_code form_code) (λ d. (d.signature, d.form)) (λ p. record { signature = p.0; form = p.1 }) (λ _. refl)

abbrev pub assertion_code : Coded Assertion
assertion_code = code_by ((Bool × List Binder) × (Trees × Tree)) (coded× (coded× coded_bool (coded_list binder_code)) (coded× trees_code tree_code))
    (λ a. ((a.is_axiom, a.params), (a.hyps, a.conclusion))) (λ p. record { is_axiom = p.0.0; params = p.0.1; hyps = p.1.0; conclusion = p.1.1 }) (λ _. refl)

abbrev pub mods_code : Coded SortMods
mods_code = code_by ℕ coded_ℕ (λ m. m.0) (λ n. record { 0 = n }) (λ _. refl)

abbrev pub declaration_to : Declaration → SortMods ⊎ (Term ⊎ Assertion)
declaration_to (sort_decl m) = inl m
declaration_to (term_decl d) = inr (inl d)
declaration_to (assertion_decl a) = inr (inr a)

abbrev pub declaration_from : SortMods ⊎ (Term ⊎ Assertion) → Declaration
declaration_from (inl m) = sort_decl m
declaration_from (inr (inl d)) = term_decl d
declaration_from (inr (inr a)) = assertion_decl a

pub declaration_back : (d : Declaration) → declaration_from (declaration_to d) ≡ d
declaration_back (sort_decl m) = refl
declaration_back (term_decl d) = refl
declaration_back (assertion_decl a) = refl

abbrev pub declaration_code : Coded Declaration
declaration_code = code_by (SortMods ⊎ (Term ⊎ Assertion)) (coded⊎ mods_code (coded⊎ term_code assertion_code)) declaration_to declaration_from declaration_back
