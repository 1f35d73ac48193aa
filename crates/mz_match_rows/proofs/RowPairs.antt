-- A statement that is reported beside its declaration.
use Rattle.std.proofs.Common.{◌≡◌, ◌<◌, ◌∙◌, ℕ, Bool, true, false, List, [], ◌∷◌, length, Ok, Err, refl, sym, ap, subst, inl, inr, arith, Result}
use Rattle.std.specs.Prelude.{if◌then◌else◌, OnErr}
use Rattle.std.proofs.lemmas.Bool.{true≢false, false≢true}
use Rattle.mz_base.specs.Checks.{Checks, AllHold, FailsFirst, Judges, demand, ◌>>◌}
use Rattle.mz_base.proofs.Offered.{judges-after, fails-before}
use Rattle.mz_cmd.specs.Codes.{statement_byte}
use Rattle.mz_cmd.specs.declared.code.StatementCode.TheVariants as codes
use Rattle.mz_logic_theory.specs.Signature.{Signature}
use Rattle.mz_logic_theory.specs.declared.binder.SortMods.{SortMods}
use Rattle.mz_logic_theory.specs.Declaration.{Declaration, sort_decl, term_decl, assertion_decl, Term, Assertion, Form, plain_form, abstract_form, defined, is_defined}
use Rattle.mz_logic_theory.specs.Words.{signature_of}
use Rattle.mz_logic_theory.proofs.Offered.{length-binders}
use Rattle.mz_layout_tables.specs.Tables.{sort_count, mods_of, term_row}
use Rattle.mz_binary_theory.specs.declared.statement.Statement.{Statement as Reported}
use Rattle.mz_spec_proved_theory.specs.declared.kind.Kind.{Kind}
use Rattle.mz_spec_proved_theory.specs.declared.kind.Kind.TheVariants as kinds
use Rattle.mz_spec_proved_theory.specs.declared.rule.M.{M}
use Rattle.mz_spec_proved_theory.specs.declared.rule.M.TheVariants as rules
use Rattle.mz_spec_proved_theory.specs.Match.{Partner, kind_of_form, is_plain, match_checks, partner_checks, signature_checks, form_checks, assertion_checks}
use Rattle.mz_match_rows.specs.ReportedRow.{SaysForm, IsTermRow, IsThmRow, IsRowOf, assertion_code}

-- the declaration at hand is the partner's
pub judges-partner : {A : Type 0} → (ds rest : List Declaration) (d : Declaration) (p : Partner) (r : Result A M) → ds ≡ d ∷ rest → Judges r (match_checks d p) → Judges r (partner_checks ds p)
judges-partner ds rest d p r here judges = subst (λ xs. Judges r (partner_checks xs p)) (sym here) judges

-- ---- kinds

form-kind : (f : Form) → kind_of_form f ≡ kinds.Sort → ⊥
form-kind plain_form e = absurd cc
form-kind abstract_form e = absurd cc
form-kind (defined dummies body) e = absurd cc

assertion-sort : (b : Bool) → (if b then kinds.Axiom else kinds.Theorem) ≡ kinds.Sort → ⊥
assertion-sort true e = cc
assertion-sort false e = cc

assertion-term : (b : Bool) (f : Form) → (if b then kinds.Axiom else kinds.Theorem) ≡ kind_of_form f → ⊥
assertion-term true plain_form e = cc
assertion-term true abstract_form e = cc
assertion-term true (defined ds body) e = cc
assertion-term false plain_form e = cc
assertion-term false abstract_form e = cc
assertion-term false (defined ds body) e = cc

abbrev code : Bool → ℕ
code b = statement_byte (assertion_code b)

code-term : (b : Bool) → code b ≡ statement_byte codes.Term → ⊥
code-term true e = absurd (omega arith)
code-term false e = absurd (omega arith)

code-sort : (b : Bool) → code b ≡ statement_byte codes.Sort → ⊥
code-sort true e = absurd (omega arith)
code-sort false e = absurd (omega arith)

abbrev pub assertion_kind : Bool → Kind
assertion_kind b = if b then kinds.Axiom else kinds.Theorem

code-kind : (b c : Bool) → (code b ≡ code c → ⊥) → assertion_kind b ≡ assertion_kind c → ⊥
code-kind true true other e = other refl
code-kind true false other e = absurd cc
code-kind false true other e = absurd cc
code-kind false false other e = other refl

code-same : (b c : Bool) → code b ≡ code c → assertion_kind b ≡ assertion_kind c
code-same true true e = refl
code-same true false e = absurd (omega arith)
code-same false true e = absurd (omega arith)
code-same false false e = refl

-- ---- a sort

module _ (rows bin : List ℕ) (told : Reported) (mods : SortMods) where
  abbrev partner : Declaration → Partner
  partner p = record { rows = rows; decl = p }

  pub sort-kind-differs : (p : Declaration) → IsRowOf bin told p → (told.kind ≡ statement_byte codes.Sort → ⊥) → FailsFirst (match_checks (sort_decl mods) (partner p)) rules.Kind
  sort-kind-differs (sort_decl m) row other = absurd (other row.0)
  sort-kind-differs (term_decl d) row other = inl (λ e. form-kind d.form (sym e), refl)
  sort-kind-differs (assertion_decl a) row other = inl (λ e. assertion-sort a.is_axiom (sym e), refl)

  pub sort-mods-differ : (p : Declaration) → IsRowOf bin told p → told.kind ≡ statement_byte codes.Sort → (mods ≡ mods_of bin told.row → ⊥) → FailsFirst (match_checks (sort_decl mods) (partner p)) rules.Modifiers
  sort-mods-differ (sort_decl m) row kind differ = inr (refl, inl (λ e. differ (e ∙ row.2), refl))
  sort-mods-differ (term_decl d) row kind differ = absurd (omega (arith, kind, row.0))
  sort-mods-differ (assertion_decl a) row kind differ = absurd (code-sort a.is_axiom (sym row.0 ∙ kind))

  pub sort-same : (p : Declaration) → IsRowOf bin told p → told.kind ≡ statement_byte codes.Sort → mods ≡ mods_of bin told.row → AllHold (match_checks (sort_decl mods) (partner p))
  sort-same (sort_decl m) row kind same = (refl, (same ∙ sym row.2, tt))
  sort-same (term_decl d) row kind same = absurd (omega (arith, kind, row.0))
  sort-same (assertion_decl a) row kind same = absurd (code-sort a.is_axiom (sym row.0 ∙ kind))

pub sort-row : (bin : List ℕ) (told : Reported) (p : Declaration) → IsRowOf bin told p → told.kind ≡ statement_byte codes.Sort → told.row < sort_count bin
sort-row bin told (sort_decl m) row kind = row.1
sort-row bin told (term_decl d) row kind = absurd (omega (arith, kind, row.0))
sort-row bin told (assertion_decl a) row kind = absurd (code-sort a.is_axiom (sym row.0 ∙ kind))

-- ---- a term

closed-kind : (f g : Form) (file : List ℕ) (n start : ℕ) → SaysForm file n start g → is_plain f ≡ is_defined g → kind_of_form f ≡ kind_of_form g → ⊥
closed-kind plain_form plain_form file n start says e k = absurd cc
closed-kind plain_form abstract_form file n start says e k = absurd says
closed-kind plain_form (defined es c) file n start says e k = absurd cc
closed-kind abstract_form plain_form file n start says e k = absurd cc
closed-kind abstract_form abstract_form file n start says e k = absurd says
closed-kind abstract_form (defined es c) file n start says e k = absurd cc
closed-kind (defined ds b) plain_form file n start says e k = absurd cc
closed-kind (defined ds b) abstract_form file n start says e k = absurd says
closed-kind (defined ds b) (defined es c) file n start says e k = absurd cc

same-kind : (f g : Form) (file : List ℕ) (n start : ℕ) → SaysForm file n start g → (is_plain f ≡ is_defined g → ⊥) → kind_of_form f ≡ kind_of_form g
same-kind plain_form plain_form file n start says e = refl
same-kind plain_form abstract_form file n start says e = absurd says
same-kind plain_form (defined es c) file n start says e = absurd (e refl)
same-kind abstract_form plain_form file n start says e = absurd (e refl)
same-kind abstract_form abstract_form file n start says e = absurd says
same-kind abstract_form (defined es c) file n start says e = refl
same-kind (defined ds b) plain_form file n start says e = absurd (e refl)
same-kind (defined ds b) abstract_form file n start says e = absurd says
same-kind (defined ds b) (defined es c) file n start says e = refl

-- no body is asked for where the specification gives none
pub form-open : {A : Type 0} → (rows : List ℕ) (n : ℕ) (f g : Form) (r : Result A M) → is_defined f ≡ false → OnErr r ⊥ → Judges r (form_checks rows n f g)
form-open rows n plain_form g (Ok x) is none = tt
form-open rows n abstract_form g (Ok x) is none = tt
form-open rows n (defined ds b) g (Ok x) is none = absurd (true≢false is)
form-open rows n f g (Err e) is none = absurd none

module _ (rows bin : List ℕ) (told : Reported) (d : Term) where
  pub term-kind-differs : (p : Declaration) → IsRowOf bin told p → (told.kind ≡ statement_byte codes.Term → ⊥) → FailsFirst (match_checks (term_decl d) (record { rows = rows; decl = p })) rules.Kind
  term-kind-differs (sort_decl m) row other = inl (λ e. form-kind d.form e, refl)
  term-kind-differs (term_decl e) row other = absurd (other row.0)
  term-kind-differs (assertion_decl a) row other = inl (λ e. assertion-term a.is_axiom d.form (sym e), refl)

  pub term-form-differs : (p : Declaration) → IsRowOf bin told p → told.kind ≡ statement_byte codes.Term → is_plain d.form ≡ (term_row bin told.row).words.has_body → FailsFirst (match_checks (term_decl d) (record { rows = rows; decl = p })) rules.Kind
  term-form-differs (sort_decl m) row kind same = absurd (omega (arith, kind, row.0))
  term-form-differs (term_decl e) row kind same = inl (λ k. closed-kind d.form e.form bin _ _ row.1.form (same ∙ row.1.has_body) k, refl)
  term-form-differs (assertion_decl a) row kind same = absurd (code-term a.is_axiom (sym row.0 ∙ kind))

  -- the kinds are the same: what else is asked decides
  pub term-judged : {A : Type 0} → (e : Term) (r : Result A M) → IsTermRow bin told.row e → (is_plain d.form ≡ (term_row bin told.row).words.has_body → ⊥)
      → Judges r (signature_checks d.signature e.signature >> form_checks rows (length d.signature.params) d.form e.form) → Judges r (match_checks (term_decl d) (record { rows = rows; decl = term_decl e }))
  term-judged e r row other judges =
      judges-after (demand rules.Kind (kind_of_form d.form ≡ kind_of_form e.form)) _ r (same-kind d.form e.form bin _ _ row.form (λ same. other (same ∙ sym row.has_body)), tt) judges

pub term-row : (bin : List ℕ) (told : Reported) (p : Declaration) → IsRowOf bin told p → told.kind ≡ statement_byte codes.Term → (e : Term) × (p ≡ term_decl e) × IsTermRow bin told.row e
term-row bin told (sort_decl m) row kind = absurd (omega (arith, kind, row.0))
term-row bin told (term_decl e) row kind = (e, refl, row.1)
term-row bin told (assertion_decl a) row kind = absurd (code-term a.is_axiom (sym row.0 ∙ kind))

-- the signature that fails first
pub signature-fails : (d s : Signature) (rest : Checks M) (r : M) → FailsFirst (signature_checks d s) r → FailsFirst (signature_checks d s >> rest) r
signature-fails d s rest r fails = fails-before (signature_checks d s) rest r fails

-- ---- an axiom or a theorem

pub assertion-kind-differs : (rows bin : List ℕ) (told : Reported) (a : Assertion) (p : Declaration) → IsRowOf bin told p → (told.kind ≡ code a.is_axiom → ⊥)
    → FailsFirst (match_checks (assertion_decl a) (record { rows = rows; decl = p })) rules.Kind
assertion-kind-differs rows bin told a (sort_decl m) row other = inl (λ e. assertion-sort a.is_axiom e, refl)
assertion-kind-differs rows bin told a (term_decl d) row other = inl (λ e. assertion-term a.is_axiom d.form e, refl)
assertion-kind-differs rows bin told a (assertion_decl b) row other = inl (λ e. code-kind a.is_axiom b.is_axiom (λ same. other (row.0 ∙ sym same)) e, refl)

pub assertion-judged : {A : Type 0} → (rows bin : List ℕ) (told : Reported) (a b : Assertion) (r : Result A M) → told.kind ≡ code b.is_axiom → told.kind ≡ code a.is_axiom
    → Judges r (assertion_checks rows a b) → Judges r (match_checks (assertion_decl a) (record { rows = rows; decl = assertion_decl b }))
assertion-judged rows bin told a b r kind same judges = judges-after (demand rules.Kind (assertion_kind a.is_axiom ≡ assertion_kind b.is_axiom)) _ r (code-same a.is_axiom b.is_axiom (sym same ∙ kind), tt) judges

pub thm-row : (bin : List ℕ) (told : Reported) (is_axiom : Bool) (p : Declaration) → IsRowOf bin told p → told.kind ≡ code is_axiom → (b : Assertion) × (p ≡ assertion_decl b) × IsThmRow bin told.row b
thm-row bin told is_axiom (sort_decl m) row kind = absurd (code-sort is_axiom (sym kind ∙ row.0))
thm-row bin told is_axiom (term_decl e) row kind = absurd (code-term is_axiom (sym kind ∙ row.0))
thm-row bin told is_axiom (assertion_decl b) row kind = (b, refl, row.1)

-- ---- forms

pub judged-forms : {A : Type 0} → (rows : List ℕ) (n : ℕ) (f g : Form) (r : Result A M) → (is_defined f ≡ true → Judges r (form_checks rows n f g)) → (is_defined f ≡ false → OnErr r ⊥) → Judges r (form_checks rows n f g)
judged-forms rows n f g r given open_one = go (is_defined f) refl
  where
    go : (b : Bool) → is_defined f ≡ b → Judges r (form_checks rows n f g)
    go true is = given is
    go false is = form-open rows n f g r is (open_one is)

pub both-defined : (f : Form) (has : Bool) → (is_plain f ≡ has → ⊥) → is_defined f ≡ true → has ≡ true
both-defined plain_form has other is = absurd (false≢true is)
both-defined abstract_form has other is = absurd (false≢true is)
both-defined (defined ds b) true other is = refl
both-defined (defined ds b) false other is = absurd (other refl)

-- all of a term's checks, where the signature is the row's
pub term-whole : {A : Type 0} → (rows bin : List ℕ) (told : Reported) (d e : Term) (r : Result A M) → IsTermRow bin told.row e → (is_plain d.form ≡ (term_row bin told.row).words.has_body → ⊥)
    → AllHold (signature_checks d.signature (signature_of (term_row bin told.row).words))
    → (is_defined d.form ≡ true → is_defined e.form ≡ true → Judges r (form_checks rows (length (term_row bin told.row).words.params) d.form e.form))
    → (is_defined d.form ≡ false → OnErr r ⊥) → Judges r (match_checks (term_decl d) (record { rows = rows; decl = term_decl e }))
term-whole rows bin told d e r row other signed given open_one =
    let has = both-defined d.form (term_row bin told.row).words.has_body other in
    let many : length (term_row bin told.row).words.params ≡ length d.signature.params = sym (ap length signed.0 ∙ length-binders 0 [] (term_row bin told.row).words.params) in
    term-judged rows bin told d e r row other (judges-after (signature_checks d.signature e.signature) (form_checks rows (length d.signature.params) d.form e.form) r
    (subst (λ (s : Signature). AllHold (signature_checks d.signature s)) (sym row.signature) signed)
    (judged-forms rows (length d.signature.params) d.form e.form r
    (λ is. subst (λ (n : ℕ). Judges r (form_checks rows n d.form e.form)) many (given is (sym row.has_body ∙ has is))) open_one))
