-- A row's stream beside expressions of the specification.
use Rattle.std.proofs.Common.{◌≡◌, ◌∙◌, ℕ, Bool, true, false, List, [], length, reverse, refl, sym, ap, subst, inl}
use Rattle.std.specs.Prelude.{IsTrue, ◌↔◌, MatchBool}
use Rattle.std.proofs.lemmas.List.{reverse-reverse}
use Rattle.std.proofs.lemmas.Bool.{true≢false, false≢true}
use Rattle.mz_logic_theory.specs.Tree.{Tree, Trees, listed}
use Rattle.mz_base.specs.Checks.{AllHold, FailsFirst}
use Rattle.mz_logic_theory.specs.Declaration.{Assertion, Term, Form, plain_form, abstract_form, defined, is_defined}
use Rattle.mz_logic_theory.specs.DeclView.{form}
use Rattle.mz_logic_theory.specs.declared.binder.Binder.{Binder}
use Rattle.mz_logic_theory.specs.declared.decl.TermForm.{TermForm}
use Rattle.mz_logic_theory.specs.declared.decl.TermForm.TheVariants.{Plain, Abstract, Body}
use Rattle.mz_layout_tables.specs.Tables.{term_row}
use Rattle.mz_spec_proved_theory.specs.declared.rule.M.TheVariants as rules
use Rattle.mz_spec_proved_theory.specs.Match.{form_checks}
use Rattle.mz_machine_theory.specs.Spells.{Marks, trees_of}
use Rattle.mz_machine_theory.proofs.Offered.{trees_of-listed}
use Rattle.mz_match_rows.specs.declared.expression.Sides.{Sides}
use Rattle.mz_spec_proved_theory.specs.AlphaTrees.{SameTrees, SameBody}
use Rattle.mz_match_rows.specs.ReportedRow.{SaysFirst, SaysForm, SaysClaims, IsTermRow}
use Rattle.mz_match_rows.specs.Marks.{AreKept}
use Rattle.mz_match_rows.specs.Beside.{IsStream, IsPlainStream}

pub first-stream : (s : Sides) (m : Marks) (f : Tree) → SaysFirst s.mmb.now s.params s.start m f → AreKept s.mmb.now s.start s.places.items → IsStream s m
first-stream s m f says kept = record { within = says.within; marks = says.marks; kept = kept }

pub claims-plain : (s : Sides) (a : Assertion) (says : SaysClaims s.mmb.now s.params s.start a) → s.dummies.now ≡ [] → AreKept s.mmb.now s.start s.places.items → IsPlainStream s says.marks
claims-plain s a says none-beside kept = record { stream = record { within = says.conclusion.within; marks = says.conclusion.marks; kept = kept }; no_dummies = says.no_dummies; none_beside = none-beside }

pub turned-twice : (rows : List ℕ) (es fs : Trees) (S : Type 0) → S ↔ SameTrees rows es (trees_of (reverse (reverse (listed fs)))) → S ↔ SameTrees rows es fs
turned-twice rows es fs S both =
    let is : trees_of (reverse (reverse (listed fs))) ≡ fs = ap trees_of (reverse-reverse (listed fs)) ∙ trees_of-listed fs in
    subst (λ (gs : Trees). S ↔ SameTrees rows es gs) is both

pub exact-no : (b : Bool) (P : Type 0) → IsTrue b ↔ P → b ≡ false → P → ⊥
exact-no b P exact is p = true≢false (sym (exact.1 p) ∙ is)

pub exact-yes : (b : Bool) (P : Type 0) → IsTrue b ↔ P → b ≡ true → P
exact-yes b P exact is = exact.0 is

-- ---- bodies

pub not-body : (f : TermForm) → ((ds : List Binder) (e : Tree) → f ≡ Body ds e → ⊥) → is_defined (form f) ≡ false
not-body Plain other = refl
not-body Abstract other = refl
not-body (Body ds e) other = absurd (other ds e refl)

-- a row with a body: its stream says it
pub body-there : (file : List ℕ) (row : ℕ) (e : Term) → IsTermRow file row e → is_defined e.form ≡ true → (n start : ℕ) → length (term_row file row).words.params ≡ n → (term_row file row).stream_at ≡ start
    → (m : Marks) × (es : List Binder) × (body : Tree) × (e.form ≡ defined es body) × SaysFirst file n start m body × (m.dummies ≡ es)
body-there file row e is has n start n-is start-is = go e.form refl has is.form
  where
    go : (f : Form) → e.form ≡ f → is_defined f ≡ true → SaysForm file (length (term_row file row).words.params) (term_row file row).stream_at f
        → (m : Marks) × (es : List Binder) × (body : Tree) × (e.form ≡ defined es body) × SaysFirst file n start m body × (m.dummies ≡ es)
    go plain_form f-is yes-is says = absurd (false≢true yes-is)
    go abstract_form f-is yes-is says = absurd (false≢true yes-is)
    go (defined es body) f-is yes-is (m, says, met) =
        (m, es, body, f-is, subst (λ (k : ℕ). SaysFirst file k start m body) n-is (subst (λ (at : ℕ). SaysFirst file (length (term_row file row).words.params) at m body) start-is says), met)

-- what the comparison of bodies says of the check
pub body-judged : (rows : List ℕ) (n : ℕ) (f g : Form) (ds es : List Binder) (b c : Tree) (k : ℕ) (r : Bool) → f ≡ defined ds b → g ≡ defined es c → k ≡ n
    → IsTrue r ↔ SameBody rows k ds es b c → MatchBool r (AllHold (form_checks rows n f g)) (FailsFirst (form_checks rows n f g) rules.Body)
body-judged rows n f g ds es b c k r f-is g-is k-is exact =
    subst (λ (f' : Form). MatchBool r (AllHold (form_checks rows n f' g)) (FailsFirst (form_checks rows n f' g) rules.Body)) (sym f-is)
    (subst (λ (g' : Form). MatchBool r (AllHold (form_checks rows n (defined ds b) g')) (FailsFirst (form_checks rows n (defined ds b) g') rules.Body)) (sym g-is)
    (subst (λ (j : ℕ). MatchBool r (AllHold (form_checks rows j (defined ds b) (defined es c))) (FailsFirst (form_checks rows j (defined ds b) (defined es c)) rules.Body)) k-is (by r exact)))
  where
    by : (z : Bool) → IsTrue z ↔ SameBody rows k ds es b c → MatchBool z (AllHold (form_checks rows k (defined ds b) (defined es c))) (FailsFirst (form_checks rows k (defined ds b) (defined es c)) rules.Body)
    by true e = (e.0 refl, tt)
    by false e = inl ((λ same. false≢true (e.1 same)), refl)

pub exact-for : (rows : List ℕ) (n : ℕ) (ds es es' : List Binder) (b c : Tree) (r : Bool) → es ≡ es' → IsTrue r ↔ SameBody rows n ds es b c → IsTrue r ↔ SameBody rows n ds es' b c
exact-for rows n ds es es' b c r is exact = subst (λ (xs : List Binder). IsTrue r ↔ SameBody rows n ds xs b c) is exact
