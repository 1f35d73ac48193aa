-- Tables: what each statement keeps of them.
use Rattle.std.proofs.Common.{◌≡◌, ◌≢◌, ◌⊎◌, ◌++◌, ◌∙◌, ℕ, zero, suc, List, [], ◌∷◌, length, Bool, true, false, Some, None, Option, slice_get, ap, ap₂, sym, refl, subst, inl, inr, arith, Contains, Result, Ok, Err}
use Rattle.std.specs.Prelude.{codes, IsTrue, MatchBool, slice_range, ◌+◌, IsErrAnd, OnOk, OnErr, if◌then◌else◌}
use Rattle.std.proofs.lemmas.Option.{same_Some, none-some}
use Rattle.std.proofs.lemmas.List.Elements.{Contains-push_cases}
use Rattle.mz_base.proofs.Offered.{contains_none, same-head, slice_get-push_cases, contains_at}
use Rattle.mz_base.specs.Identifiers.{is_name}
use Rattle.mz_logic_theory.specs.Signature.{Signature}
use Rattle.mz_lex.specs.MathTokens.{token_text, no_delimiters, AreDelimiters, IsConstant}
use Rattle.mz_lex.specs.declared.tokens.Delimiters.{Delimiters}
use Rattle.mz_math_theory.specs.Notation.{level_of, Element, fixed, slot, slots, Notation, TermName, Coercion, Table, empty_table, begins_with_slot, with_delimiters, with_leading, with_infix, with_notation, with_name, with_coercion, infixed, prefixed}
use Rattle.mz_math_theory.specs.Clear.{HasConstant, LedBy, JoinedBy, IsClear}
use Rattle.mz_math_theory.specs.Coercions.{OnePath}
use Rattle.mz_math_theory.specs.Kept.{AreDistinct, IsTable, AreVariables}
use Rattle.mz_math_theory.specs.Forms.{IsInfix, IsPrefix, IsElement, AreElements, IsGeneral, General, Begins, Literal, constant, name, Tail, NoteFault, notation_checks, delimiter_checks, IsAnswer, AddsNotation}
use Rattle.mz_math_theory.specs.declared.fault.NoteFault.TheVariants as faults
use Rattle.mz_math_theory.specs.NotationAnswers.{IsShaped, IsAdded, IsMade, IsClearTable}
use Rattle.mz_math_theory.proofs.Constants.{fixed-same}
use Rattle.mz_math_theory.proofs.Clearing.{constant-either}
use Rattle.mz_lex.proofs.Offered.{math_tokens-one}

-- ---- the empty table

pub empty-is : IsTable empty_table
empty-is = record {
  clear = record {
    groups = λ k l in_k in_l e. absurd (contains_none _ in_k);
    levels = λ w q p first second. elim first [ inl h ↦ absurd (contains_none _ h.1) | inr h ↦ absurd (contains_none _ h.1) ];
    led = λ i j k l w at there by_k by_l. absurd (none-some _ at);
    joined = λ i j k l w at there by_k by_l. absurd (none-some _ at);
    not_max = λ k in_k. absurd (contains_none _ in_k);
  };
  led = λ k in_k. absurd (contains_none _ in_k);
  joined = λ k in_k. absurd (contains_none _ in_k);
  no_parentheses = λ w q has. elim has [ inl h ↦ absurd (contains_none _ h.1) | inr h ↦ absurd (contains_none _ h.1) ];
  one_term_each = λ a b in_a in_b e. absurd (contains_none _ in_a);
  identifiers = λ a in_a. absurd (contains_none _ in_a);
  one_path = alone;
}
  where
    alone : OnePath []
    alone s to [] [] on other = refl
    alone s to [] (q ∷ path) on (c, at, begins, rest) = absurd (none-some _ at)
    alone s to (p ∷ path) other (c, at, begins, rest) on = absurd (none-some _ at)

-- ---- one more notation

module _ (t : Table) (k : Notation) (is : IsTable t) (no_paren : (w : List ℕ) (q : ℕ) → Contains k.elements (fixed w q) → (w ≢ codes "(") × (w ≢ codes ")")) where
  pub leading-is : IsClearTable (with_leading t k) → (w : List ℕ) × LedBy k w → IsTable (with_leading t k)
  leading-is clear led = record {
    clear = clear;
    led = λ l in_l. elim (Contains-push_cases t.leading k l in_l) [ inl there ↦ is.led l there | inr same ↦ subst (λ n. (w : List ℕ) × LedBy n w) same led ];
    joined = is.joined;
    no_parentheses = λ w q has. go w q has;
    one_term_each = is.one_term_each;
    identifiers = is.identifiers;
    one_path = is.one_path;
  }
    where
      go : (w : List ℕ) (q : ℕ) → HasConstant (t.leading ++ k ∷ []) w q ⊎ HasConstant t.infixes w q → (w ≢ codes "(") × (w ≢ codes ")")
      go w q (inl has) = elim (constant-either t.leading k w q has) [ inl there ↦ is.no_parentheses w q (inl there) | inr own ↦ no_paren w q own ]
      go w q (inr has) = is.no_parentheses w q (inr has)

  pub infix-is : IsClearTable (with_infix t k) → (w : List ℕ) × JoinedBy k w → IsTable (with_infix t k)
  infix-is clear joined = record {
    clear = clear;
    led = is.led;
    joined = λ l in_l. elim (Contains-push_cases t.infixes k l in_l) [ inl there ↦ is.joined l there | inr same ↦ subst (λ n. (w : List ℕ) × JoinedBy n w) same joined ];
    no_parentheses = λ w q has. go w q has;
    one_term_each = is.one_term_each;
    identifiers = is.identifiers;
    one_path = is.one_path;
  }
    where
      go : (w : List ℕ) (q : ℕ) → HasConstant t.leading w q ⊎ HasConstant (t.infixes ++ k ∷ []) w q → (w ≢ codes "(") × (w ≢ codes ")")
      go w q (inl has) = is.no_parentheses w q (inl has)
      go w q (inr has) = elim (constant-either t.infixes k w q has) [ inl there ↦ is.no_parentheses w q (inr there) | inr own ↦ no_paren w q own ]

pub name-is : (t : Table) (n : TermName) → IsTable t → IsTrue (is_name n.name) → ((m : TermName) → Contains t.names m → m.name ≡ n.name → ⊥) → IsTable (with_name t n)
name-is t n is ident other = record {
  clear = is.clear;
  led = is.led;
  joined = is.joined;
  no_parentheses = is.no_parentheses;
  one_term_each = λ a b in_a in_b e. go a b (Contains-push_cases t.names n a in_a) (Contains-push_cases t.names n b in_b) e;
  identifiers = λ a in_a. elim (Contains-push_cases t.names n a in_a) [ inl there ↦ is.identifiers a there | inr same ↦ subst (λ m. IsTrue (is_name m.name)) same ident ];
  one_path = is.one_path;
}
  where
    go : (a b : TermName) → Contains t.names a ⊎ (n ≡ a) → Contains t.names b ⊎ (n ≡ b) → a.name ≡ b.name → a.term ≡ b.term
    go a b (inl x) (inl y) e = is.one_term_each a b x y e
    go a b (inl x) (inr y) e = absurd (other a x (e ∙ ap (λ m. m.name) (sym y)))
    go a b (inr x) (inl y) e = absurd (other b y (sym e ∙ ap (λ m. m.name) (sym x)))
    go a b (inr x) (inr y) e = ap (λ m. m.term) (sym x ∙ y)

pub coercion-is : (t : Table) (c : Coercion) → IsTable t → OnePath (t.coercions ++ c ∷ []) → IsTable (with_coercion t c)
coercion-is t c is one = record { clear = is.clear; led = is.led; joined = is.joined; no_parentheses = is.no_parentheses; one_term_each = is.one_term_each; identifiers = is.identifiers; one_path = one }

pub delimiters-is : (t : Table) (d : Delimiters) → IsTable t → IsTable (with_delimiters t d)
delimiters-is t d is = record { clear = is.clear; led = is.led; joined = is.joined; no_parentheses = is.no_parentheses; one_term_each = is.one_term_each; identifiers = is.identifiers; one_path = is.one_path }

-- ---- a statement makes one notation at most

pub constant-one : (d : Delimiters) (text v w : List ℕ) → IsConstant d text v → IsConstant d text w → v ≡ w
constant-one d text v w (p, all, is, o, c) (q, all_q, is_q, o', c') = is ∙ ap (token_text text) (same-head (math_tokens-one d text 0 (p ∷ []) (q ∷ []) all all_q)) ∙ sym is_q

pub infix-one : (sigs : List Signature) (d : Delimiters) (term : ℕ) (text : List ℕ) (level : Option ℕ) (right : Bool) (k l : Notation) → IsInfix sigs d term text level right k → IsInfix sigs d term text level right l → k ≡ l
infix-one sigs d term text level right k l (w, s, con, at, many, is) (v, r, con_v, at_r, many_r, is_l) =
    is ∙ ap (λ x. infixed term x (level_of level) right) (constant-one d text w v con con_v) ∙ sym is_l

pub prefix-one : (sigs : List Signature) (d : Delimiters) (term : ℕ) (text : List ℕ) (level : Option ℕ) (k l : Notation) → IsPrefix sigs d term text level k → IsPrefix sigs d term text level l → k ≡ l
prefix-one sigs d term text level k l (w, s, con, at, is) (v, r, con_v, at_r, is_l) =
    let same : s ≡ r = same_Some _ _ (sym at ∙ at_r) in
    is ∙ ap₂ (λ x y. prefixed term (length y.params) x (level_of level)) (constant-one d text w v con con_v) same ∙ sym is_l

pub element-one : (d : Delimiters) (names : List (List ℕ)) → AreDistinct names → (text : List ℕ) (l : Literal) (e f : Element) → IsElement d names text l e → IsElement d names text l f → e ≡ f
element-one d names distinct text (constant from to level) e f (w, span, con, is) (v, span', con_v, is_f) = is ∙ ap (λ x. fixed x (level_of level)) (constant-one d (slice_range text from to) w v con con_v) ∙ sym is_f
element-one d names distinct text (name from to) e f (i, span, some, at, is) (j, span', some', at_j, is_f) = is ∙ ap slot (distinct i j (slice_range text from to) some at at_j) ∙ sym is_f

pub elements-one : (d : Delimiters) (names : List (List ℕ)) → AreDistinct names → (text : List ℕ) (ls : List Literal) (es fs : List Element) → AreElements d names text ls es → AreElements d names text ls fs → es ≡ fs
elements-one d names distinct text [] [] [] a b = refl
elements-one d names distinct text [] [] (f ∷ fs) a b = absurd b
elements-one d names distinct text [] (e ∷ es) fs a b = absurd a
elements-one d names distinct text (l ∷ ls) [] fs a b = absurd a
elements-one d names distinct text (l ∷ ls) (e ∷ es) [] a b = absurd b
elements-one d names distinct text (l ∷ ls) (e ∷ es) (f ∷ fs) (a, as_) (b, bs) = ap₂ ◌∷◌ (element-one d names distinct text l e f a b) (elements-one d names distinct text ls es fs as_ bs)

pub begins-one : (es : List Element) (tail : Option Tail) (q p : ℕ) (r s : Bool) → Begins es tail q r → Begins es tail p s → (q ≡ p) × (r ≡ s)
begins-one [] tail q p r s a b = absurd a
begins-one (fixed w l ∷ es) None q p r s a b = (a.0 ∙ sym b.0, a.1 ∙ sym b.1)
begins-one (fixed w l ∷ es) (Some tail) q p r s a b = absurd a
begins-one (slot i ∷ []) tail q p r s a b = absurd a
begins-one (slot i ∷ slot j ∷ es) tail q p r s a b = absurd a
begins-one (slot i ∷ fixed w l ∷ es) None q p r s a b = absurd a
begins-one (slot i ∷ fixed w l ∷ es) (Some tail) q p r s a b = (a.1 ∙ sym b.1, a.2 ∙ sym b.2)

pub general-one : (sigs : List Signature) (d : Delimiters) (g : General) → AreDistinct g.names → (k l : Notation) → IsGeneral sigs d g k → IsGeneral sigs d g l → k ≡ l
general-one sigs d g distinct k l is other =
    let es : k.elements ≡ l.elements = elements-one d g.names distinct g.text g.literals k.elements l.elements is.elements other.elements in
    let heads = begins-one l.elements g.tail k.level l.level k.is_right l.is_right (subst (λ x. Begins x g.tail k.level k.is_right) es is.begins) other.begins in
    same k l (is.term ∙ sym other.term) heads.0 heads.1 es
  where
    same : (m n : Notation) → m.term ≡ n.term → m.level ≡ n.level → m.is_right ≡ n.is_right → m.elements ≡ n.elements → m ≡ n
    same m n a b c e = ap₂ (λ x y. record m { term = x; level = y }) a b ∙ ap₂ (λ x y. record m { term = n.term; level = n.level; is_right = x; elements = y }) c e

-- ---- its shape

pub infix-shaped : (sigs : List Signature) (d : Delimiters) (term : ℕ) (text : List ℕ) (level : Option ℕ) (right : Bool) (k : Notation) → IsInfix sigs d term text level right k → IsShaped k
infix-shaped sigs d term text level right k (w, s, (p, all, is_w, no_open, no_close), at, many, is) = subst IsShaped (sym is) ((w, (0, slot 1 ∷ [], refl)), go)
  where
    go : (v : List ℕ) (q : ℕ) → Contains (slot 0 ∷ fixed w (level_of level) ∷ slot 1 ∷ []) (fixed v q) → (v ≢ codes "(") × (v ≢ codes ")")
    go v q (zero, below, e) = absurd (slot-fixed e)
      where
        slot-fixed : {i r : ℕ} {u : List ℕ} → slot i ≡ fixed u r → ⊥
        slot-fixed f = cc
    go v q (suc zero, below, e) = let same = (fixed-same e).0 in (λ o. no_open (same ∙ o), λ o. no_close (same ∙ o))
    go v q (suc (suc zero), below, e) = absurd (slot-fixed e)
      where
        slot-fixed : {i r : ℕ} {u : List ℕ} → slot i ≡ fixed u r → ⊥
        slot-fixed f = cc
    go v q (suc (suc (suc n)), below, e) = absurd (omega (arith, below))

slot-fixed : {i q : ℕ} {w : List ℕ} → slot i ≡ fixed w q → ⊥
slot-fixed e = cc

slots-free : (from n : ℕ) (w : List ℕ) (q : ℕ) → Contains (slots from n) (fixed w q) → ⊥
slots-free from zero w q has = contains_none _ has
slots-free from (suc n) w q (zero, below, e) = slot-fixed e
slots-free from (suc n) w q (suc k, below, e) = slots-free (from + 1) n w q (k, omega (arith, below), e)

pub prefix-shaped : (sigs : List Signature) (d : Delimiters) (term : ℕ) (text : List ℕ) (level : Option ℕ) (k : Notation) → IsPrefix sigs d term text level k → IsShaped k
prefix-shaped sigs d term text level k (w, s, (p, all, is_w, no_open, no_close), at, is) = subst IsShaped (sym is) ((w, (slots 0 (length s.params), refl)), go)
  where
    go : (v : List ℕ) (q : ℕ) → Contains (fixed w (level_of level) ∷ slots 0 (length s.params)) (fixed v q) → (v ≢ codes "(") × (v ≢ codes ")")
    go v q (zero, below, e) = let same = (fixed-same e).0 in (λ o. no_open (same ∙ o), λ o. no_close (same ∙ o))
    go v q (suc n, below, e) = absurd (slots-free 0 (length s.params) v q (n, omega (arith, below), e))

elements-plain : (d : Delimiters) (names : List (List ℕ)) (text : List ℕ) (ls : List Literal) (es : List Element) → AreElements d names text ls es
    → (v : List ℕ) (q : ℕ) → Contains es (fixed v q) → (v ≢ codes "(") × (v ≢ codes ")")
elements-plain d names text [] [] are v q has = absurd (contains_none _ has)
elements-plain d names text [] (e ∷ es) are v q has = absurd are
elements-plain d names text (l ∷ ls) [] are v q has = absurd are
elements-plain d names text (l ∷ ls) (e ∷ es) (here, rest) v q (suc n, below, is) = elements-plain d names text ls es rest v q (n, omega (arith, below), is)
elements-plain d names text (l ∷ ls) (e ∷ es) (here, rest) v q (zero, below, is) = first l here
  where
    first : (m : Literal) → IsElement d names text m e → (v ≢ codes "(") × (v ≢ codes ")")
    first (constant from to level) (w, span, (p, all, is_w, no_open, no_close), e_is) =
        let same = (fixed-same (sym e_is ∙ is)).0 in (λ o. no_open (same ∙ o), λ o. no_close (same ∙ o))
    first (name from to) (i, span, some, at, e_is) = absurd (slot-fixed (sym e_is ∙ is))

begins-shaped : (k : Notation) (es : List Element) (tail : Option Tail) → k.elements ≡ es → Begins es tail k.level k.is_right → MatchBool (begins_with_slot es) ((w : List ℕ) × JoinedBy k w) ((w : List ℕ) × LedBy k w)
begins-shaped k [] tail is a = absurd a
begins-shaped k (fixed w l ∷ es) None is a = (w, (es, is ∙ ap (λ q. fixed w q ∷ es) (sym a.0)))
begins-shaped k (fixed w l ∷ es) (Some tail) is a = absurd a
begins-shaped k (slot i ∷ []) tail is a = absurd a
begins-shaped k (slot i ∷ slot j ∷ es) tail is a = absurd a
begins-shaped k (slot i ∷ fixed w l ∷ es) None is a = absurd a
begins-shaped k (slot i ∷ fixed w l ∷ es) (Some tail) is a = (w, (i, es, is ∙ ap (λ q. slot i ∷ fixed w q ∷ es) (sym a.1)))

pub general-shaped : (sigs : List Signature) (d : Delimiters) (g : General) (k : Notation) → IsGeneral sigs d g k → IsShaped k
general-shaped sigs d g k is = (begins-shaped k k.elements g.tail refl is.begins, elements-plain d g.names g.text g.literals k.elements is.elements)

-- ---- answers

pub form-answer : (A : Type 0) (t : Table) (Makes : Notation → Type 0) (f : NoteFault) → IsMade {A = Notation} (Err f) Makes → IsAnswer {A = A} (Err f) (notation_checks t Makes)
form-answer A t Makes faults.Form none = inl ((λ h. none h.0 h.1), refl)
form-answer A t Makes faults.Mem none = tt
form-answer A t Makes faults.Clash none = absurd none
form-answer A t Makes faults.CoercionClash none = absurd none

pub added-mem : {A : Type 0} (r : Result A NoteFault) (t next u : Table) → u ≡ t → IsErrAnd r (λ f. f ≡ NoteFault.Mem) → IsAdded r t next u
added-mem (Ok x) t next u same h = absurd h
added-mem {A} (Err f) t next u same h = subst (λ (g : NoteFault). IsAdded {A = A} (Err g) t next u) (sym h) same

pub added-answer : {A : Type 0} (t : Table) (Makes : Notation → Type 0) (k : Notation) (u : Table) (r : Result A NoteFault) → Makes k → ((l : Notation) → Makes l → l ≡ k) → IsAdded r t (with_notation t k) u → IsAnswer r (notation_checks t Makes)
added-answer t Makes k u (Ok x) makes one (clear, is) = ((k, makes), ((k, makes, clear), tt))
added-answer t Makes k u (Err faults.Clash) makes one (never, is) = inr ((k, makes), inl ((λ h. go h), refl))
  where
    go : (l : Notation) × Makes l × IsClearTable (with_notation t l) → ⊥
    go (l, m, clear) = never (subst (λ n. IsClearTable (with_notation t n)) (one l m) clear)
added-answer t Makes k u (Err faults.Mem) makes one is = tt
added-answer t Makes k u (Err faults.Form) makes one is = absurd is
added-answer t Makes k u (Err faults.CoercionClash) makes one is = absurd is

pub added-ok : {A : Type 0} (t : Table) (Makes : Notation → Type 0) (k : Notation) (u : Table) (r : Result A NoteFault) → Makes k → IsAdded r t (with_notation t k) u → OnOk r (AddsNotation t Makes u)
added-ok t Makes k u (Ok x) makes (clear, is) = (k, makes, is)
added-ok t Makes k u (Err f) makes is = tt

pub added-err : {A : Type 0} (t next u : Table) (r : Result A NoteFault) → IsAdded r t next u → OnErr r (u ≡ t)
added-err t next u (Ok x) is = tt
added-err t next u (Err faults.Clash) (never, is) = is
added-err t next u (Err faults.Mem) is = is
added-err t next u (Err faults.Form) is = absurd is
added-err t next u (Err faults.CoercionClash) is = absurd is

-- ---- one pushed

pub pushed-infix : (v t : Table) → v ≡ t → (k : Notation) (xs : List Notation) → xs ≡ v.infixes ++ k ∷ [] → IsClear v.leading (v.infixes ++ k ∷ []) → IsClearTable (with_infix t k) × (record v { infixes = xs } ≡ with_infix t k)
pushed-infix v t same k xs is clear = (subst (λ x. IsClearTable (with_infix x k)) same clear, ap (λ ks. record v { infixes = ks }) is ∙ ap (λ x. with_infix x k) same)

pub pushed-leading : (v t : Table) → v ≡ t → (k : Notation) (xs : List Notation) → xs ≡ v.leading ++ k ∷ [] → IsClear (v.leading ++ k ∷ []) v.infixes → IsClearTable (with_leading t k) × (record v { leading = xs } ≡ with_leading t k)
pushed-leading v t same k xs is clear = (subst (λ x. IsClearTable (with_leading x k)) same clear, ap (λ ks. record v { leading = ks }) is ∙ ap (λ x. with_leading x k) same)

pub shaped-slot : (k : Notation) → IsShaped k → begins_with_slot k.elements ≡ true → (w : List ℕ) × JoinedBy k w
shaped-slot k shaped is = subst (λ b. MatchBool b ((w : List ℕ) × JoinedBy k w) ((w : List ℕ) × LedBy k w)) is shaped.0

pub shaped-constant : (k : Notation) → IsShaped k → begins_with_slot k.elements ≡ false → (w : List ℕ) × LedBy k w
shaped-constant k shaped is = subst (λ b. MatchBool b ((w : List ℕ) × JoinedBy k w) ((w : List ℕ) × LedBy k w)) is shaped.0

pub with-slot : (t : Table) (k : Notation) → begins_with_slot k.elements ≡ true → with_infix t k ≡ with_notation t k
with-slot t k is = ap (λ b. if b then with_infix t k else with_leading t k) (sym is)

pub with-constant : (t : Table) (k : Notation) → begins_with_slot k.elements ≡ false → with_leading t k ≡ with_notation t k
with-constant t k is = ap (λ b. if b then with_infix t k else with_leading t k) (sym is)

pub infix-constant : (sigs : List Signature) (d : Delimiters) (term : ℕ) (text : List ℕ) (level : Option ℕ) (right : Bool) (k : Notation) → IsInfix sigs d term text level right k → (w : List ℕ) × IsConstant d text w
infix-constant sigs d term text level right k (w, s, con, at, many, is) = (w, con)

pub prefix-constant : (sigs : List Signature) (d : Delimiters) (term : ℕ) (text : List ℕ) (level : Option ℕ) (k : Notation) → IsPrefix sigs d term text level k → (w : List ℕ) × IsConstant d text w
prefix-constant sigs d term text level k (w, s, con, at, is) = (w, con)

pub empty-made : (d : Delimiters) (l i : List Notation) (n : List TermName) (cs : List Coercion) → d ≡ no_delimiters → l ≡ [] → i ≡ [] → n ≡ [] → cs ≡ []
    → IsTable (record { delimiters = d; leading = l; infixes = i; names = n; coercions = cs })
empty-made d l i n cs d_is l_is i_is n_is cs_is =
    subst (λ (x : List Coercion). IsTable (record { delimiters = d; leading = l; infixes = i; names = n; coercions = x })) (sym cs_is)
    (subst (λ (x : List TermName). IsTable (record { delimiters = d; leading = l; infixes = i; names = x; coercions = [] })) (sym n_is)
    (subst (λ (x : List Notation). IsTable (record { delimiters = d; leading = l; infixes = x; names = []; coercions = [] })) (sym i_is)
    (subst (λ (x : List Notation). IsTable (record { delimiters = d; leading = x; infixes = []; names = []; coercions = [] })) (sym l_is)
    (subst (λ (x : Delimiters). IsTable (record { delimiters = x; leading = []; infixes = []; names = []; coercions = [] })) (sym d_is) empty-is))))

pub delimiter-answer : (A : Type 0) (left : List ℕ) (right : Option (List ℕ)) (f : NoteFault) → IsMade {A = Delimiters} (Err f) (AreDelimiters left right) → IsAnswer {A = A} (Err f) (delimiter_checks left right)
delimiter-answer A left right faults.Form never = inl ((λ h. never h.0 h.1), refl)
delimiter-answer A left right faults.Mem never = tt
delimiter-answer A left right faults.Clash never = absurd never
delimiter-answer A left right faults.CoercionClash never = absurd never

-- ---- the variables of a statement

pub variables-more : (names : List (List ℕ)) (w : List ℕ) → AreVariables names → (w ≡ []) ⊎ IsTrue (is_name w) → (w ≢ [] → Contains names w → ⊥) → AreVariables (names ++ w ∷ [])
variables-more names w vs ident other = record {
  distinct = λ i j v some at_i at_j. go i j v some (slice_get-push_cases names w i v at_i) (slice_get-push_cases names w j v at_j);
  identifiers = λ v some has. elim (Contains-push_cases names w v has) [ inl there ↦ vs.identifiers v some there | inr same ↦ last v some same ident ];
}
  where
    go : (i j : ℕ) (v : List ℕ) → v ≢ [] → (slice_get names i ≡ Some v) ⊎ ((i ≡ length names) × (w ≡ v)) → (slice_get names j ≡ Some v) ⊎ ((j ≡ length names) × (w ≡ v)) → i ≡ j
    go i j v some (inl a) (inl b) = vs.distinct i j v some a b
    go i j v some (inl a) (inr b) = absurd (other (λ e. some (sym b.1 ∙ e)) (subst (Contains names) (sym b.1) (contains_at names i v a)))
    go i j v some (inr a) (inl b) = absurd (other (λ e. some (sym a.1 ∙ e)) (subst (Contains names) (sym a.1) (contains_at names j v b)))
    go i j v some (inr a) (inr b) = a.0 ∙ sym b.0

    last : (v : List ℕ) → v ≢ [] → w ≡ v → (w ≡ []) ⊎ IsTrue (is_name w) → IsTrue (is_name v)
    last v some same (inl empty) = absurd (some (sym same ∙ empty))
    last v some same (inr is) = subst (λ x. IsTrue (is_name x)) same is
