-- What stands at a kept place.
use Rattle.std.proofs.Common.{ℕ, zero, suc, ◌≡◌, ◌+◌, ◌≤◌, ◌<◌, List, [], ◌∷◌, map, length, get_or, option_map, slice_get, Some, None, refl, sym, ap, ◌∙◌, subst, arith}
use Rattle.std.proofs.lemmas.List.{length-map}
use Rattle.std.proofs.lemmas.Option.{slice_get-map, slice_get_within, slice_get_past, slice_get_read, none-some}
use Rattle.mz_logic_theory.specs.Declaration.{Term, Assertion, Declaration, sort_decl, term_decl, assertion_decl, terms, assertions, signatures}
use Rattle.mz_logic_theory.specs.Places.{places_of_terms, places_of_assertions}
use Rattle.mz_logic_theory.specs.DeclView.{declaration, signature, term_view, assertion_view}
use Rattle.mz_logic_theory.specs.declared.decl.Decl.{Decl}
use Rattle.mz_logic_theory.specs.declared.decl.Decl.TheVariants.{Sort, Term as ATerm, Thm}
use Rattle.mz_logic_theory.specs.declared.decl.TermDecl.{TermDecl}
use Rattle.mz_logic_theory.specs.declared.decl.ThmDecl.{ThmDecl}
use Rattle.mz_logic_theory.proofs.Instance.{one_at}
use Rattle.mz_logic_theory.proofs.Sound.{signature_of_term}

-- nothing stands there
pub none_read : {A : Type 0} (xs : List A) (i : ℕ) (d : A) → None ≡ slice_get xs i → get_or xs i d ≡ d
none_read [] i d h = refl
none_read (x ∷ xs) zero d h = absurd (let e : None ≡ Some x = h in cc)
none_read (x ∷ xs) (suc i) d h = none_read xs i d h

-- ---- terms

-- what is at the place p of the i-th term, where the first declaration's place is n
pub record IsTermPlace (n : ℕ) (ds : List Declaration) (i p : ℕ) : Type 0 where
  pub k : ℕ
  pub at : p ≡ n + k
  pub term : Term
  pub stands : slice_get ds k ≡ Some (term_decl term)
  pub is : slice_get (terms ds) i ≡ Some term

term_later : (n : ℕ) (d : Declaration) (ds : List Declaration) (i j p : ℕ) (h : IsTermPlace (suc n) ds i p)
    → slice_get (terms (d ∷ ds)) j ≡ Some h.term → IsTermPlace n (d ∷ ds) j p
term_later n d ds i j p h is = let e = h.at in record { k = suc h.k; at = omega arith; term = h.term; stands = h.stands; is = is }

pub term_place : (n : ℕ) (ds : List Declaration) (i p : ℕ) → slice_get (places_of_terms n ds) i ≡ Some p → IsTermPlace n ds i p
term_place n [] i p at = absurd (none-some _ at)
term_place n (sort_decl m ∷ ds) i p at = let h = term_place (suc n) ds i p at in term_later n (sort_decl m) ds i i p h h.is
term_place n (term_decl d ∷ ds) zero p at = let e : p ≡ n = one_at at refl in record { k = 0; at = omega arith; term = d; stands = refl; is = refl }
term_place n (term_decl d ∷ ds) (suc i) p at = let h = term_place (suc n) ds i p at in term_later n (term_decl d) ds i (suc i) p h h.is
term_place n (assertion_decl a ∷ ds) i p at = let h = term_place (suc n) ds i p at in term_later n (assertion_decl a) ds i i p h h.is

pub no_term_place : (n : ℕ) (ds : List Declaration) (i : ℕ) → slice_get (places_of_terms n ds) i ≡ None → (slice_get (terms ds) i ≡ None) × (slice_get (signatures ds) i ≡ None)
no_term_place n [] i at = (refl, refl)
no_term_place n (sort_decl m ∷ ds) i at = no_term_place (suc n) ds i at
no_term_place n (term_decl d ∷ ds) zero at = absurd (none-some _ (sym at))
no_term_place n (term_decl d ∷ ds) (suc i) at = no_term_place (suc n) ds i at
no_term_place n (assertion_decl a ∷ ds) i at = no_term_place (suc n) ds i at

-- the code's declaration at the i-th kept place
pub record IsTermAt (decls : List Decl) (env : List Declaration) (i p : ℕ) : Type 0 where
  pub within : p < length decls
  pub one : (d : Decl) → d ≡ get_or decls p d → ((t : TermDecl) → d ≡ ATerm t → ⊥) → ⊥
  pub is : (d : Decl) (t : TermDecl) → d ≡ get_or decls p d → d ≡ ATerm t
      → (Some (term_view t) ≡ slice_get (terms env) i) × (Some (signature t) ≡ slice_get (signatures env) i)

-- what is read at a place
read_at : (decls : List Decl) (p : ℕ) (e : Declaration) (d : Decl) → slice_get (map declaration decls) p ≡ Some e → p < length decls → d ≡ get_or decls p d → declaration d ≡ e
read_at decls p e d at within is =
    one_at (ap (option_map declaration) (slice_get_read decls (length decls) p d refl within is)) (sym (slice_get-map declaration decls p) ∙ at)

within_decls : (decls : List Decl) (p : ℕ) (e : Declaration) → slice_get (map declaration decls) p ≡ Some e → p < length decls
within_decls decls p e at = subst (λ n. p < n) (length-map decls declaration) (slice_get_within (map declaration decls) p e at)

no_term : (d : Decl) (u : Term) → declaration d ≡ term_decl u → ((t : TermDecl) → d ≡ ATerm t → ⊥) → ⊥
no_term (Sort m) u is none_is = cc
no_term (ATerm t) u is none_is = none_is t refl
no_term (Thm a) u is none_is = cc

its_term : (d : Decl) (u : Term) (t : TermDecl) → declaration d ≡ term_decl u → d ≡ ATerm t → term_view t ≡ u
its_term d u t is same = term_inside (sym (ap declaration same) ∙ is)
  where
    term_inside : {a b : Term} → term_decl a ≡ term_decl b → a ≡ b
    term_inside e = cc

pub term_at : (decls : List Decl) (places : List ℕ) (env : List Declaration) (i p : ℕ) → map declaration decls ≡ env → places ≡ places_of_terms 0 (map declaration decls)
    → i < length places → p ≡ get_or places i p → IsTermAt decls env i p
term_at decls places env i p env_is places_are within is = record {
  within = below;
  one = λ d read none_is. no_term d h.term (read_at decls p (term_decl h.term) d stands below read) none_is;
  is = λ d t read same.
      let e = its_term d h.term t (read_at decls p (term_decl h.term) d stands below read) same in
      let at = subst (λ ds. slice_get (terms ds) i ≡ Some h.term) env_is h.is in
      (ap Some e ∙ sym at, ap (λ u. Some u.signature) e ∙ sym (signature_of_term env i h.term at));
}
  where
    h : IsTermPlace 0 (map declaration decls) i p
    h = term_place 0 (map declaration decls) i p (subst (λ ps. slice_get ps i ≡ Some p) places_are (slice_get_read places (length places) i p refl within is))

    stands : slice_get (map declaration decls) p ≡ Some (term_decl h.term)
    stands = subst (λ k. slice_get (map declaration decls) k ≡ Some (term_decl h.term)) (let e = h.at in omega arith) h.stands

    below : p < length decls
    below = within_decls decls p (term_decl h.term) stands

pub no_term_at : (decls : List Decl) (places : List ℕ) (env : List Declaration) (i : ℕ) → map declaration decls ≡ env → places ≡ places_of_terms 0 (map declaration decls)
    → length places ≤ i → (None ≡ slice_get (terms env) i) × (None ≡ slice_get (signatures env) i)
no_term_at decls places env i env_is places_are past =
    let h = no_term_place 0 (map declaration decls) i (subst (λ ps. slice_get ps i ≡ None) places_are (slice_get_past places i past)) in
    subst (λ ds. (None ≡ slice_get (terms ds) i) × (None ≡ slice_get (signatures ds) i)) env_is (sym h.0, sym h.1)

-- ---- axioms and theorems

pub record IsAssertionPlace (n : ℕ) (ds : List Declaration) (i p : ℕ) : Type 0 where
  pub k : ℕ
  pub at : p ≡ n + k
  pub assertion : Assertion
  pub stands : slice_get ds k ≡ Some (assertion_decl assertion)
  pub is : slice_get (assertions ds) i ≡ Some assertion

assertion_later : (n : ℕ) (d : Declaration) (ds : List Declaration) (i j p : ℕ) (h : IsAssertionPlace (suc n) ds i p)
    → slice_get (assertions (d ∷ ds)) j ≡ Some h.assertion → IsAssertionPlace n (d ∷ ds) j p
assertion_later n d ds i j p h is = let e = h.at in record { k = suc h.k; at = omega arith; assertion = h.assertion; stands = h.stands; is = is }

pub assertion_place : (n : ℕ) (ds : List Declaration) (i p : ℕ) → slice_get (places_of_assertions n ds) i ≡ Some p → IsAssertionPlace n ds i p
assertion_place n [] i p at = absurd (none-some _ at)
assertion_place n (sort_decl m ∷ ds) i p at = let h = assertion_place (suc n) ds i p at in assertion_later n (sort_decl m) ds i i p h h.is
assertion_place n (term_decl d ∷ ds) i p at = let h = assertion_place (suc n) ds i p at in assertion_later n (term_decl d) ds i i p h h.is
assertion_place n (assertion_decl a ∷ ds) zero p at = let e : p ≡ n = one_at at refl in record { k = 0; at = omega arith; assertion = a; stands = refl; is = refl }
assertion_place n (assertion_decl a ∷ ds) (suc i) p at = let h = assertion_place (suc n) ds i p at in assertion_later n (assertion_decl a) ds i (suc i) p h h.is

pub no_assertion_place : (n : ℕ) (ds : List Declaration) (i : ℕ) → slice_get (places_of_assertions n ds) i ≡ None → slice_get (assertions ds) i ≡ None
no_assertion_place n [] i at = refl
no_assertion_place n (sort_decl m ∷ ds) i at = no_assertion_place (suc n) ds i at
no_assertion_place n (term_decl d ∷ ds) i at = no_assertion_place (suc n) ds i at
no_assertion_place n (assertion_decl a ∷ ds) zero at = absurd (none-some _ (sym at))
no_assertion_place n (assertion_decl a ∷ ds) (suc i) at = no_assertion_place (suc n) ds i at

pub record IsAssertionAt (decls : List Decl) (env : List Declaration) (i p : ℕ) : Type 0 where
  pub within : p < length decls
  pub one : (d : Decl) → d ≡ get_or decls p d → ((t : ThmDecl) → d ≡ Thm t → ⊥) → ⊥
  pub is : (d : Decl) (t : ThmDecl) → d ≡ get_or decls p d → d ≡ Thm t → Some (assertion_view t) ≡ slice_get (assertions env) i

no_assertion : (d : Decl) (a : Assertion) → declaration d ≡ assertion_decl a → ((t : ThmDecl) → d ≡ Thm t → ⊥) → ⊥
no_assertion (Sort m) a is none_is = cc
no_assertion (ATerm t) a is none_is = cc
no_assertion (Thm t) a is none_is = none_is t refl

its_assertion : (d : Decl) (a : Assertion) (t : ThmDecl) → declaration d ≡ assertion_decl a → d ≡ Thm t → assertion_view t ≡ a
its_assertion d a t is same = assertion_inside (sym (ap declaration same) ∙ is)
  where
    assertion_inside : {a b : Assertion} → assertion_decl a ≡ assertion_decl b → a ≡ b
    assertion_inside e = cc

pub assertion_at : (decls : List Decl) (places : List ℕ) (env : List Declaration) (i p : ℕ) → map declaration decls ≡ env → places ≡ places_of_assertions 0 (map declaration decls)
    → i < length places → p ≡ get_or places i p → IsAssertionAt decls env i p
assertion_at decls places env i p env_is places_are within is = record {
  within = below;
  one = λ d read none_is. no_assertion d h.assertion (read_at decls p (assertion_decl h.assertion) d stands below read) none_is;
  is = λ d t read same.
      let e = its_assertion d h.assertion t (read_at decls p (assertion_decl h.assertion) d stands below read) same in
      ap Some e ∙ sym (subst (λ ds. slice_get (assertions ds) i ≡ Some h.assertion) env_is h.is);
}
  where
    h : IsAssertionPlace 0 (map declaration decls) i p
    h = assertion_place 0 (map declaration decls) i p (subst (λ ps. slice_get ps i ≡ Some p) places_are (slice_get_read places (length places) i p refl within is))

    stands : slice_get (map declaration decls) p ≡ Some (assertion_decl h.assertion)
    stands = subst (λ k. slice_get (map declaration decls) k ≡ Some (assertion_decl h.assertion)) (let e = h.at in omega arith) h.stands

    below : p < length decls
    below = within_decls decls p (assertion_decl h.assertion) stands

pub no_assertion_at : (decls : List Decl) (places : List ℕ) (env : List Declaration) (i : ℕ) → map declaration decls ≡ env → places ≡ places_of_assertions 0 (map declaration decls)
    → length places ≤ i → None ≡ slice_get (assertions env) i
no_assertion_at decls places env i env_is places_are past =
    let h = no_assertion_place 0 (map declaration decls) i (subst (λ ps. slice_get ps i ≡ None) places_are (slice_get_past places i past)) in
    subst (λ ds. None ≡ slice_get (assertions ds) i) env_is (sym h)
