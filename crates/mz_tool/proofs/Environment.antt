-- What stands where in the environment behind k definitions and their theorems.
use Rattle.std.proofs.Common.{ℕ, zero, suc, ◌≡◌, ◌∙◌, List, [], ◌∷◌, ◌++◌, length, Some, sym, ap, subst, refl, slice_get, append-nil}
use Rattle.std.specs.Prelude.{⊤}
use Rattle.mz_base.proofs.Offered.{length-push, slice_get-append, slice_get-last}
use Rattle.mz_logic_theory.specs.Declaration.{Declaration, Term, Assertion, term_decl, assertion_decl, sorts, terms, signatures, assertions}
use Rattle.mz_logic_theory.specs.Signature.{Signature}
use Rattle.mz_logic_theory.specs.Examples.{im_declared, all_signature, one_param, ax_1, ax_mp}
use Rattle.mz_logic_theory.proofs.Offered.{same-sorts, same-signatures, signatures-append, terms-append, assertions-append, length-signatures}
use Rattle.mz_tool.proofs.Declarations.{two_sorts, ax_gen, d_number, t_number, d_declared, t_stated, g_stated}

-- the definition before, and its first theorem
abbrev pub IsBefore : ℕ → List Declaration → Type 0
IsBefore zero env = ⊤
IsBefore (suc j) env = (slice_get (signatures env) (d_number j) ≡ Some one_param) × (slice_get (assertions env) (t_number j) ≡ Some (t_stated j))

pub record Stands (k : ℕ) (env : List Declaration) : Type 0 where
  pub sorts_are : sorts env ≡ two_sorts
  pub im_at : slice_get (signatures env) 0 ≡ Some im_declared.signature
  pub all_at : slice_get (signatures env) 1 ≡ Some all_signature
  pub ax_1_at : slice_get (assertions env) 0 ≡ Some ax_1
  pub ax_mp_at : slice_get (assertions env) 1 ≡ Some ax_mp
  pub ax_gen_at : slice_get (assertions env) 2 ≡ Some ax_gen
  pub many_terms : length (signatures env) ≡ d_number k
  pub many_assertions : length (assertions env) ≡ t_number k
  pub before : IsBefore k env

-- ---- one declaration more

abbrev pub with_term : List Declaration → Term → List Declaration
with_term env t = env ++ term_decl t ∷ []

abbrev pub with_assertion : List Declaration → Assertion → List Declaration
with_assertion env a = env ++ assertion_decl a ∷ []

module _ (env : List Declaration) (t : Term) where
  pub sorts-term : sorts (with_term env t) ≡ sorts env
  sorts-term = same-sorts env (term_decl t) refl

  pub signatures-term : signatures (with_term env t) ≡ signatures env ++ t.signature ∷ []
  signatures-term = signatures-append env (term_decl t ∷ [])

  pub terms-term : terms (with_term env t) ≡ terms env ++ t ∷ []
  terms-term = terms-append env (term_decl t ∷ [])

  pub assertions-term : assertions (with_term env t) ≡ assertions env
  assertions-term = assertions-append env (term_decl t ∷ []) ∙ append-nil (assertions env)

module _ (env : List Declaration) (a : Assertion) where
  pub sorts-assertion : sorts (with_assertion env a) ≡ sorts env
  sorts-assertion = same-sorts env (assertion_decl a) refl

  pub signatures-assertion : signatures (with_assertion env a) ≡ signatures env
  signatures-assertion = same-signatures env (assertion_decl a) refl

  pub terms-assertion : terms (with_assertion env a) ≡ terms env
  terms-assertion = terms-append env (assertion_decl a ∷ []) ∙ append-nil (terms env)

  pub assertions-assertion : assertions (with_assertion env a) ≡ assertions env ++ a ∷ []
  assertions-assertion = assertions-append env (assertion_decl a ∷ [])

-- ---- the three of number k

abbrev pub env_d : List Declaration → ℕ → List Declaration
env_d env k = with_term env (d_declared k)

abbrev pub env_t : List Declaration → ℕ → List Declaration
env_t env k = with_assertion (env_d env k) (t_stated k)

abbrev pub env_g : List Declaration → ℕ → List Declaration
env_g env k = with_assertion (env_t env k) (g_stated k)

module _ (k : ℕ) (env : List Declaration) (is : Stands k env) where
  -- ---- sorts

  pub sorts_d : sorts (env_d env k) ≡ two_sorts
  sorts_d = sorts-term env (d_declared k) ∙ is.sorts_are

  pub sorts_t : sorts (env_t env k) ≡ two_sorts
  sorts_t = sorts-assertion (env_d env k) (t_stated k) ∙ sorts_d

  sorts_g : sorts (env_g env k) ≡ two_sorts
  sorts_g = sorts-assertion (env_t env k) (g_stated k) ∙ sorts_t

  -- ---- terms

  pub signatures_d : signatures (env_d env k) ≡ signatures env ++ one_param ∷ []
  signatures_d = signatures-term env (d_declared k)

  pub signatures_t : signatures (env_t env k) ≡ signatures env ++ one_param ∷ []
  signatures_t = signatures-assertion (env_d env k) (t_stated k) ∙ signatures_d

  signatures_g : signatures (env_g env k) ≡ signatures env ++ one_param ∷ []
  signatures_g = signatures-assertion (env_t env k) (g_stated k) ∙ signatures_t

  last_signature : slice_get (signatures env ++ one_param ∷ []) (d_number k) ≡ Some one_param
  last_signature = subst (λ (n : ℕ). slice_get (signatures env ++ one_param ∷ []) n ≡ Some one_param) is.many_terms (slice_get-last (signatures env) one_param)

  -- one that stands in env
  pub signature_d : (t : ℕ) (s : Signature) → slice_get (signatures env) t ≡ Some s → slice_get (signatures (env_d env k)) t ≡ Some s
  signature_d t s at = ap (λ (ss : List Signature). slice_get ss t) signatures_d ∙ slice_get-append (signatures env) (one_param ∷ []) t s at

  pub signature_t : (t : ℕ) (s : Signature) → slice_get (signatures env) t ≡ Some s → slice_get (signatures (env_t env k)) t ≡ Some s
  signature_t t s at = ap (λ (ss : List Signature). slice_get ss t) signatures_t ∙ slice_get-append (signatures env) (one_param ∷ []) t s at

  signature_g : (t : ℕ) (s : Signature) → slice_get (signatures env) t ≡ Some s → slice_get (signatures (env_g env k)) t ≡ Some s
  signature_g t s at = ap (λ (ss : List Signature). slice_get ss t) signatures_g ∙ slice_get-append (signatures env) (one_param ∷ []) t s at

  -- the new one
  pub d_at_d : slice_get (signatures (env_d env k)) (d_number k) ≡ Some one_param
  d_at_d = ap (λ (ss : List Signature). slice_get ss (d_number k)) signatures_d ∙ last_signature

  pub d_at_t : slice_get (signatures (env_t env k)) (d_number k) ≡ Some one_param
  d_at_t = ap (λ (ss : List Signature). slice_get ss (d_number k)) signatures_t ∙ last_signature

  d_at_g : slice_get (signatures (env_g env k)) (d_number k) ≡ Some one_param
  d_at_g = ap (λ (ss : List Signature). slice_get ss (d_number k)) signatures_g ∙ last_signature

  pub term_at_d : slice_get (terms (env_d env k)) (d_number k) ≡ Some (d_declared k)
  term_at_d =
      ap (λ (ts : List Term). slice_get ts (d_number k)) (terms-term env (d_declared k))
      ∙ subst (λ (n : ℕ). slice_get (terms env ++ d_declared k ∷ []) n ≡ Some (d_declared k)) (sym (length-signatures env) ∙ is.many_terms)
      (slice_get-last (terms env) (d_declared k))

  -- ---- axioms and theorems

  pub assertions_d : assertions (env_d env k) ≡ assertions env
  assertions_d = assertions-term env (d_declared k)

  pub assertions_t : assertions (env_t env k) ≡ assertions env ++ t_stated k ∷ []
  assertions_t = assertions-assertion (env_d env k) (t_stated k) ∙ ap (λ (xs : List Assertion). xs ++ t_stated k ∷ []) assertions_d

  assertions_g : assertions (env_g env k) ≡ (assertions env ++ t_stated k ∷ []) ++ g_stated k ∷ []
  assertions_g = assertions-assertion (env_t env k) (g_stated k) ∙ ap (λ (xs : List Assertion). xs ++ g_stated k ∷ []) assertions_t

  pub assertion_d : (T : ℕ) (a : Assertion) → slice_get (assertions env) T ≡ Some a → slice_get (assertions (env_d env k)) T ≡ Some a
  assertion_d T a at = ap (λ (xs : List Assertion). slice_get xs T) assertions_d ∙ at

  pub assertion_t : (T : ℕ) (a : Assertion) → slice_get (assertions env) T ≡ Some a → slice_get (assertions (env_t env k)) T ≡ Some a
  assertion_t T a at = ap (λ (xs : List Assertion). slice_get xs T) assertions_t ∙ slice_get-append (assertions env) (t_stated k ∷ []) T a at

  last_assertion : slice_get (assertions env ++ t_stated k ∷ []) (t_number k) ≡ Some (t_stated k)
  last_assertion = subst (λ (n : ℕ). slice_get (assertions env ++ t_stated k ∷ []) n ≡ Some (t_stated k)) is.many_assertions (slice_get-last (assertions env) (t_stated k))

  pub t_at_t : slice_get (assertions (env_t env k)) (t_number k) ≡ Some (t_stated k)
  t_at_t = ap (λ (xs : List Assertion). slice_get xs (t_number k)) assertions_t ∙ last_assertion

  assertion_g : (T : ℕ) (a : Assertion) → slice_get (assertions env ++ t_stated k ∷ []) T ≡ Some a → slice_get (assertions (env_g env k)) T ≡ Some a
  assertion_g T a at = ap (λ (xs : List Assertion). slice_get xs T) assertions_g ∙ slice_get-append (assertions env ++ t_stated k ∷ []) (g_stated k ∷ []) T a at

  old_assertion : (T : ℕ) (a : Assertion) → slice_get (assertions env) T ≡ Some a → slice_get (assertions (env_g env k)) T ≡ Some a
  old_assertion T a at = assertion_g T a (slice_get-append (assertions env) (t_stated k ∷ []) T a at)

  -- ---- behind all three

  pub stands-next : Stands (suc k) (env_g env k)
  stands-next = record {
    sorts_are = sorts_g;
    im_at = signature_g 0 im_declared.signature is.im_at;
    all_at = signature_g 1 all_signature is.all_at;
    ax_1_at = old_assertion 0 ax_1 is.ax_1_at;
    ax_mp_at = old_assertion 1 ax_mp is.ax_mp_at;
    ax_gen_at = old_assertion 2 ax_gen is.ax_gen_at;
    many_terms = ap (λ (ss : List Signature). length ss) signatures_g ∙ length-push (signatures env) one_param ∙ ap suc is.many_terms;
    many_assertions = ap (λ (xs : List Assertion). length xs) assertions_g ∙ length-push (assertions env ++ t_stated k ∷ []) (g_stated k)
        ∙ ap suc (length-push (assertions env) (t_stated k)) ∙ ap (λ (n : ℕ). suc (suc n)) is.many_assertions;
    before = (d_at_g, assertion_g (t_number k) (t_stated k) last_assertion);
  }
