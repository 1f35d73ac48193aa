-- What is declared behind k definitions is legal, and each theorem's derivation derives it.
use Rattle.std.proofs.Common.{ℕ, zero, suc, ◌≡◌, false, List, [], ◌∷◌, Some, refl, sym, subst, slice_get}
use Rattle.mz_logic_theory.specs.Tree.{Tree, var, more, none, instance}
use Rattle.mz_logic_theory.specs.Declaration.{Declaration, term_decl, assertion_decl, sorts, signatures, assertions}
use Rattle.mz_logic_theory.specs.Modifiers.{MayBeClaimSort, MayBeResultSort}
use Rattle.mz_logic_theory.specs.Sorts.{HasSort, IsSorted}
use Rattle.mz_logic_theory.specs.Legality.{AreParams, IsLegalDecl}
use Rattle.mz_logic_theory.specs.Conversions.{Between}
use Rattle.mz_logic_theory.specs.Derivations.{Derives}
use Rattle.mz_logic_theory.specs.Laws.{SortsThere}
use Rattle.mz_logic_theory.specs.Examples.{wff, two, im, im_declared, wff_x, nat, all_signature, y_and_q, one_param, ax_1, ax_mp}
use Rattle.mz_logic_theory.specs.declared.binder.Binder.{Binder}
use Rattle.mz_logic_theory.specs.declared.binder.SortMods.{SortMods}
use Rattle.mz_logic_theory.proofs.Offered.{terms_are_sorted, assertions_are_sorted, nothing_in}
use Rattle.mz_tool.proofs.Declarations.{all, d, ax_gen, d_number, t_number, body, d_declared, t_stated, g_stated, body_conversion, body_derivation, t_derivation, g_derivation}
use Rattle.mz_tool.proofs.Environment.{Stands, IsBefore, env_d, env_t, sorts_d, sorts_t, signature_d, signature_t, d_at_d, d_at_t, term_at_d, assertion_d, assertion_t, t_at_t}
use Rattle.mz_tool.proofs.Sorted.{one-wff, two-wff, apart-wff, params-wff, never-free, params-nat, apart-nat, unbound, im-sort, d-sort, all-sort, claimed, result-sort, wff-there, nat-there, no-claims}

-- ---- the variable of a definition and its first theorem

abbrev a : Tree
a = var 0

abbrev one : List Binder
one = wff ∷ []

a-sort : HasSort [] one a 0
a-sort = (wff, refl, refl)

pub q-sort : HasSort [] y_and_q (var 1) 0
q-sort = (wff_x, refl, refl)

-- ---- bodies

module _ (env : List Declaration) (im_at : slice_get (signatures env) 0 ≡ Some im_declared.signature) where
  pub body-sort : (k : ℕ) → ((j : ℕ) → suc j ≡ k → slice_get (signatures env) (d_number j) ≡ Some one_param) → HasSort (signatures env) one (body k) 0
  body-sort zero before = im-sort (signatures env) one im_at a (im a a) a-sort (im-sort (signatures env) one im_at a a a-sort a-sort)
  body-sort (suc j) before = im-sort (signatures env) one im_at a (d (d_number j) a) a-sort (d-sort (signatures env) one (d_number j) (before j refl) a a-sort)

  -- the body beside itself
  pub body-between : (k : ℕ) → ((j : ℕ) → suc j ≡ k → slice_get (signatures env) (d_number j) ≡ Some one_param) → Between env one (body_conversion k) (body k) (body k)
  body-between zero before =
      let whole : IsSorted env one (body zero) = (0, body-sort zero before) in
      let inner : IsSorted env one (im a a) = (0, im-sort (signatures env) one im_at a a a-sort a-sort) in
      let leaf : IsSorted env one a = (0, a-sort) in
      (whole, whole, (_, _, refl, refl, ((leaf, leaf, refl, refl), ((inner, inner, (_, _, refl, refl, ((leaf, leaf, refl, refl), ((leaf, leaf, refl, refl), tt)))), tt))))
  body-between (suc j) before =
      let whole : IsSorted env one (body (suc j)) = (0, body-sort (suc j) before) in
      let inner : IsSorted env one (d (d_number j) a) = (0, d-sort (signatures env) one (d_number j) (before j refl) a a-sort) in
      let leaf : IsSorted env one a = (0, a-sort) in
      (whole, whole, (_, _, refl, refl, ((leaf, leaf, refl, refl), ((inner, inner, (_, _, refl, refl, ((leaf, leaf, refl, refl), tt))), tt))))

-- the definition before stands there
before-at : (k : ℕ) (env : List Declaration) → IsBefore k env → (j : ℕ) → suc j ≡ k → slice_get (signatures env) (d_number j) ≡ Some one_param
before-at zero env before j is = absurd cc
before-at (suc i) env before j is = let same : i ≡ j = cc in subst (λ (n : ℕ). slice_get (signatures env) (d_number n) ≡ Some one_param) same before.0

-- ---- the three of number k

module _ (k : ℕ) (env : List Declaration) (is : Stands k env) where
  pub d-legal : IsLegalDecl env (term_decl (d_declared k))
  d-legal =
      let body_is : HasSort (signatures env) one (body k) 0 = body-sort env is.im_at k (before-at k env is.before) in
      (terms_are_sorted env (d_declared k)).1 (
        subst (λ (ss : List SortMods). SortsThere ss one) (sym is.sorts_are) wff-there,
        params-wff (sorts env) one one-wff,
        nothing_in _,
        subst (λ (ss : List SortMods). MayBeResultSort ss 0) (sym is.sorts_are) result-sort,
        nothing_in _,
        ((body_is, never-free (signatures env) one one-wff (body k) 0 body_is), tt),
      )

  pub t-legal : IsLegalDecl (env_d env k) (assertion_decl (t_stated k))
  t-legal =
      (assertions_are_sorted (env_d env k) (t_stated k)).1 (
        subst (λ (ss : List SortMods). SortsThere ss one) (sym (sorts_d k env is)) wff-there,
        params-wff (sorts (env_d env k)) one one-wff,
        no-claims (env_d env k) one none refl,
        (0, d-sort (signatures (env_d env k)) one (d_number k) (d_at_d k env is) a a-sort, subst (λ (ss : List SortMods). MayBeClaimSort ss 0) (sym (sorts_d k env is)) claimed),
      )

  pub g-legal : IsLegalDecl (env_t env k) (assertion_decl (g_stated k))
  g-legal =
      (assertions_are_sorted (env_t env k) (g_stated k)).1 (
        subst (λ (ss : List SortMods). SortsThere ss y_and_q) (sym (sorts_t k env is)) nat-there,
        subst (λ (ss : List SortMods). AreParams ss y_and_q) (sym (sorts_t k env is)) params-nat,
        no-claims (env_t env k) y_and_q none refl,
        (
          0,
          all-sort (signatures (env_t env k)) (signature_t k env is 1 all_signature is.all_at) (d (d_number k) (var 1))
              (d-sort (signatures (env_t env k)) y_and_q (d_number k) (d_at_t k env is) (var 1) q-sort),
          subst (λ (ss : List SortMods). MayBeClaimSort ss 0) (sym (sorts_t k env is)) claimed,
        ),
      )

  -- ---- derivations

  abbrev env' : List Declaration
  env' = env_d env k

  im-at : slice_get (signatures env') 0 ≡ Some im_declared.signature
  im-at = signature_d k env is 0 im_declared.signature is.im_at

  earlier : (j : ℕ) → suc j ≡ k → slice_get (signatures env') (d_number j) ≡ Some one_param
  earlier j same = signature_d k env is (d_number j) one_param (before-at k env is.before j same)

  earlier-theorem : (j : ℕ) → suc j ≡ k → slice_get (assertions env') (t_number j) ≡ Some (t_stated j)
  earlier-theorem j same = assertion_d k env is (t_number j) (t_stated j) (go k is.before same)
    where
      go : (i : ℕ) → IsBefore i env → suc j ≡ i → slice_get (assertions env) (t_number j) ≡ Some (t_stated j)
      go zero before same' = absurd cc
      go (suc i) before same' = let e : i ≡ j = cc in subst (λ (n : ℕ). slice_get (assertions env) (t_number n) ≡ Some (t_stated n)) e before.1

  pub body-sort-d : HasSort (signatures env') one (body k) 0
  body-sort-d = body-sort env' im-at k earlier

  pub body-derives : (i : ℕ) → i ≡ k → Derives env' one none (body_derivation i) (body i)
  body-derives zero same =
      (ax_1, assertion_d k env is 0 ax_1 is.ax_1_at, refl, (a-sort, unbound false refl, (a-sort, unbound false refl, tt)), apart-wff one two two-wff (more a (more a none)), tt)
  body-derives (suc j) same =
      let p : HasSort (signatures env') one (d (d_number j) a) 0 = d-sort (signatures env') one (d_number j) (earlier j same) a a-sort in
      let q : HasSort (signatures env') one (body (suc j)) 0 = im-sort (signatures env') one im-at a (d (d_number j) a) a-sort p in (
        ax_mp,
        assertion_d k env is 1 ax_mp is.ax_mp_at,
        refl,
        (p, unbound false refl, (q, unbound false refl, tt)),
        apart-wff one two two-wff (more (d (d_number j) a) (more (body (suc j)) none)),
        (
          (ax_1, assertion_d k env is 0 ax_1 is.ax_1_at, refl, (p, unbound false refl, (a-sort, unbound false refl, tt)), apart-wff one two two-wff (more (d (d_number j) a) (more a none)), tt),
          ((t_stated j, earlier-theorem j same, refl, (a-sort, unbound false refl, tt), apart-wff one one one-wff (more a none), tt), tt),
        ),
      )

  -- the instance of the body under its own variable
  own-body : (i : ℕ) → instance (more a none) (body i) ≡ body i
  own-body zero = refl
  own-body (suc j) = refl

  pub t-derives : Derives env' one none (t_derivation k) (d (d_number k) a)
  t-derives =
      let left : IsSorted env' one (d (d_number k) a) = (0, d-sort (signatures env') one (d_number k) (d_at_d k env is) a a-sort) in
      let right : IsSorted env' one (body k) = (0, body-sort env' im-at k earlier) in
      let same : Between env' one (body_conversion k) (instance (more a none) (body k)) (body k) = subst (λ (e : Tree). Between env' one (body_conversion k) e (body k))
      (sym (own-body k)) (body-between env' im-at k earlier) in
      (refl, (body k, (left, right, refl, (d_declared k, [], body k, (term_at_d k env is, refl), (a-sort, unbound false refl, tt), tt, same)), body-derives k refl))

  pub g-derives : Derives (env_t env k) y_and_q none (g_derivation k) (all (var 0) (d (d_number k) (var 1)))
  g-derives =
      let p : HasSort (signatures (env_t env k)) y_and_q (d (d_number k) (var 1)) 0 = d-sort (signatures (env_t env k)) y_and_q (d_number k) (d_at_t k env is) (var 1) q-sort in (
        ax_gen,
        assertion_t k env is 2 ax_gen is.ax_gen_at,
        refl,
        ((nat, refl, refl), (λ _. (0, nat, refl, refl, refl)), (p, unbound false refl, tt)),
        apart-nat (d (d_number k) (var 1)),
        ((t_stated k, t_at_t k env is, refl, (q-sort, unbound false refl, tt), apart-wff y_and_q one one-wff (more (var 1) none), tt), tt),
      )
