-- The statements are within the limits.
use Rattle.std.proofs.Common.{ℕ, zero, suc, ◌≡◌, ◌≤◌, ◌*◌, List, Some, refl, ap, arith, slice_get}
use Rattle.std.proofs.lemmas.Option.{get_or_from_slice_get}
use Rattle.mz_base.specs.Checks.{AllHold}
use Rattle.mz_base.proofs.Offered.{all_hold-both}
use Rattle.mz_logic_theory.specs.Tree.{Tree, Trees, var, more, none, instance, size, trees_size}
use Rattle.mz_logic_theory.specs.Declaration.{Term, Assertion, Declaration, terms, assertions, body_tree}
use Rattle.mz_logic_theory.specs.Examples.{ax_1, ax_mp}
use Rattle.mz_mmu_theory.specs.Sides.{assertion_at, term_at}
use Rattle.mz_mmu_theory.specs.Statements.{Statement}
use Rattle.mz_mmu_theory.specs.Weight.{conv_weight, proof_weight, statement_weight, weight_after, parameter_limit, bound_limit, sort_count, parameter_count, bound_count, byte_bound, each_within, IsWithinLimits}
use Rattle.mz_tool.proofs.Declarations.{ax_gen, d, d_number, t_number, body, d_declared, t_stated, body_conversion, t_conversion}
use Rattle.mz_tool.proofs.Environment.{Stands, IsBefore, env_d, env_t, env_g, stands-next, term_at_d, assertion_d, assertion_t, t_at_t}
use Rattle.mz_tool.proofs.Statements.{head_declarations, head_then, body_proof, t_proof, g_proof, d_statement, t_statement, g_statement, numbered, sample_statements}
use Rattle.mz_tool.proofs.Stated.{head-stands}

-- ---- what stands at a number

assertion-is : (env : List Declaration) (T : ℕ) (a : Assertion) → slice_get (assertions env) T ≡ Some a → assertion_at env T ≡ a
assertion-is env T a at = get_or_from_slice_get (assertions env) T a _ at

term-is : (env : List Declaration) (t : ℕ) (x : Term) → slice_get (terms env) t ≡ Some x → term_at env t ≡ x
term-is env t x at = get_or_from_slice_get (terms env) t x _ at

-- the size of what a citation proves
cited : (env : List Declaration) (T : ℕ) (a : Assertion) (es : Trees) → slice_get (assertions env) T ≡ Some a → size (instance es (assertion_at env T).conclusion) ≡ size (instance es a.conclusion)
cited env T a es at = ap (λ (x : Assertion). size (instance es x.conclusion)) (assertion-is env T a at)

-- ---- weights

body-small : (k : ℕ) → size (body k) ≤ 5
body-small zero = let e : size (body 0) ≡ 5 = refl in omega (arith, e)
body-small (suc j) = let e : size (body (suc j)) ≡ 4 = refl in omega (arith, e)

-- its own instance, too
instance-small : (k : ℕ) → size (instance (more (var 0) none) (body k)) ≤ 5
instance-small zero = let e : size (body 0) ≡ 5 = refl in omega (arith, e)
instance-small (suc j) = let e : size (body (suc j)) ≡ 4 = refl in omega (arith, e)

conversion-light : (env : List Declaration) (k : ℕ) → conv_weight env (body_conversion k) ≤ 5
conversion-light env zero = let e : conv_weight env (body_conversion 0) ≡ 5 = refl in omega (arith, e)
conversion-light env (suc j) = let e : conv_weight env (body_conversion (suc j)) ≡ 4 = refl in omega (arith, e)

module _ (k : ℕ) (env : List Declaration) (is : Stands k env) where
  abbrev env' : List Declaration
  env' = env_d env k

  body-light : (i : ℕ) → IsBefore i env → proof_weight env' (body_proof i) ≤ 40
  body-light zero before =
      let c = cited env' 0 ax_1 (more (var 0) (more (var 0) none)) (assertion_d k env is 0 ax_1 is.ax_1_at) in
      let e : size (instance (more (var 0) (more (var 0) none)) ax_1.conclusion) ≡ 5 = refl in
      let f : trees_size (more (var 0) (more (var 0) none)) ≡ 2 = refl in
      omega (arith, c, e, f)
  body-light (suc j) before =
      let a : Tree = var 0 in
      let p : Tree = d (d_number j) a in
      let first = cited env' 0 ax_1 (more p (more a none)) (assertion_d k env is 0 ax_1 is.ax_1_at) in
      let second = cited env' (t_number j) (t_stated j) (more a none) (assertion_d k env is (t_number j) (t_stated j) before.1) in
      let whole = cited env' 1 ax_mp (more p (more (body (suc j)) none)) (assertion_d k env is 1 ax_mp is.ax_mp_at) in
      omega (arith, first, second, whole)

  conversion-whole : conv_weight env' (t_conversion k) ≤ 12
  conversion-whole =
      let e : size (instance (more (var 0) none) (body_tree (term_at env' (d_number k)).form)) ≡ size (instance (more (var 0) none) (body k))
      = ap (λ (x : Term). size (instance (more (var 0) none) (body_tree x.form))) (term-is env' (d_number k) (d_declared k) (term_at_d k env is)) in
      omega (arith, e, instance-small k, conversion-light env' k)

  t-light : proof_weight env' (t_proof k) ≤ 55
  t-light = omega (arith, conversion-whole, body-light k is.before)

  g-light : proof_weight (env_t env k) (g_proof k) ≤ 20
  g-light =
      let q : Tree = var 1 in
      let whole = cited (env_t env k) 2 ax_gen (more (var 0) (more (d (d_number k) q) none)) (assertion_t k env is 2 ax_gen is.ax_gen_at) in
      let part = cited (env_t env k) (t_number k) (t_stated k) (more q none) (t_at_t k env is) in
      omega (arith, whole, part)

  d-weight : statement_weight env (d_statement k) ≤ 10
  d-weight = omega (arith, body-small k)

  t-weight : statement_weight env' (t_statement k) ≤ 60
  t-weight = omega (arith, t-light)

  g-weight : statement_weight (env_t env k) (g_statement k) ≤ 30
  g-weight = omega (arith, g-light)

numbered-weight : (k m : ℕ) (env : List Declaration) → Stands k env → weight_after env (numbered k m) ≤ 100 * m
numbered-weight k zero env is = omega arith
numbered-weight k (suc m) env is =
    omega (arith, d-weight k env is, t-weight k env is, g-weight k env is, numbered-weight (suc k) m (env_g env k) (stands-next k env is))

-- ---- counts of each statement

no-sorts : (k m : ℕ) → sort_count (numbered k m) ≡ 0
no-sorts k zero = refl
no-sorts k (suc m) = omega (arith, no-sorts (suc k) m)

few-params : (k m : ℕ) → AllHold (each_within parameter_limit parameter_count 65535 (numbered k m))
few-params k zero = tt
few-params k (suc m) = (omega arith, (omega arith, (omega arith, few-params (suc k) m)))

few-bound : (k m : ℕ) → AllHold (each_within bound_limit bound_count 55 (numbered k m))
few-bound k zero = tt
few-bound k (suc m) = (omega arith, (omega arith, (omega arith, few-bound (suc k) m)))

pub sample-within : (n : ℕ) → n ≤ 10000 → IsWithinLimits (sample_statements n)
sample-within n small =
    let rest : List Statement = numbered 0 n in
    let sorts_ : sort_count (head_then rest) ≤ 128 = omega (arith, no-sorts 0 n) in
    let params : AllHold (each_within parameter_limit parameter_count 65535 (head_then rest)) =
    (omega arith, (omega arith, (omega arith, (omega arith, (omega arith, (omega arith, (omega arith, few-params 0 n))))))) in
    let bound : AllHold (each_within bound_limit bound_count 55 (head_then rest)) =
    (omega arith, (omega arith, (omega arith, (omega arith, (omega arith, (omega arith, (omega arith, few-bound 0 n))))))) in
    let bytes : byte_bound (head_then rest) ≤ 4294967295 = omega (arith, small, numbered-weight 0 n head_declarations head-stands) in (
      sorts_,
      all_hold-both (each_within parameter_limit parameter_count 65535 (head_then rest)) _ params
          (all_hold-both (each_within bound_limit bound_count 55 (head_then rest)) _ bound (bytes, tt)),
    )
