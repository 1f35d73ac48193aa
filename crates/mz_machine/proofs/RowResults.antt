-- What the rows of the proof machine give in any machine, case by case: those over the heap.
use Rattle.std.proofs.Common.{◌≡◌, ℕ, suc, Bool, true, false, List, [], ◌∷◌, ◌++◌, Option, Some, None, Ok, Err, length, refl, ap, ◌∙◌}
use Rattle.std.specs.Prelude.{slice_get, nat_lt, if◌then◌else◌}
use Rattle.mz_cmd.specs.declared.rule.K.{K}
use Rattle.mz_cmd.specs.declared.rule.K.TheVariants as k
use Rattle.mz_cmd.specs.declared.code.ProofCode.TheVariants as code
use Rattle.mz_logic_theory.specs.Sorts.{HasSort}
use Rattle.mz_logic_theory.specs.declared.binder.Binder.{Binder}
use Rattle.mz_logic_theory.proofs.Offered.{sort_is}
use Rattle.mz_store.specs.Bits.{bound_from, bound_vars}
use Rattle.mz_machine_theory.specs.Spells.{dummy_of}
use Rattle.mz_machine_theory.specs.Profile.{Profile, Item, expr, proof, obligation, conversion}
use Rattle.mz_unify.proofs.Offered.{Parts, differ}
use Rattle.mz_machine_theory.specs.MachineState.{RowsBefore, State}
use Rattle.mz_machine_theory.specs.Premises.{pop_expr, pop_obligation, is_conversion, is_obligation, may_be_dummy_sort, is_provable_sort, bound_count}
use Rattle.mz_machine_theory.specs.ProofMachine.{proof_step, referred, has_provable_sort}
use Rattle.mz_machine_env.specs.Before.{Before, tables_of, signatures_of}

-- ---- an item of the heap

-- another item is pushed
pub push-row : (P : Profile) (st : State P.T) (x : Item P.T) → is_conversion x ≡ false → referred P x st ≡ Ok (record st { stack = x ∷ st.stack })
push-row P st (expr e) h = refl
push-row P st (proof e) h = refl
push-row P st (obligation l r) h = refl
push-row P st (conversion l r) h = absurd cc

module _ {P : Profile} {head : P.T → Option ℕ} {operands : P.T → List P.T} (parts : Parts P head operands) (st : State P.T) (l r : P.T) where
  pub pay-err : (rule : K) → pop_obligation st.stack ≡ Err rule → referred P (conversion l r) st ≡ Err rule
  pay-err rule h = rw h refl

  pub pay-left : (a b : P.T) (rest : List (Item P.T)) → pop_obligation st.stack ≡ Ok (a, b, rest) → (l ≡ a → ⊥) → referred P (conversion l r) st ≡ Err k.ConversionReference
  pay-left a b rest h other = rw (h, differ parts l a other) refl

  pub pay-right : (a b : P.T) (rest : List (Item P.T)) → pop_obligation st.stack ≡ Ok (a, b, rest) → l ≡ a → (r ≡ b → ⊥) → referred P (conversion l r) st ≡ Err k.ConversionReference
  pay-right a b rest h same other = rw (h, same, parts.itself a, differ parts r b other) refl

  pub pay-row : (a b : P.T) (rest : List (Item P.T)) → pop_obligation st.stack ≡ Ok (a, b, rest) → l ≡ a → r ≡ b → referred P (conversion l r) st ≡ Ok (record st { stack = rest })
  pay-row a b rest h left right = rw (h, left, right, parts.itself a, parts.itself b) refl

module _ (P : Profile) (tables : RowsBefore) (at n : ℕ) (st : State P.T) where
  -- ---- Ref and ConvRef

  pub ref-none : slice_get st.heap n ≡ None → proof_step P tables at code.Ref n st ≡ Err k.HeapIndex
  unfolding proof_step
  ref-none h = rw h refl

  pub ref-row : (x : Item P.T) → slice_get st.heap n ≡ Some x → proof_step P tables at code.Ref n st ≡ referred P x st
  unfolding proof_step
  ref-row x h = rw h refl

  pub conv-ref-none : slice_get st.heap n ≡ None → proof_step P tables at code.ConvRef n st ≡ Err k.HeapIndex
  unfolding proof_step
  conv-ref-none h = rw h refl

  pub conv-ref-other : (x : Item P.T) → slice_get st.heap n ≡ Some x → is_conversion x ≡ false → proof_step P tables at code.ConvRef n st ≡ Err k.Kind
  unfolding proof_step
  conv-ref-other x h other = rw (h, other) refl

  pub conv-ref-row : (x : Item P.T) → slice_get st.heap n ≡ Some x → is_conversion x ≡ true → proof_step P tables at code.ConvRef n st ≡ referred P x st
  unfolding proof_step
  conv-ref-row x h is = rw (h, is) refl

  -- ---- Save

  pub save-none : st.stack ≡ [] → proof_step P tables at code.Save n st ≡ Err k.Underflow
  unfolding proof_step
  save-none h = rw h refl

  pub save-other : (x : Item P.T) (rest : List (Item P.T)) → st.stack ≡ x ∷ rest → is_obligation x ≡ true → proof_step P tables at code.Save n st ≡ Err k.SaveKind
  unfolding proof_step
  save-other x rest h is = rw (h, is) refl

  pub save-row : (x : Item P.T) (rest : List (Item P.T)) → st.stack ≡ x ∷ rest → is_obligation x ≡ false → proof_step P tables at code.Save n st ≡ Ok (record st { heap = st.heap ++ x ∷ [] })
  unfolding proof_step
  save-row x rest h is = rw (h, is) refl

  -- ---- Dummy

  pub dummy-sort-fails : may_be_dummy_sort (slice_get tables.sorts n) ≡ false → proof_step P tables at code.Dummy n st ≡ Err k.DummySort
  unfolding proof_step
  dummy-sort-fails h = rw h refl

  pub dummy-many : may_be_dummy_sort (slice_get tables.sorts n) ≡ true → nat_lt (bound_count st.ctx) 55 ≡ false → proof_step P tables at code.Dummy n st ≡ Err k.DummyCount
  unfolding proof_step
  dummy-many h many = rw (h, many) refl

  pub dummy-row : may_be_dummy_sort (slice_get tables.sorts n) ≡ true → nat_lt (bound_count st.ctx) 55 ≡ true
      → proof_step P tables at code.Dummy n st ≡ Ok (record {
        ctx = st.ctx ++ dummy_of n ∷ [];
        heap = st.heap ++ expr (P.variable (length st.ctx)) ∷ [];
        stack = expr (P.variable (length st.ctx)) ∷ st.stack;
        hyps = st.hyps;
      })
  unfolding proof_step
  dummy-row h few = rw (h, few) refl

  -- ---- Sorry

  pub sorry-row : P.gaps ≡ false → proof_step P tables at code.Sorry n st ≡ Err k.Sorry
  unfolding proof_step
  sorry-row none = rw none refl

  -- ---- Hyp

  pub hyp-err : (rule : K) → pop_expr st.stack ≡ Err rule → proof_step P tables at code.Hyp n st ≡ Err rule
  unfolding proof_step
  hyp-err rule h = rw h refl

  pub hyp-other : (e : P.T) (rest : List (Item P.T)) → pop_expr st.stack ≡ Ok (e, rest) → has_provable_sort P tables st.ctx e ≡ false
      → proof_step P tables at code.Hyp n st ≡ Err k.NotProvable
  unfolding proof_step
  hyp-other e rest h other = rw (h, other) refl

  pub hyp-row : (e : P.T) (rest : List (Item P.T)) → pop_expr st.stack ≡ Ok (e, rest) → has_provable_sort P tables st.ctx e ≡ true
      → proof_step P tables at code.Hyp n st ≡ Ok (record { ctx = st.ctx; heap = st.heap ++ proof e ∷ []; stack = rest; hyps = st.hyps ++ e ∷ [] })
  unfolding proof_step
  hyp-row e rest h is = rw (h, is) refl

-- ---- what the tests mean

-- a sort that is kept with an expression decides whether claims may have it
pub provable : (P : Profile) (b : Before) (ctx : List Binder) (e : P.T) (n : ℕ) (v : Bool) → HasSort (signatures_of b) ctx (P.tree e) n → is_provable_sort (slice_get (tables_of b).sorts n) ≡ v
    → has_provable_sort P (tables_of b) ctx e ≡ v
provable P b ctx e n v sorted is = ap (λ s. is_provable_sort (slice_get (tables_of b).sorts s)) (sort_is (signatures_of b) ctx (P.tree e) n sorted) ∙ is

count-from : (i : ℕ) (bs : List Binder) → bound_count bs ≡ length (bound_from i bs)
count-from i [] = refl
count-from i (b ∷ bs) = go b.bound (count-from (suc i) bs)
  where
    go : (v : Bool) → bound_count bs ≡ length (bound_from (suc i) bs)
        → (if v then suc (bound_count bs) else bound_count bs) ≡ length (if v then i ∷ bound_from (suc i) bs else bound_from (suc i) bs)
    go true e = ap suc e
    go false e = e

pub count-is : (ctx : List Binder) → bound_count ctx ≡ length (bound_vars ctx)
count-is ctx = count-from 0 ctx
