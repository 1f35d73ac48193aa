-- Dummies after the parameters.
use Rattle.std.proofs.Common.{◌≡◌, ◌≤◌, ◌+◌, ℕ, zero, suc, Bool, true, false, List, [], ◌∷◌, ◌++◌, length, All, refl, ap, arith, length-append, not-suc-le-zero}
use Rattle.std.specs.Prelude.{if◌then◌else◌}
use Rattle.mz_logic_theory.specs.Legality.{IsDummy}
use Rattle.mz_logic_theory.specs.declared.binder.Binder.{Binder}
use Rattle.mz_store.specs.Bits.{bound_vars}
use Rattle.mz_store.specs.Sharing.{dummy_binder}
use Rattle.mz_machine_theory.specs.Premises.{bound_count}
use Rattle.mz_machine.specs.OverStore.{IsContextOf}
use Rattle.mz_machine.proofs.RowResults.{count-is}

pub no-dummies : All IsDummy []
no-dummies i d below = absurd (not-suc-le-zero below)

pub a-dummy : (sort : ℕ) → All IsDummy (dummy_binder sort ∷ [])
a-dummy sort zero d below = (refl, refl)
a-dummy sort (suc i) d below = absurd (omega (arith, below))

count-all : (ds : List Binder) → All IsDummy ds → bound_count ds ≡ length ds
count-all [] all = refl
count-all (d ∷ ds) all = go d.bound (all 0 d (omega arith)).0 (count-all ds (λ i e below. all (suc i) e (omega (arith, below))))
  where
    go : (v : Bool) → v ≡ true → bound_count ds ≡ length ds → (if v then suc (bound_count ds) else bound_count ds) ≡ suc (length ds)
    go true is e = ap suc e
    go false is e = absurd cc

pub count-after : (ps ds : List Binder) → bound_count (ps ++ ds) ≡ bound_count ps + bound_count ds
count-after [] ds = omega arith
count-after (p ∷ ps) ds = go p.bound (count-after ps ds)
  where
    go : (v : Bool) → bound_count (ps ++ ds) ≡ bound_count ps + bound_count ds
        → (if v then suc (bound_count (ps ++ ds)) else bound_count (ps ++ ds)) ≡ (if v then suc (bound_count ps) else bound_count ps) + bound_count ds
    go true e = omega (arith, e)
    go false e = e

-- bound variables that aren't parameters are those after the parameters
pub bound-more : (ps ctx : List Binder) → IsContextOf ps ctx → length (bound_vars ctx) + length ps ≡ length (bound_vars ps) + length ctx
bound-more ps ctx (ds, is, all) = omega (
  arith,
  count-is ctx,
  count-is ps,
  ap bound_count is,
  count-after ps ds,
  count-all ds all,
  ap length is,
  length-append ps ds,
)

pub context-longer : (ps ctx : List Binder) → IsContextOf ps ctx → length ps ≤ length ctx
context-longer ps ctx (ds, is, all) = omega (arith, ap length is, length-append ps ds)
