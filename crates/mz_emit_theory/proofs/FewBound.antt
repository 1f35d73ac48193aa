-- Variables that are met once each are no more than the context has.
use Rattle.std.proofs.Common.{◌≡◌, ℕ, zero, suc, ◌+◌, ◌<◌, ◌≤◌, Bool, true, false, cond, List, [], ◌∷◌, ◌++◌, length, refl, sym, ap, ◌∙◌, arith, not-suc-le-zero}
use Rattle.std.specs.Prelude.{Contains, slice_get, Some}
use Rattle.std.proofs.lemmas.List.{map-append}
use Rattle.std.proofs.lemmas.Option.{get_or_from_slice_get}
use Rattle.mz_logic_theory.specs.Legality.{binder_at}
use Rattle.mz_logic_theory.specs.declared.binder.Binder.{Binder}
use Rattle.mz_machine_theory.specs.Spells.{dummy_of}
use Rattle.mz_machine_theory.specs.Premises.{bound_count}
use Rattle.mz_emit_theory.specs.SymbolicState.{met_binders}
use Rattle.mz_emit_theory.specs.BodyLaws.{AreOnce}

count-cons : (b : Binder) (bs : List Binder) → bound_count (b ∷ bs) ≡ bound_count (b ∷ []) + bound_count bs
count-cons b bs = go b.bound
  where
    go : (t : Bool) → cond t (suc (bound_count bs)) (bound_count bs) ≡ cond t 1 0 + bound_count bs
    go true = omega arith
    go false = omega arith

-- the places behind the first
lower : List ℕ → List ℕ
lower [] = []
lower (zero ∷ xs) = lower xs
lower (suc y ∷ xs) = y ∷ lower xs

in-lower : (xs : List ℕ) (y : ℕ) → Contains (lower xs) y → Contains xs (suc y)
unfolding lower
in-lower [] y (k, lt, is) = absurd (not-suc-le-zero lt)
in-lower (zero ∷ xs) y has = let (k, lt, is) = in-lower xs y has in (suc k, omega arith, is)
in-lower (suc z ∷ xs) y (zero, lt, is) = (0, omega arith, ap suc is)
in-lower (suc z ∷ xs) y (suc k, lt, is) = let (i, i-lt, i-is) = in-lower xs y (k, omega arith, is) in (suc i, omega arith, i-is)

once-lower : (xs : List ℕ) → AreOnce xs → AreOnce (lower xs)
unfolding lower
once-lower [] once = tt
once-lower (zero ∷ xs) (_, once) = once-lower xs once
once-lower (suc y ∷ xs) (out, once) = ((λ has. out (in-lower xs y has)), once-lower xs once)

module _ (b : Binder) (bs : List Binder) where
  no-first : (xs : List ℕ) → (Contains xs 0 → ⊥) → bound_count (met_binders (b ∷ bs) xs) ≡ bound_count (met_binders bs (lower xs))
  unfolding lower
  no-first [] out = refl
  no-first (zero ∷ xs) out = absurd (out (0, omega arith, refl))
  no-first (suc y ∷ xs) out =
      count-cons (binder_at bs y) (met_binders (b ∷ bs) xs) ∙ ap (λ (z : ℕ). bound_count (binder_at bs y ∷ []) + z) (no-first xs λ (k, lt, is). out (suc k, omega arith, is))
      ∙ sym (count-cons (binder_at bs y) (met_binders bs (lower xs)))

  with-first : (xs : List ℕ) → AreOnce xs → bound_count (met_binders (b ∷ bs) xs) ≤ bound_count (b ∷ []) + bound_count (met_binders bs (lower xs))
  unfolding lower
  with-first [] once = omega arith
  with-first (zero ∷ xs) (out, once) =
      let split = count-cons b (met_binders (b ∷ bs) xs) in
      let rest = no-first xs out in
      omega (arith, split, rest)
  with-first (suc y ∷ xs) (out, once) =
      let split = count-cons (binder_at bs y) (met_binders (b ∷ bs) xs) in
      let split' = count-cons (binder_at bs y) (met_binders bs (lower xs)) in
      let rest = with-first xs once in
      omega (arith, split, split', rest)

pub no-more : (ctx : List Binder) (met : List ℕ) → AreOnce met → ((x : ℕ) → Contains met x → x < length ctx) → bound_count (met_binders ctx met) ≤ bound_count ctx
no-more [] [] once inside = omega arith
no-more [] (x ∷ met) once inside = absurd (let lt : x < 0 = inside x (0, omega arith, refl) in omega arith)
no-more (b ∷ bs) met once inside =
    let first = with-first b bs met once in
    let rest = no-more bs (lower met) (once-lower met once) (λ y has. let lt : suc y < suc (length bs) = inside (suc y) (in-lower met y has) in omega arith) in
    let split = count-cons b bs in
    omega (arith, first, rest, split)

one-more : (ctx : List Binder) (s : ℕ) → bound_count (ctx ++ dummy_of s ∷ []) ≡ suc (bound_count ctx)
one-more [] s = refl
one-more (b ∷ bs) s = go b.bound (one-more bs s)
  where
    go : (t : Bool) → bound_count (bs ++ dummy_of s ∷ []) ≡ suc (bound_count bs) → cond t (suc (bound_count (bs ++ dummy_of s ∷ []))) (bound_count (bs ++ dummy_of s ∷ [])) ≡ suc (cond t (suc (bound_count bs)) (bound_count bs))
    go true e = ap suc e
    go false e = e

-- where the context has at most 55 bound variables, fewer are met before a further dummy
pub fewer : (ctx : List Binder) (met : List ℕ) (x s : ℕ) → AreOnce (met ++ x ∷ []) → ((y : ℕ) → Contains (met ++ x ∷ []) y → y < length ctx) → slice_get ctx x ≡ Some (dummy_of s)
    → bound_count ctx ≤ 55 → bound_count (met_binders ctx met) < 55
fewer ctx met x s once inside at few =
    let le = no-more ctx (met ++ x ∷ []) once inside in
    let is : met_binders ctx (met ++ x ∷ []) ≡ met_binders ctx met ++ dummy_of s ∷ [] = map-append (binder_at ctx) met (x ∷ []) ∙ ap (λ (z : Binder). met_binders ctx met ++ z ∷ []) (get_or_from_slice_get ctx x (dummy_of s) _ at) in
    let more = ap bound_count is ∙ one-more (met_binders ctx met) s in
    omega (arith, le, more, few)
