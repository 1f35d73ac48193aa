-- Operands that are tested one by one fit a term's parameters.
use Rattle.std.proofs.Common.{ℕ, suc, ◌≡◌, ◌<◌, ◌≤◌, true, List, [], ◌∷◌, length, take, drop, get_or, slice_get, Some, Result, Ok, Err, OnOk, OnErr, ap, sym, subst, arith}
use Rattle.mz_base.proofs.Offered.{drop-past}
use Rattle.mz_logic_theory.specs.Signature.{Signature}
use Rattle.mz_logic_theory.specs.Sorts.{HasSort, Fits, IsBoundVar}
use Rattle.mz_logic_theory.specs.Words.{word_bound, word_sort, bound_places, binder_of, binders_of}
use Rattle.mz_logic_theory.specs.declared.word.Word.{Word}
use Rattle.mz_logic_theory.specs.declared.binder.Binder.{Binder}
use Rattle.mz_logic_theory.proofs.Offered.{length-binders}
use Rattle.mz_store.specs.Sharing.{Sharing, tree_of, trees_of, IsIn, AreIn, IsOver, IsEmpty}
use Rattle.mz_store.specs.declared.item.Id.{Id}
use Rattle.mz_store.proofs.Params.{nothing, next-id, next-binder}

pub in-next : (s : Sharing) (is : List Id) (i j : ℕ) → i < length is → j ≡ suc i → (AreIn s (drop i is) → AreIn s is) → IsIn s (get_or is i nothing).0 → AreIn s (drop j is) → AreIn s is
in-next s is i j less next whole here rest =
    whole (subst (AreIn s) (sym (next-id is i less)) (here, subst (λ k. AreIn s (drop k is)) next rest))

pub fit-next : (sigs : List Signature) (ctx : List Binder) (s : Sharing) (is : List Id) (ws : List Word) (i j : ℕ) (w : Word) → slice_get ws i ≡ Some w → i < length is → j ≡ suc i
    → (Fits sigs ctx (trees_of s (drop i is)) (drop i (binders_of ws)) → Fits sigs ctx (trees_of s is) (binders_of ws))
    → HasSort sigs ctx (tree_of s (get_or is i nothing).0) (word_sort w) → (word_bound w ≡ true → IsBoundVar ctx (tree_of s (get_or is i nothing).0))
    → Fits sigs ctx (trees_of s (drop j is)) (drop j (binders_of ws)) → Fits sigs ctx (trees_of s is) (binders_of ws)
fit-next sigs ctx s is ws i j w at less next whole sort bound rest =
    whole (subst (Fits sigs ctx (trees_of s (drop i is))) (sym (next-binder ws i w at))
    (subst (λ (js : List Id). Fits sigs ctx (trees_of s js) (binder_of (bound_places 0 (take i ws)) w ∷ drop (suc i) (binders_of ws))) (sym (next-id is i less))
    (sort, bound, subst (λ k. Fits sigs ctx (trees_of s (drop k is)) (drop k (binders_of ws))) next rest)))

pub in-all : (s : Sharing) (is : List Id) (i : ℕ) → length is ≤ i → (AreIn s (drop i is) → AreIn s is) → AreIn s is
in-all s is i past whole = whole (subst (AreIn s) (sym (drop-past is i past)) tt)

pub fit-all : (sigs : List Signature) (ctx : List Binder) (s : Sharing) (is : List Id) (ws : List Word) (i : ℕ) → length is ≤ i → length ws ≡ length is
    → (Fits sigs ctx (trees_of s (drop i is)) (drop i (binders_of ws)) → Fits sigs ctx (trees_of s is) (binders_of ws)) → Fits sigs ctx (trees_of s is) (binders_of ws)
fit-all sigs ctx s is ws i past many whole =
    whole (subst (λ (js : List Id). Fits sigs ctx (trees_of s js) (drop i (binders_of ws))) (sym (drop-past is i past))
    (subst (Fits sigs ctx (trees_of s [])) (sym (drop-past (binders_of ws) i (let e : length (binders_of ws) ≡ length ws = length-binders 0 [] ws in omega arith))) tt))

-- a store is right after `begin`, whatever it answers
pub over-begun : {A E : Type 0} (s : Sharing) (r : Result A E) → OnOk r ((sigs : List Signature) → IsOver sigs s) → OnErr r (IsEmpty s) → (sigs : List Signature) → IsOver sigs s
over-begun s (Ok x) over empty sigs = over sigs
over-begun s (Err e) over empty sigs = λ i inside. absurd (let none : length s.entries ≡ 0 = ap length empty.1 in omega arith)

-- and after a call that keeps it right, or leaves it as it was
pub over-after : {A E : Type 0} (sigs : List Signature) (s s' : Sharing) (r : Result A E) → OnOk r (IsOver sigs s') → OnErr r (s' ≡ s) → IsOver sigs s → IsOver sigs s'
over-after sigs s s' (Ok x) right same over = right
over-after sigs s s' (Err e) right same over = subst (IsOver sigs) (sym same) over

pub over-grown : {A E : Type 0} (sigs : List Signature) (s s' : Sharing) (r : Result A E) → OnOk r ((sigs' : List Signature) → IsOver sigs' s → IsOver sigs' s') → OnErr r (s' ≡ s)
    → IsOver sigs s → IsOver sigs s'
over-grown sigs s s' (Ok x) right same over = right sigs over
over-grown sigs s s' (Err e) right same over = subst (IsOver sigs) (sym same) over
