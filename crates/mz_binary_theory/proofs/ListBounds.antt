-- The bound on the statements of a list never ends it: each statement takes a byte.
use Rattle.std.proofs.Common.{◌≡◌, ◌<◌, ◌+◌, ◌-◌, ℕ, zero, suc, List, length, Some, Result, Ok, Err, refl, ap, arith}
use Rattle.mz_cmd.specs.declared.rule.K.{K}
use Rattle.mz_cmd.specs.declared.rule.Refusal.{Refusal}
use Rattle.mz_machine_theory.specs.FileRows.{Taken}
use Rattle.mz_binary_theory.specs.FileRun.{Onward, ended, onward, run_place, find_at, found_steps, follow_list, follow_steps, run_list, list_steps}
use Rattle.mz_binary_theory.specs.WholeLaws.{BoundNeverEndsAList}
use Rattle.mz_binary_theory.proofs.Heads.{head-at}
use Rattle.mz_binary_theory.proofs.Inverting.{goes-there}
use Rattle.mz_binary_theory.specs.Standards.{Standard}

same-list : (n : ℕ) (taken : Taken) (r : Result Onward (ℕ × K)) (f g : Taken → ℕ → Result Taken Refusal)
    → ((after : Taken) (next : ℕ) → r ≡ Ok (onward after next) → f after next ≡ g after next) → follow_list n taken r f ≡ follow_list n taken r g
same-list n taken (Err e) f g same = refl
same-list n taken (Ok ended) f g same = refl
same-list n taken (Ok (onward after next)) f g same = same after next refl

same-steps : (r : Result Onward (ℕ × K)) (f g : Taken → ℕ → ℕ) → ((after : Taken) (next : ℕ) → r ≡ Ok (onward after next) → f after next ≡ g after next) → follow_steps r f ≡ follow_steps r g
same-steps (Err e) f g same = refl
same-steps (Ok ended) f g same = refl
same-steps (Ok (onward after next)) f g same = same after next refl

module _ (standard : Standard) (file : List ℕ) where
  -- less is left after a statement
  less : (taken after : Taken) (at next bound : ℕ) → run_place standard file taken at ≡ Ok (onward after next) → length file - at < suc bound → length file - next < bound
  less taken after at next bound e enough =
      let goes = goes-there standard file taken at after next e in
      let place : next ≡ goes.next = ap-next goes.leads in
      let head = head-at file at goes.code goes.body goes.next goes.stands in
      omega (arith, place, head.further, head.within)
    where
      ap-next : {p q : Taken × ℕ} → Some p ≡ Some q → p.1 ≡ q.1
      ap-next e = cc

  runs : (bound other n : ℕ) (taken : Taken) (at : ℕ) → length file - at < bound → length file - at < other → run_list standard file bound n taken at ≡ run_list standard file other n taken at
  unfolding run_list
  runs zero other n taken at a b = absurd (omega arith)
  runs (suc bound) zero n taken at a b = absurd (omega arith)
  runs (suc bound) (suc other) n taken at a b = same-list n taken (run_place standard file taken at) _ _ λ after next e.
      runs bound other (n + 1) after next (less taken after at next bound e a) (less taken after at next other e b)

  counts : (bound other : ℕ) (taken : Taken) (at : ℕ) → length file - at < bound → length file - at < other → list_steps standard file bound taken at ≡ list_steps standard file other taken at
  unfolding list_steps
  counts zero other taken at a b = absurd (omega arith)
  counts (suc bound) zero taken at a b = absurd (omega arith)
  counts (suc bound) (suc other) taken at a b = ap (λ (z : ℕ). found_steps standard file taken (find_at file taken at) + z)
      (same-steps (run_place standard file taken at) _ _ λ after next e. counts bound other after next (less taken after at next bound e a) (less taken after at next other e b))

pub bound-never-ends : BoundNeverEndsAList
bound-never-ends standard file bound other n taken at a b = (runs standard file bound other n taken at a b, counts standard file bound other taken at a b)
