-- Whether the stack of a machine has enough operands.
use Rattle.std.proofs.Common.{◌≡◌, ◌<◌, ◌≤◌, ℕ, Bool, true, false, List, [], length, Result, refl, arith, le-leb, leb-true}
use Rattle.std.specs.Prelude.{nat_le}
use Rattle.mz_cmd.specs.declared.rule.K.{K}
use Rattle.mz_machine_theory.specs.Profile.{Item}
use Rattle.mz_machine_theory.specs.Premises.{pop_exprs, pop_operands}

pub too-few : (n m : ℕ) → m < n → nat_le n m ≡ false
too-few n m few = go (nat_le n m) refl
  where
    go : (b : Bool) → nat_le n m ≡ b → nat_le n m ≡ false
    go true is = absurd (let e : n ≤ m = leb-true n m is in omega arith)
    go false is = is

-- where there are enough, the rest of the premises decides
pub pop-enough : {T : Type 0} (n : ℕ) (xs : List (Item T)) (r : Result (List T × List (Item T)) K) → n ≤ length xs → pop_exprs n xs [] ≡ r → pop_operands n xs ≡ r
pop-enough n xs r enough h = rw (le-leb n (length xs) enough) h
