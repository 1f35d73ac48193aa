-- The plan of a fake in memory: how many calls were made, and the numbers of those that are to fail.
use Rattle.std.specs.Prelude.{◌≡◌, ◌<◌, ◌+◌, ◌-◌, ◌^◌, ℕ, min, Contains}
use Rattle.mz_io.specs.declared.plan.Plan.{Plan}

-- the number of the next call
abbrev pub next_number : Plan → ℕ
next_number plan = min (plan.calls + 1) (2 ^ 64 - 1)

-- the next call is listed to fail
abbrev pub IsListed : Plan → Type 0
IsListed plan = Contains plan.listed.items (next_number plan)

-- no coming call is listed to fail: the numbers that are listed lie behind
abbrev pub IsClear : Plan → Type 0
IsClear plan = (n : ℕ) → Contains plan.listed.items n → n < next_number plan

-- as many calls were made, and the same are listed
pub record SamePlan (old new : Plan) : Type 0 where
  pub calls : new.calls ≡ old.calls
  pub listed : new.listed.items ≡ old.listed.items

-- one more call was made, and the same are listed
pub record CountsCall (old new : Plan) : Type 0 where
  pub calls : new.calls ≡ next_number old
  pub listed : new.listed.items ≡ old.listed.items
