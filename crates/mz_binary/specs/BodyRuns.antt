-- What is answered where a body has run, on whichever machine.
use Rattle.std.specs.Prelude.{◌≡◌, ◌↔◌, ⊤, ℕ, true, List, Result, Ok, Err}
use Rattle.mz_cmd.specs.declared.rule.K.{K}
use Rattle.mz_machine_theory.specs.MachineState.{State}
use Rattle.mz_machine_theory.specs.Sound.{HasGap}
use Rattle.mz_machine.specs.declared.body.BodyChecked.{BodyChecked}
use Rattle.mz_machine.specs.declared.body.BodyChecked.TheVariants as bodies
use Rattle.mz_binary_theory.specs.Standards.{Standard, lets_gaps}

-- The answer is what the run of these bytes comes to, and where gaps are let through it says whether they leave one.
-- Out of memory says nothing.
abbrev pub IsBodyRun : {T : Type 0} → Standard → List ℕ → Result (State T) (ℕ × K) → BodyChecked → Type 0
IsBodyRun {T} standard bytes r (bodies.Good end) = (last : State T) × (r ≡ Ok last) × (lets_gaps standard ≡ true → (end.sorry ≡ true) ↔ HasGap bytes)
IsBodyRun standard bytes r (bodies.Refused at rule) = r ≡ Err (at, rule)
IsBodyRun standard bytes r bodies.Mem = ⊤
