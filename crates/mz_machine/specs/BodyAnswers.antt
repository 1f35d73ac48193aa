-- What is answered where a body has run: its first failing command, or how many hypotheses and dummies it left
-- (documents of the .mmb format, on proof streams and the proof machine).
use Rattle.std.specs.Prelude.{◌≡◌, ◌↔◌, ℕ, ⊤, ◌+◌, true, List, length, Result, Ok, Err}
use Rattle.mz_cmd.specs.declared.rule.K.{K}
use Rattle.mz_logic_theory.specs.Tree.{Tree}
use Rattle.mz_machine_theory.specs.MachineState.{State, Heading}
use Rattle.mz_machine_theory.specs.Sound.{HasGap}
use Rattle.mz_machine.specs.declared.body.BodyEnd.{BodyEnd}
use Rattle.mz_machine.specs.declared.body.BodyChecked.{BodyChecked}
use Rattle.mz_machine.specs.declared.body.BodyChecked.TheVariants.{Good, Refused, Mem}

-- the hypotheses of a state and its dummies, which are the variables after the parameters
pub record CountsOf (h : Heading) (last : State Tree) (end : BodyEnd) : Type 0 where
  pub hyps : end.hyps ≡ length last.hyps
  pub dummies : end.dummies + length h.params ≡ length last.ctx

-- the answer is what the run of these bytes comes to; out of memory says nothing
abbrev pub IsBodyRun : Heading → List ℕ → Result (State Tree) (ℕ × K) → BodyChecked → Type 0
IsBodyRun h bytes r (Good end) = (last : State Tree) × (r ≡ Ok last) × CountsOf h last end × ((end.sorry ≡ true) ↔ HasGap bytes)
IsBodyRun h bytes r (Refused at rule) = r ≡ Err (at, rule)
IsBodyRun h bytes r Mem = ⊤

abbrev pub UnlessMem : BodyChecked → Type 0 → Type 0
UnlessMem (Good end) P = P
UnlessMem (Refused at rule) P = P
UnlessMem Mem P = ⊤

-- where it has run, this holds
abbrev pub WhereGood : BodyChecked → Type 0 → Type 0
WhereGood (Good end) P = P
WhereGood (Refused at rule) P = ⊤
WhereGood Mem P = ⊤
