-- What is answered where a body has run by identity.
use Rattle.std.specs.Prelude.{◌≡◌, ℕ, ⊤, ◌+◌, false, length, Result, Ok, Err}
use Rattle.mz_cmd.specs.declared.rule.K.{K}
use Rattle.mz_machine_theory.specs.MachineState.{State, Heading}
use Rattle.mz_machine.specs.declared.body.BodyEnd.{BodyEnd}
use Rattle.mz_machine.specs.declared.body.BodyChecked.{BodyChecked}
use Rattle.mz_machine.specs.declared.body.BodyChecked.TheVariants.{Good, Refused, Mem}
use Rattle.mz_pmachine_theory.specs.NodeIdentity.{Numbered}

-- the hypotheses of a state and its dummies, which are the variables after the parameters; and no gap
pub record CountsOf (h : Heading) (last : State Numbered) (end : BodyEnd) : Type 0 where
  pub hyps : end.hyps ≡ length last.hyps
  pub dummies : end.dummies + length h.params ≡ length last.ctx
  pub sorry : end.sorry ≡ false

-- the answer is what the run comes to; out of memory says nothing
abbrev pub IsBodyRun : Heading → Result (State Numbered) (ℕ × K) → BodyChecked → Type 0
IsBodyRun h r (Good end) = (last : State Numbered) × (r ≡ Ok last) × CountsOf h last end
IsBodyRun h r (Refused at rule) = r ≡ Err (at, rule)
IsBodyRun h r Mem = ⊤
