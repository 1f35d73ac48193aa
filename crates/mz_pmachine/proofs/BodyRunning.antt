-- The loop over a body: what the machine keeps, and how many steps it counts at the most.
use Rattle.std.proofs.Common.{◌≡◌, ◌≤◌, ◌+◌, ℕ, List, length, Result, Ok, Err, refl, ◌∙◌, subst}
use Rattle.mz_cmd.specs.declared.rule.K.{K}
use Rattle.mz_pmachine_theory.specs.NodeIdentity.{Numbered, portable}
use Rattle.mz_machine_theory.specs.MachineState.{State}
use Rattle.mz_machine_theory.specs.ProofMachine.{proof_end}
use Rattle.mz_pmachine.specs.BodyAnswers.{IsBodyRun}
use Rattle.mz_machine.specs.BodyAnswers.{UnlessMem as UnlessBodyMem}
use Rattle.mz_pmachine.specs.Steps.{Underway, tables_for, heading_for, row_of, steps_for, end_steps}
use Rattle.mz_cmd.specs.declared.command.Cmd.{Cmd}
use Rattle.mz_unify.specs.Rows.{StopsBy}
use Rattle.mz_pmachine.specs.Stepping.{GoesOn, IsFinished, IsStepped}
use Rattle.mz_machine.specs.Stepping.{UnlessEndMem, ended_at, stopped_at}
use Rattle.mz_unify.specs.declared.stop.Stop.{Stop}
use Rattle.mz_unify.specs.declared.stop.Stop.TheVariants.{Rule, Mem}
use Rattle.mz_machine.specs.declared.machine.Finished.{Finished}
use Rattle.mz_machine.specs.declared.machine.Finished.TheVariants as finished

-- the same body
pub record IsSameBody (u v : Underway) : Type 0 where
  pub file : v.file ≡ u.file
  pub kind : v.kind ≡ u.kind
  pub row : v.row ≡ u.row
  pub before : v.before ≡ u.before

pub itself : (u : Underway) → IsSameBody u u
itself u = record { file = refl; kind = refl; row = refl; before = refl }

pub goes : (u v w : Underway) (at : ℕ) → IsSameBody u v → GoesOn v at w → IsSameBody u w
goes u v w at same on = record { file = on.file ∙ same.file; kind = on.kind ∙ same.kind; row = on.row ∙ same.row; before = on.before ∙ same.before }

pub same-tables : (u v : Underway) → IsSameBody u v → tables_for v ≡ tables_for u
same-tables u v same = rw (same.file, same.before) refl

pub same-heading : (u v : Underway) → IsSameBody u v → heading_for v ≡ heading_for u
same-heading u v same = rw (same.file, same.kind, same.row) refl

pub row-over : (u v : Underway) (at : ℕ) (st : State Numbered) (c : Cmd) (r : Result (State Numbered) K) → IsSameBody u v → row_of (tables_for v) (heading_for v) at st c ≡ r → row_of (tables_for u) (heading_for u) at st c ≡ r
row-over u v at st c r same is = rw (← same-tables u v same, ← same-heading u v same) is

pub steps-over : (u v : Underway) (st : State Numbered) (c : Cmd) (later steps : ℕ) → IsSameBody u v → later ≡ steps + steps_for (tables_for v) (heading_for v) st c → later ≡ steps + steps_for (tables_for u) (heading_for u) st c
steps-over u v st c later steps same is = rw (← same-tables u v same, ← same-heading u v same) is

pub most-over : (u v : Underway) (later steps : ℕ) → IsSameBody u v → later ≤ steps + (1 + length v.file) → later ≤ steps + (1 + length u.file)
most-over u v later steps same le = subst (λ (file : List ℕ). later ≤ steps + (1 + length file)) same.file le

-- what the END answers is what the run comes to
pub end-answer : (u v : Underway) (whole : Result (State Numbered) (ℕ × K)) (place : ℕ) (f : Finished) → IsSameBody u v
    → ((last : State Numbered) → proof_end portable (tables_for u) (heading_for u) v.state ≡ Ok last → whole ≡ Ok last)
    → ((d : K) → proof_end portable (tables_for u) (heading_for u) v.state ≡ Err d → whole ≡ Err (place, d))
    → IsFinished v f → IsBodyRun (heading_for u) whole (ended_at place f)
end-answer u v whole place (finished.Body end) same ok err (last, is, counts) =
    (last, ok last (rw (← same-tables u v same, ← same-heading u v same) is), rw (← same-heading u v same) counts)
end-answer u v whole place (finished.Refused d) same ok err is = err d (rw (← same-tables u v same, ← same-heading u v same) is)
end-answer u v whole place finished.Mem same ok err is = tt

pub end-counts : (u v : Underway) (place later steps all : ℕ) (f : Finished) → IsSameBody u v
    → UnlessEndMem f (later ≡ steps + end_steps (tables_for v) (heading_for v) v.state)
    → (later ≡ steps + end_steps (tables_for u) (heading_for u) v.state → later ≡ all) → UnlessBodyMem (ended_at place f) (later ≡ all)
end-counts u v place later steps all (finished.Body end) same is then = then (rw (← same-tables u v same, ← same-heading u v same) is)
end-counts u v place later steps all (finished.Refused d) same is then = then (rw (← same-tables u v same, ← same-heading u v same) is)
end-counts u v place later steps all finished.Mem same is then = tt

-- and what a command answers that is stopped
pub stop-answer : (u v : Underway) (whole : Result (State Numbered) (ℕ × K)) (place : ℕ) (c : Cmd) (after : Underway) (stop : Stop) → IsSameBody u v
    → ((d : K) → row_of (tables_for u) (heading_for u) place v.state c ≡ Err d → whole ≡ Err (place, d))
    → IsStepped {A = Unit {0}} v c place after (Err stop) → IsBodyRun (heading_for u) whole (stopped_at place stop)
stop-answer u v whole place c after (Rule d) same err is = err d (row-over u v place v.state c (Err d) same is)
stop-answer u v whole place c after Mem same err is = tt

pub stop-counts : (u v : Underway) (place later steps all : ℕ) (c : Cmd) (after : Underway) (stop : Stop) → IsSameBody u v
    → IsStepped {A = Unit {0}} v c place after (Err stop) → StopsBy stop (λ _. later ≡ steps + steps_for (tables_for v) (heading_for v) v.state c)
    → ((d : K) → row_of (tables_for u) (heading_for u) place v.state c ≡ Err d → later ≡ steps + steps_for (tables_for u) (heading_for u) v.state c → later ≡ all)
    → UnlessBodyMem (stopped_at place stop) (later ≡ all)
stop-counts u v place later steps all c after (Rule d) same is many then = then d (row-over u v place v.state c (Err d) same is) (steps-over u v v.state c later steps same many)
stop-counts u v place later steps all c after Mem same is many then = tt
