-- The loop over a body: what the machine keeps, and how many steps it counts at the most.
use Rattle.std.specs.Prelude.{◌↔◌}
use Rattle.std.proofs.Common.{◌≡◌, ◌≤◌, ◌<◌, ◌+◌, ℕ, suc, true, List, length, drop, Result, Ok, Err, refl, sym, ◌∙◌, subst, arith}
use Rattle.std.proofs.lemmas.List.{drop-drop}
use Rattle.mz_cmd.specs.Reading.{first_command}
use Rattle.mz_cmd.specs.declared.rule.K.{K}
use Rattle.mz_logic_theory.specs.Tree.{Tree}
use Rattle.mz_machine_theory.specs.MachineState.{State}
use Rattle.mz_machine_theory.specs.ProofMachine.{proof_end}
use Rattle.mz_machine_theory.specs.Profile.{plain}
use Rattle.mz_machine_theory.specs.Sound.{HasGap}
use Rattle.mz_machine.specs.BodyAnswers.{IsBodyRun, UnlessMem as UnlessBodyMem}
use Rattle.mz_machine.specs.Tidiness.{HasCommands, OneACommand}
use Rattle.mz_machine.specs.declared.body.BodyChecked.{BodyChecked}
use Rattle.mz_machine.specs.declared.body.BodyChecked.TheVariants as checked
use Rattle.mz_machine.specs.Steps.{Underway, tables_for, heading_for, row_of, steps_for, end_steps}
use Rattle.mz_cmd.specs.declared.command.Cmd.{Cmd}
use Rattle.mz_unify.specs.Rows.{StopsBy}
use Rattle.mz_machine.specs.Stepping.{GoesOn, IsFinished, IsStepped, UnlessEndMem, ended_at, stepped_to, stopped_at}
use Rattle.mz_unify.specs.declared.stop.Stop.{Stop}
use Rattle.mz_unify.specs.declared.stop.Stop.TheVariants.{Rule, Mem}
use Rattle.mz_machine.specs.declared.machine.Finished.{Finished}
use Rattle.mz_machine.specs.declared.machine.Finished.TheVariants as finished

-- the same body
pub record IsSameBody (u v : Underway) : Type 0 where
  pub gaps : v.gaps ≡ u.gaps
  pub file : v.file ≡ u.file
  pub kind : v.kind ≡ u.kind
  pub row : v.row ≡ u.row
  pub before : v.before ≡ u.before

pub itself : (u : Underway) → IsSameBody u u
itself u = record { gaps = refl; file = refl; kind = refl; row = refl; before = refl }

pub goes : (u v w : Underway) (c : Cmd) → IsSameBody u v → GoesOn v c w → IsSameBody u w
goes u v w c same on = record { gaps = on.gaps ∙ same.gaps; file = on.file ∙ same.file; kind = on.kind ∙ same.kind; row = on.row ∙ same.row; before = on.before ∙ same.before }

pub same-tables : (u v : Underway) → IsSameBody u v → tables_for v ≡ tables_for u
same-tables u v same = rw (same.file, same.before) refl

pub same-heading : (u v : Underway) → IsSameBody u v → heading_for v ≡ heading_for u
same-heading u v same = rw (same.file, same.kind, same.row) refl

-- a place of the body is one of the file
pub place-fits : (from at whole most : ℕ) → at ≤ whole → from + whole < most → at < most
place-fits from at whole most within small = omega arith

pub row-over : (u v : Underway) (at : ℕ) (st : State Tree) (c : Cmd) (r : Result (State Tree) K) → IsSameBody u v → row_of v.gaps (tables_for v) (heading_for v) at st c ≡ r → row_of u.gaps (tables_for u) (heading_for u) at st c ≡ r
row-over u v at st c r same is = rw (← same.gaps, ← same-tables u v same, ← same-heading u v same) is

pub steps-over : (u v : Underway) (st : State Tree) (c : Cmd) (later steps : ℕ) → IsSameBody u v → later ≡ steps + steps_for v.gaps (tables_for v) (heading_for v) st c → later ≡ steps + steps_for u.gaps (tables_for u) (heading_for u) st c
steps-over u v st c later steps same is = rw (← same.gaps, ← same-tables u v same, ← same-heading u v same) is

pub most-over : (u v : Underway) (later steps : ℕ) → IsSameBody u v → later ≤ steps + (1 + length v.file) → later ≤ steps + (1 + length u.file)
most-over u v later steps same le = subst (λ (file : List ℕ). later ≤ steps + (1 + length file)) same.file le

-- what the END answers is what the run comes to
pub end-answer : (u v : Underway) (bytes : List ℕ) (whole : Result (State Tree) (ℕ × K)) (place : ℕ) (f : Finished) → IsSameBody u v
    → (v.sorry ≡ true) ↔ HasGap bytes
    → ((last : State Tree) → proof_end (plain u.gaps) (tables_for u) (heading_for u) v.state ≡ Ok last → whole ≡ Ok last)
    → ((d : K) → proof_end (plain u.gaps) (tables_for u) (heading_for u) v.state ≡ Err d → whole ≡ Err (place, d))
    → IsFinished v f → IsBodyRun (heading_for u) bytes whole (ended_at place f)
end-answer u v bytes whole place (finished.Body end) same gap ok err (last, is, counts, sorry) =
    (last, ok last (rw (← same.gaps, ← same-tables u v same, ← same-heading u v same) is), rw (← same-heading u v same) counts, (λ e. gap.0 (sym sorry ∙ e), λ h. sorry ∙ gap.1 h))
end-answer u v bytes whole place (finished.Refused d) same gap ok err is = err d (rw (← same.gaps, ← same-tables u v same, ← same-heading u v same) is)
end-answer u v bytes whole place finished.Mem same gap ok err is = tt

pub end-counts : (u v : Underway) (place later steps all : ℕ) (f : Finished) → IsSameBody u v
    → UnlessEndMem f (later ≡ steps + end_steps v.gaps (tables_for v) (heading_for v) v.state)
    → (later ≡ steps + end_steps u.gaps (tables_for u) (heading_for u) v.state → later ≡ all) → UnlessBodyMem (ended_at place f) (later ≡ all)
end-counts u v place later steps all (finished.Body end) same is then = then (rw (← same.gaps, ← same-tables u v same, ← same-heading u v same) is)
end-counts u v place later steps all (finished.Refused d) same is then = then (rw (← same.gaps, ← same-tables u v same, ← same-heading u v same) is)
end-counts u v place later steps all finished.Mem same is then = tt

-- and what a command answers that is stopped
pub stop-answer : (u v : Underway) (bytes : List ℕ) (whole : Result (State Tree) (ℕ × K)) (place : ℕ) (c : Cmd) (after : Underway) (stop : Stop) → IsSameBody u v
    → ((d : K) → row_of u.gaps (tables_for u) (heading_for u) place v.state c ≡ Err d → whole ≡ Err (place, d))
    → IsStepped v c place (stepped_to {A = Unit {0}} after (Err stop)) → IsBodyRun (heading_for u) bytes whole (stopped_at place stop)
stop-answer u v bytes whole place c after (Rule d) same err is = err d (row-over u v place v.state c (Err d) same is)
stop-answer u v bytes whole place c after Mem same err is = tt

pub stop-counts : (u v : Underway) (place later steps all : ℕ) (c : Cmd) (after : Underway) (stop : Stop) → IsSameBody u v
    → IsStepped v c place (stepped_to {A = Unit {0}} after (Err stop)) → StopsBy stop (λ _. later ≡ steps + steps_for v.gaps (tables_for v) (heading_for v) v.state c)
    → ((d : K) → row_of u.gaps (tables_for u) (heading_for u) place v.state c ≡ Err d → later ≡ steps + steps_for u.gaps (tables_for u) (heading_for u) v.state c → later ≡ all)
    → UnlessBodyMem (stopped_at place stop) (later ≡ all)
stop-counts u v place later steps all c after (Rule d) same is many then = then d (row-over u v place v.state c (Err d) same is) (steps-over u v v.state c later steps same many)
stop-counts u v place later steps all c after Mem same is many then = tt

-- ---- the store

pub fewer : (first few many : ℕ) (bytes : List ℕ) → few ≤ many → OneACommand first bytes many → OneACommand first bytes few
fewer first few many bytes le (n, has, most) = (n, has, omega (arith, le, most))

-- with one more for each of some commands behind a place there still is at most one a command
abbrev pub OneSoFar : (first : ℕ) (bytes : List ℕ) (at many : ℕ) → Type 0
OneSoFar first bytes at many = (n : ℕ) → HasCommands n (drop at bytes) → OneACommand first bytes (many + n)

pub none-so-far : (first : ℕ) (bytes : List ℕ) → OneSoFar first bytes 0 first
none-so-far first bytes n has = (n, has, omega arith)

-- the command at the place makes at most one
pub one-so-far : (first : ℕ) (bytes : List ℕ) (at many later : ℕ) (c : Cmd) → first_command (drop at bytes) ≡ Ok c → (c.code ≡ 0 → ⊥) → later ≤ many + 1 → OneSoFar first bytes at many → OneSoFar first bytes (at + c.len) later
one-so-far first bytes at many later c read other more so n has =
    fewer first (later + n) (many + suc n) bytes (omega (arith, more)) (so (suc n) (c, read, other, subst (HasCommands n) (sym (drop-drop c.len at bytes)) has))

pub one-last : (first : ℕ) (bytes : List ℕ) (at many later : ℕ) (c : Cmd) → first_command (drop at bytes) ≡ Ok c → (c.code ≡ 0 → ⊥) → later ≤ many + 1 → OneSoFar first bytes at many → OneACommand first bytes later
one-last first bytes at many later c read other more so = fewer first later (many + 1) bytes more (so 1 (c, read, other, tt))

pub none-last : (first : ℕ) (bytes : List ℕ) (at many : ℕ) → OneSoFar first bytes at many → OneACommand first bytes many
none-last first bytes at many so = fewer first many (many + 0) bytes (omega arith) (so 0 tt)

-- what holds whatever is answered
pub whatever : (r : BodyChecked) (P : Type 0) → P → UnlessBodyMem r P
whatever (checked.Good end) P p = p
whatever (checked.Refused at d) P p = p
whatever checked.Mem P p = tt

pub then-whatever : (r : BodyChecked) (P Q : Type 0) → (P → Q) → UnlessBodyMem r P → UnlessBodyMem r Q
then-whatever (checked.Good end) P Q then p = then p
then-whatever (checked.Refused at d) P Q then p = then p
then-whatever checked.Mem P Q then p = tt
